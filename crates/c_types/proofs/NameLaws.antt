-- Tables of names, and which names a file declares.
use Rattle.std.proofs.Common.{◌≡◌, refl, sym, ◌∙◌, ap, ℕ, ◌+◌, ◌<◌, Bool, true, false, not, ◌&&◌, ◌||◌, cond, List, [], ◌∷◌, ◌++◌, map}
use Rattle.std.proofs.Common.{take, length, get_or, position, Some}
use Rattle.std.specs.Prelude.{if◌then◌else◌}
use Rattle.std.specs.List.{filter, list_any, position_from, IsDistinct as apart}
use Rattle.std.specs.Str.{bytes_eq}
use Rattle.std.specs.Cmp.Lexicographic.{nat_list_eq_equiv}
use Rattle.std.proofs.lemmas.Iterator.Adapters.{position_from-zero}
use Rattle.std.proofs.lemmas.List.{take_more, map-append, append-nil}
use Rattle.std.proofs.lemmas.List.Folds.{list_any_more}
use Rattle.std.proofs.lemmas.List.Elements.{filter-append}
use Rattle.std.proofs.lemmas.Map.Keys.{IsDistinct-head, IsDistinct-tail}
use Rattle.std.specs.List.{AllByRecursion}
use Rattle.std.proofs.lemmas.Slice.Eq.{bytes_eq-Decides}
use Rattle.c_types.specs.Files.{Mention, FileNames, number_among, name_in, once, defined_as, is_library, names_by}
use Rattle.c_types.specs.Tables.{with_name, IsDistinct, is_elsewhere}

abbrev Name : Type 0
Name = List ℕ

-- ---- keys and their names

position_from-map : {K : Type 0} (ks : List K) (name_of : K → Name) (test : Name → Bool) (i : ℕ) →
    position_from test i (map name_of ks) ≡ position_from (λ k. test (name_of k)) i ks
position_from-map [] name_of test i = refl
position_from-map (k ∷ ks) name_of test i =
    ap (cond (test (name_of k)) (Some i)) (position_from-map ks name_of test (i + 1))

-- the place of a key is the number of its name
pub number_is : {K : Type 0} (ks : List K) (name_of : K → Name) (name : Name) →
    position (λ k. bytes_eq name (name_of k)) ks ≡ number_among (map name_of ks) name
number_is ks name_of name =
    position_from-zero (λ k. bytes_eq name (name_of k)) ks ∙ sym (position_from-map ks name_of (bytes_eq name) 0)

pub any-map : {K : Type 0} (ks : List K) (name_of : K → Name) (name : Name) →
    list_any (λ k. bytes_eq name (name_of k)) ks ≡ list_any (bytes_eq name) (map name_of ks)
any-map [] name_of name = refl
any-map (k ∷ ks) name_of name = ap (λ b. bytes_eq name (name_of k) || b) (any-map ks name_of name)

pub added_is : {K : Type 0} (ks : List K) (name_of : K → Name) (k : K) →
    map name_of (if list_any (λ x. bytes_eq (name_of k) (name_of x)) ks then ks else ks ++ k ∷ []) ≡ with_name (map name_of ks) (name_of k)
added_is ks name_of k =
    chosen (list_any (λ x. bytes_eq (name_of k) (name_of x)) ks)
    ∙ ap (λ b. if b then map name_of ks else map name_of ks ++ name_of k ∷ []) (any-map ks name_of (name_of k))
  where
    chosen : (b : Bool) → map name_of (if b then ks else ks ++ k ∷ []) ≡ (if b then map name_of ks else map name_of ks ++ name_of k ∷ [])
    chosen true = refl
    chosen false = map-append name_of ks (k ∷ [])

none_is : {K : Type 0} (ks : List K) (name_of : K → Name) (name : Name) →
    AllByRecursion (λ k. bytes_eq name (name_of k) ≡ false) ks → list_any (bytes_eq name) (map name_of ks) ≡ false
none_is [] name_of name all = refl
none_is (k ∷ ks) name_of name all =
    ap (λ b. b || list_any (bytes_eq name) (map name_of ks)) all.0 ∙ none_is ks name_of name all.1

pub distinct_is : {K : Type 0} (ks : List K) (name_of : K → Name) → apart (λ x y. bytes_eq (name_of x) (name_of y)) ks →
    IsDistinct (map name_of ks)
distinct_is [] name_of distinct = tt
distinct_is (k ∷ ks) name_of distinct = (
  none_is ks name_of (name_of k) (IsDistinct-head (λ x y. bytes_eq (name_of x) (name_of y)) k ks distinct),
  distinct_is ks name_of (IsDistinct-tail (λ x y. bytes_eq (name_of x) (name_of y)) k ks distinct),
)

-- ---- a name that is added

or_last : (a b c : Bool) → ((a || b) || c) ≡ (b || (a || c))
or_last true true c = refl
or_last true false c = refl
or_last false true c = refl
or_last false false c = refl

or_false : (b : Bool) → (b || false) ≡ b
or_false true = refl
or_false false = refl

abbrev OnceMore : List Name → List Name → Name → Type 0
OnceMore seen ns n = once seen (ns ++ n ∷ []) ≡
    (if list_any (bytes_eq n) seen || list_any (bytes_eq n) (once seen ns) then once seen ns else once seen ns ++ n ∷ [])

-- the names once, with one more
once_more : (seen ns : List Name) (n : Name) → OnceMore seen ns n
once_more seen [] n =
    chosen (list_any (bytes_eq n) seen)
  where
    chosen : (b : Bool) → (if b then [] else n ∷ []) ≡ (if b || false then [] else n ∷ [])
    chosen true = refl
    chosen false = refl
once_more seen (m ∷ ns) n = chosen (list_any (bytes_eq m) seen) (once_more seen ns n) (once_more (m ∷ seen) ns n)
  where
    chosen : (b : Bool) → OnceMore seen ns n → OnceMore (m ∷ seen) ns n →
        (if b then once seen (ns ++ n ∷ []) else m ∷ once (m ∷ seen) (ns ++ n ∷ [])) ≡
        (if list_any (bytes_eq n) seen || list_any (bytes_eq n) (if b then once seen ns else m ∷ once (m ∷ seen) ns)
        then (if b then once seen ns else m ∷ once (m ∷ seen) ns) else (if b then once seen ns else m ∷ once (m ∷ seen) ns) ++ n ∷ [])
    chosen true same more = same
    chosen false same more =
        let o = once (m ∷ seen) ns in
        let here : (b : Bool) → m ∷ (if b then o else o ++ n ∷ []) ≡ (if b then m ∷ o else m ∷ (o ++ n ∷ [])) =
        λ b. elim b as (λ b. m ∷ (if b then o else o ++ n ∷ []) ≡ (if b then m ∷ o else m ∷ (o ++ n ∷ [])))
        [ true ↦ refl | false ↦ refl ] in
        ap (λ l. m ∷ l) more
        ∙ here ((bytes_eq n m || list_any (bytes_eq n) seen) || list_any (bytes_eq n) o)
        ∙ ap (λ b. if b then m ∷ o else m ∷ (o ++ n ∷ [])) (or_last (bytes_eq n m) (list_any (bytes_eq n) seen) (list_any (bytes_eq n) o))

or_regroup : (a b c : Bool) → (a || (b || c)) ≡ ((a || b) || c)
or_regroup true b c = refl
or_regroup false b c = refl

any_last : (xs : List Name) (n name : Name) → list_any (bytes_eq name) (xs ++ n ∷ []) ≡ (list_any (bytes_eq name) xs || bytes_eq name n)
any_last [] n name = or_false (bytes_eq name n)
any_last (x ∷ xs) n name =
    ap (λ b. bytes_eq name x || b) (any_last xs n name) ∙ or_regroup (bytes_eq name x) (list_any (bytes_eq name) xs) (bytes_eq name n)

any_with : (names : List Name) (n name : Name) → list_any (bytes_eq name) (with_name names n) ≡
    (list_any (bytes_eq name) names || bytes_eq name n)
any_with names n name = chosen (list_any (bytes_eq n) names) refl (bytes_eq name n) refl
  where
    chosen : (b : Bool) → list_any (bytes_eq n) names ≡ b → (same : Bool) → bytes_eq name n ≡ same →
        list_any (bytes_eq name) (if b then names else names ++ n ∷ []) ≡ (list_any (bytes_eq name) names || same)
    chosen true there true is =
        let alike : name ≡ n = (bytes_eq-Decides name n).0 is in
        let found : list_any (bytes_eq name) names ≡ true = ap (λ x. list_any (bytes_eq x) names) alike ∙ there in
        found ∙ sym (ap (λ b. b || true) found)
    chosen true there false is = sym (or_false (list_any (bytes_eq name) names))
    chosen false there same is = any_last names n name ∙ ap (λ b. list_any (bytes_eq name) names || b) is

-- ---- the loops over what a file declares

abbrev so_far : (Name → Bool) → List Mention → ℕ → List Name
so_far p ms i = once [] (filter p (map name_in (take i ms)))

-- one declaration more
pub chosen_more : (p : Name → Bool) (ms : List Mention) (i : ℕ) (m : Mention) (take_it : Bool) (old new : List Name) → i < length ms →
    m ≡ get_or ms i m → take_it ≡ p m.name → old ≡ so_far p ms i → new ≡ (if take_it then with_name old m.name else old) →
    new ≡ so_far p ms (i + 1)
chosen_more p ms i m take_it old new within is told was now =
    let all : map name_in (take (i + 1) ms) ≡ map name_in (take i ms) ++ m.name ∷ [] =
    ap (map name_in) (take_more ms i m within ∙ ap (λ x. take i ms ++ x ∷ []) (sym is)) ∙ map-append name_in (take i ms) (m ∷ []) in
    let kept : filter p (map name_in (take (i + 1) ms)) ≡ filter p (map name_in (take i ms)) ++ filter p (m.name ∷ []) =
    ap (filter p) all ∙ filter-append p (map name_in (take i ms)) (m.name ∷ []) in
    now ∙ ap (λ o. if take_it then with_name o m.name else o) was ∙ ap (λ b. if b then with_name (so_far p ms i) m.name else so_far p ms
    i) told
    ∙ chosen (p m.name) ∙ sym (ap (once []) kept)
  where
    nothing_more : (xs : List Name) → once [] xs ≡ once [] (xs ++ [])
    nothing_more xs = ap (once []) (sym (append-nil xs))

    chosen : (b : Bool) → (if b then with_name (so_far p ms i) m.name else so_far p ms i) ≡
        once [] (filter p (map name_in (take i ms)) ++ cond b (m.name ∷ []) [])
    chosen true = sym (once_more [] (filter p (map name_in (take i ms))) m.name)
    chosen false = nothing_more (filter p (map name_in (take i ms)))

and_true : (b : Bool) → b ≡ (b && true)
and_true true = refl
and_true false = refl

and_false : (b : Bool) → (b && false) ≡ false
and_false true = refl
and_false false = refl

and_regroup : (a b c : Bool) → (a && (b && c)) ≡ ((a && b) && c)
and_regroup true b c = refl
and_regroup false b c = refl

abbrev defines_it : Bool → Mention → Bool
defines_it function m = m.defines && (if m.function then function else not function)

pub defined_more : (function : Bool) (ms : List Mention) (i : ℕ) (m : Mention) (take_it : Bool) (old new : List Name) (name : Name) →
    i < length ms →
    m ≡ get_or ms i m → take_it ≡ defines_it function m → list_any (bytes_eq name) old ≡ defined_as function (take i ms) name →
    new ≡ (if take_it then with_name old m.name else old) → list_any (bytes_eq name) new ≡ defined_as function (take (i + 1) ms) name
defined_more function ms i m take_it old new name within is told was now =
    let test : Mention → Bool = λ m. bytes_eq m.name name && m.defines && (if m.function then function else not function) in
    ap (list_any (bytes_eq name)) now ∙ chosen take_it
    ∙ ap (λ b. list_any (bytes_eq name) old || (b && take_it)) (nat_list_eq_equiv.symm name m.name)
    ∙ ap (λ b. list_any (bytes_eq name) old || (bytes_eq m.name name && b)) told
    ∙ ap (λ b. list_any (bytes_eq name) old || b) (and_regroup (bytes_eq m.name name) m.defines
    (if m.function then function else not function))
    ∙ ap (λ b. b || test m) was ∙ ap (λ x. defined_as function (take i ms) name || test x) is ∙ sym (list_any_more test ms i m within)
  where
    chosen : (b : Bool) → list_any (bytes_eq name) (if b then with_name old m.name else old) ≡
        (list_any (bytes_eq name) old || (bytes_eq name m.name && b))
    chosen true = any_with old m.name name ∙ ap (λ b. list_any (bytes_eq name) old || b) (and_true (bytes_eq name m.name))
    chosen false = sym (ap (λ b. list_any (bytes_eq name) old || b) (and_false (bytes_eq name m.name)) ∙
        or_false (list_any (bytes_eq name) old))

-- ---- the order of first declarations

filter_alike : (p q : Name → Bool) → ((n : Name) → p n ≡ q n) → (ns : List Name) → filter p ns ≡ filter q ns
filter_alike p q alike [] = refl
filter_alike p q alike (n ∷ ns) =
    ap (λ b. cond b (n ∷ filter p ns) (filter p ns)) (alike n) ∙ ap (λ l. cond (q n) (n ∷ l) l) (filter_alike p q alike ns)

-- names are chosen before or after the repeats are left out
once_filter : (p : Name → Bool) (s t ns : List Name) → ((x : Name) → p x ≡ true → list_any (bytes_eq x) s ≡ list_any (bytes_eq x) t) →
    once s (filter p ns) ≡ filter p (once t ns)
once_filter p s t [] alike = refl
once_filter p s t (n ∷ ns) alike =
    chosen (p n) refl (list_any (bytes_eq n) t) refl (once_filter p s t ns alike)
    (once_filter p (n ∷ s) (n ∷ t) ns (λ x is. ap (λ b. bytes_eq x n || b) (alike x is)))
    (λ leaves. once_filter p s (n ∷ t) ns (λ x is.
    alike x is ∙ sym (ap (λ b. b || list_any (bytes_eq x) t) (other leaves x is (bytes_eq x n) refl))))
  where
    other : p n ≡ false → (x : Name) → p x ≡ true → (b : Bool) → bytes_eq x n ≡ b → b ≡ false
    other leaves x is true same = let no : true ≡ false = sym is ∙ ap p ((bytes_eq-Decides x n).0 same) ∙ leaves in absurd (cc)
    other leaves x is false same = refl

    chosen : (b : Bool) → p n ≡ b → (c : Bool) → list_any (bytes_eq n) t ≡ c → once s (filter p ns) ≡ filter p (once t ns) →
        once (n ∷ s) (filter p ns) ≡ filter p (once (n ∷ t) ns) → (p n ≡ false → once s (filter p ns) ≡ filter p (once (n ∷ t) ns)) →
        once s (cond b (n ∷ filter p ns) (filter p ns)) ≡ filter p (if c then once t ns else n ∷ once (n ∷ t) ns)
    chosen true takes true there same both without =
        ap (λ b. if b then once s (filter p ns) else n ∷ once (n ∷ s) (filter p ns)) (alike n takes ∙ there) ∙ same
    chosen true takes false there same both without =
        ap (λ b. if b then once s (filter p ns) else n ∷ once (n ∷ s) (filter p ns)) (alike n takes ∙ there)
        ∙ ap (λ l. n ∷ l) both
        ∙ sym (ap (λ b. cond b (n ∷ filter p (once (n ∷ t) ns)) (filter p (once (n ∷ t) ns))) takes)
    chosen false leaves true there same both without = same
    chosen false leaves false there same both without =
        without leaves
        ∙ sym (ap (λ b. cond b (n ∷ filter p (once (n ∷ t) ns)) (filter p (once (n ∷ t) ns))) leaves)

gathered : (p q : Name → Bool) → ((n : Name) → p n ≡ q n) → (ns : List Name) → once [] (filter p ns) ≡ filter q (once [] ns)
gathered p q alike ns = ap (once []) (filter_alike p q alike ns) ∙ once_filter q [] [] ns (λ x is. refl)

abbrev IsDefined : Bool → List Mention → List Name → Type 0
IsDefined function ms names = (name : Name) → list_any (bytes_eq name) names ≡ defined_as function ms name

pub names_made : (ms : List Mention) (includes : Bool) (objects bodies globals functions externs : List Name) →
    IsDefined false ms objects → IsDefined true ms bodies →
    globals ≡ once [] (filter (λ n. list_any (bytes_eq n) objects) (map name_in ms)) →
    functions ≡ once [] (filter (λ n. list_any (bytes_eq n) bodies) (map name_in ms)) →
    externs ≡ once [] (filter (is_elsewhere objects bodies includes) (map name_in ms)) →
    let made : FileNames = record { globals = globals; functions = functions; externs = externs; includes = includes } in
    made ≡ names_by ms includes
names_made ms includes objects bodies globals functions externs objects_are bodies_are globals_are functions_are externs_are =
    let outside : (n : Name) → is_elsewhere objects bodies includes n ≡
    (not (defined_as false ms n) && not (defined_as true ms n) && not (includes && is_library n)) =
    λ n. ap (λ b. not b && not (list_any (bytes_eq n) bodies) && not (includes && is_library n)) (objects_are n)
    ∙ ap (λ b. not (defined_as false ms n) && not b && not (includes && is_library n)) (bodies_are n) in
    let g = globals_are ∙ gathered (λ n. list_any (bytes_eq n) objects) (defined_as false ms) objects_are (map name_in ms) in
    let f = functions_are ∙ gathered (λ n. list_any (bytes_eq n) bodies) (defined_as true ms) bodies_are (map name_in ms) in
    let e = externs_are ∙ gathered (is_elsewhere objects bodies includes)
    (λ n. not (defined_as false ms n) && not (defined_as true ms n) && not (includes && is_library n)) outside (map name_in ms) in
    λ i. record { globals = g i; functions = f i; externs = e i; includes = includes }
