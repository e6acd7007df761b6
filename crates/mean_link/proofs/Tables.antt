-- Tables of names, and searches in lists of them.
use Rattle.std.proofs.Common.{◌≡◌, refl, sym, ◌∙◌, ap, ℕ, suc, ◌+◌, ◌<◌, ◌≤◌, arith, Bool, true, false, not, ◌||◌, cond}
use Rattle.std.proofs.Common.{List, [], ◌∷◌, ◌++◌}
use Rattle.std.proofs.Common.{map, take, drop, find, flat_map, length, get_or, Option, Some, None, drop-cons, append_assoc}
use Rattle.std.specs.Prelude.{if◌then◌else◌}
use Rattle.std.specs.List.{filter, list_any}
use Rattle.std.specs.Option.{option_or}
use Rattle.std.specs.Str.{bytes_eq}
use Rattle.std.proofs.Math.Seq.{take-suc}
use Rattle.std.proofs.lemmas.List.{flat_map_more, map-append, append-nil}
use Rattle.std.proofs.lemmas.List.Elements.{filter-append}
use Rattle.std.proofs.lemmas.List.Folds.{list_any-append}
use Rattle.std.proofs.lemmas.Slice.Eq.{bytes_eq-Decides}
use Rattle.c_type_base.specs.declared.typed.ExternInfo.{ExternInfo}
use Rattle.mean_link.specs.Names.{is_among}
use Rattle.mean_link.specs.Laws.NameLaws.{with_name, HaveSame, Adds, is_unknown, used_by}

abbrev Name : Type 0
Name = List ℕ

-- ---- keys and their names

pub any-map : {K : Type 0} (ks : List K) (name_of : K → Name) (name : Name) →
    list_any (λ k. bytes_eq name (name_of k)) ks ≡ list_any (bytes_eq name) (map name_of ks)
any-map [] name_of name = refl
any-map (k ∷ ks) name_of name = ap (λ b. bytes_eq name (name_of k) || b) (any-map ks name_of name)

pub added_is : {K : Type 0} (ks : List K) (name_of : K → Name) (k : K) →
    map name_of (if list_any (λ x. bytes_eq (name_of k) (name_of x)) ks then ks else ks ++ k ∷ []) ≡ with_name (map name_of ks) (name_of k)
added_is ks name_of k =
    chosen (list_any (λ x. bytes_eq (name_of k) (name_of x)) ks)
    ∙ ap (λ b. if b then map name_of ks else map name_of ks ++ name_of k ∷ []) (any-map ks name_of (name_of k))
  where
    chosen : (b : Bool) → map name_of (if b then ks else ks ++ k ∷ []) ≡ (if b then map name_of ks else map name_of ks ++ name_of k ∷ [])
    chosen true = refl
    chosen false = map-append name_of ks (k ∷ [])

or_false : (a : Bool) → (a || false) ≡ a
or_false true = refl
or_false false = refl

or_regroup : (a b c : Bool) → ((a || b) || c) ≡ (a || (b || c))
or_regroup true b c = refl
or_regroup false b c = refl

-- a name more
pub adds_with : (names : List Name) (n : Name) → Adds names (with_name names n) (n ∷ [])
adds_with names n name = chosen (is_among names n) refl (bytes_eq name n) refl
  where
    chosen : (b : Bool) → is_among names n ≡ b → (same : Bool) → bytes_eq name n ≡ same →
        is_among (if b then names else names ++ n ∷ []) name ≡ (is_among names name || (same || false))
    chosen true there true is =
        let alike : name ≡ n = (bytes_eq-Decides name n).0 is in
        let found : is_among names name ≡ true = ap (is_among names) alike ∙ there in
        found ∙ sym (ap (λ b. b || true) found)
    chosen true there false is = sym (or_false (is_among names name))
    chosen false there same is =
        list_any-append (bytes_eq name) names (n ∷ []) ∙ ap (λ b. is_among names name || (b || false)) is

-- none more
pub adds_none : (names : List Name) → Adds names names []
adds_none names name = sym (or_false (is_among names name))

-- these, and then those
pub adds_two : (before between after xs ys : List Name) → Adds before between xs → Adds between after ys → Adds before after (xs ++ ys)
adds_two before between after xs ys first second name =
    second name ∙ ap (λ b. b || is_among ys name) (first name)
    ∙ or_regroup (is_among before name) (is_among xs name) (is_among ys name)
    ∙ ap (λ b. is_among before name || b) (sym (list_any-append (bytes_eq name) xs ys))

-- ---- turns

pub take-here : {A : Type 0} (xs : List A) (i : ℕ) (x : A) → i < length xs → x ≡ get_or xs i x → take (i + 1) xs ≡ take i xs ++ x ∷ []
take-here xs i x within is =
    let next : i + 1 ≡ suc i = omega arith in
    ap (λ j. take j xs) next ∙ take-suc xs i x within ∙ ap (λ y. take i xs ++ y ∷ []) (sym is)

pub drop-here : {A : Type 0} (xs : List A) (i : ℕ) (x : A) → i < length xs → x ≡ get_or xs i x → drop i xs ≡ x ∷ drop (i + 1) xs
drop-here xs i x within is =
    let next : suc i ≡ i + 1 = omega arith in
    drop-cons xs i x within ∙ ap (λ j. get_or xs i x ∷ drop j xs) next ∙ ap (λ y. y ∷ drop (i + 1) xs) (sym is)

pub flat-here : {A B : Type 0} (f : A → List B) (xs : List A) (i : ℕ) (x : A) → i < length xs → x ≡ get_or xs i x →
    flat_map f (take (i + 1) xs) ≡ flat_map f (take i xs) ++ f x
flat-here f xs i x within is = ap (flat_map f) (take-here xs i x within is) ∙ sym (flat_map_more f [] (take i xs) x)

adds_as : (before after xs ys : List Name) → xs ≡ ys → Adds before after ys → Adds before after xs
adds_as before after xs ys same adds name = adds name ∙ ap (λ ns. is_among before name || is_among ns name) (sym same)

pub adds_turn : {A : Type 0} (f : A → List Name) (xs : List A) (i : ℕ) (x : A) (before between after : List Name) → i < length xs →
    x ≡ get_or xs i x → Adds before between (flat_map f (take i xs)) → Adds between after (f x) →
    Adds before after (flat_map f (take (i + 1) xs))
adds_turn f xs i x before between after within is passed turn =
    adds_as before after _ _ (flat-here f xs i x within is)
    (adds_two before between after (flat_map f (take i xs)) (f x) passed turn)

pub adds_one_turn : (xs : List Name) (i : ℕ) (x : Name) (before between after : List Name) → i < length xs → x ≡ get_or xs i x →
    Adds before between (take i xs) → Adds between after (x ∷ []) → Adds before after (take (i + 1) xs)
adds_one_turn xs i x before between after within is passed turn =
    adds_as before after _ _ (take-here xs i x within is) (adds_two before between after (take i xs) (x ∷ []) passed turn)

pub filter_turn : {A : Type 0} (p : Name → Bool) (f : A → List Name) (xs : List A) (i : ℕ) (x : A) (before after : List Name) →
    i < length xs → x ≡ get_or xs i x → before ≡ filter p (flat_map f (take i xs)) → after ≡ before ++ filter p (f x) →
    after ≡ filter p (flat_map f (take (i + 1) xs))
filter_turn p f xs i x before after within is passed turn =
    turn ∙ ap (λ b. b ++ filter p (f x)) passed ∙ sym (filter-append p (flat_map f (take i xs)) (f x))
    ∙ ap (filter p) (sym (flat-here f xs i x within is))

pub filter_map_turn : {A : Type 0} (p : Name → Bool) (f : A → Name) (xs : List A) (i : ℕ) (x : A) (start before after : List Name) →
    i < length xs → x ≡ get_or xs i x → before ≡ start ++ filter p (map f (take i xs)) → after ≡ before ++ filter p (f x ∷ []) →
    after ≡ start ++ filter p (map f (take (i + 1) xs))
filter_map_turn p f xs i x start before after within is passed turn =
    turn ∙ ap (λ b. b ++ filter p (f x ∷ [])) passed
    ∙ append_assoc start (filter p (map f (take i xs))) (filter p (f x ∷ []))
    ∙ ap (λ l. start ++ l) (sym (filter-append p (map f (take i xs)) (f x ∷ [])))
    ∙ ap (λ l. start ++ filter p l) (sym (map-append f (take i xs) (x ∷ [])))
    ∙ ap (λ l. start ++ filter p (map f l)) (sym (take-here xs i x within is))

same_filter : (p q : Name → Bool) → ((n : Name) → p n ≡ q n) → (ns : List Name) → filter p ns ≡ filter q ns
same_filter p q same [] = refl
same_filter p q same (n ∷ ns) =
    ap (λ b. cond b (n ∷ filter p ns) (filter p ns)) (same n) ∙ ap (λ l. cond (q n) (n ∷ l) l) (same_filter p q same ns)

-- the names of the one are those of the other
pub filter_same : (these those names : List Name) → HaveSame these those → filter (is_among these) names ≡ filter (is_among those) names
filter_same these those names same = same_filter (is_among these) (is_among those) same names

pub find_same : (p q : Name → Bool) → ((n : Name) → p n ≡ q n) → (ns : List Name) → find p ns ≡ find q ns
find_same p q same [] = refl
find_same p q same (n ∷ ns) = ap (λ b. cond b (Some n) (find p ns)) (same n) ∙ ap (λ l. cond (q n) (Some n) l) (find_same p q same ns)

-- ---- searches

pub first_here : {A : Type 0} (p : A → Bool) (xs : List A) (i : ℕ) (x : A) → i < length xs → x ≡ get_or xs i x → p x ≡ true →
    find p (drop i xs) ≡ Some x
first_here p xs i x within is there =
    ap (find p) (drop-here xs i x within is) ∙ ap (λ (b : Bool). cond b (Some x) (find p (drop (i + 1) xs))) there

pub first_later : {A : Type 0} (p : A → Bool) (xs : List A) (i : ℕ) (x : A) → i < length xs → x ≡ get_or xs i x → p x ≡ false →
    find p (drop (i + 1) xs) ≡ find p (drop i xs)
first_later p xs i x within is not =
    sym (ap (find p) (drop-here xs i x within is) ∙ ap (λ (b : Bool). cond b (Some x) (find p (drop (i + 1) xs))) not)

-- ---- externs that are used

pub used_turn : (bs : List Bool) (es : List ExternInfo) (i : ℕ) (b : Bool) (e : ExternInfo) (before after all : List Name) →
    i < length bs → i < length es → b ≡ get_or bs i b → e ≡ get_or es i e → before ++ used_by (drop i bs) (drop i es) ≡ all →
    after ≡ before ++ (if b then e.name ∷ [] else []) → after ++ used_by (drop (i + 1) bs) (drop (i + 1) es) ≡ all
used_turn bs es i b e before after all first second is1 is2 passed turn =
    let rest = used_by (drop (i + 1) bs) (drop (i + 1) es) in
    ap (λ t. t ++ rest) turn
    ∙ append_assoc before (if b then e.name ∷ [] else []) rest
    ∙ ap (λ l. before ++ l) (chosen b rest)
    ∙ ap (λ xs. before ++ used_by xs (e ∷ drop (i + 1) es)) (sym (drop-here bs i b first is1))
    ∙ ap (λ ys. before ++ used_by (drop i bs) ys) (sym (drop-here es i e second is2))
    ∙ passed
  where
    chosen : (b : Bool) (rest : List Name) → (if b then e.name ∷ [] else []) ++ rest ≡ (if b then e.name ∷ rest else rest)
    chosen true rest = refl
    chosen false rest = refl
