-- Names that were seen, one symbol more.
use Rattle.std.proofs.Common.{◌≡◌, ℕ, zero, suc, ◌+◌, ◌<◌, ◌≤◌, Bool, true, false, not, ◌&&◌, ◌||◌, List, [], ◌∷◌, ◌++◌, length, take}
use Rattle.std.proofs.Common.{drop, find, cond, Option, Some, None, is_some, get_or, refl, sym, ap, subst, ◌∙◌, arith, append_assoc}
use Rattle.std.proofs.Common.{drop-cons, add-one}
use Rattle.std.specs.Borrow.{Bor}
use Rattle.std.specs.List.{list_any}
use Rattle.std.specs.Option.{option_map, option_or}
use Rattle.std.specs.Str.{bytes_eq}
use Rattle.std.proofs.lemmas.Bool.{true≢false}
use Rattle.std.proofs.lemmas.List.{take_more}
use Rattle.std.proofs.lemmas.List.Folds.{find-append}
use Rattle.std.proofs.lemmas.Slice.Eq.{bytes_eq-Decides}
use Rattle.indexmap.specs.IndexMap.{IndexMap, get_by}
use Rattle.elf_obj.specs.declared.parts.Symbol.{Symbol}
use Rattle.linker.specs.declared.names.Numbers.{Numbers}
use Rattle.linker.specs.Names.{NumberedSymbol, numbered, numbered_from, is_defined, is_global, defines}
use Rattle.linker.specs.Known.{numbers_of, Knows, is_known, is_unknown}

-- ---- numbered symbols

pub numbered-append : (k n : ℕ) (xs ys : List Symbol) → numbered_from k n (xs ++ ys) ≡ numbered_from k n xs
    ++ numbered_from k (n + length xs) ys
numbered-append k n [] ys = let e : n ≡ n + 0 = omega arith in ap (λ (m : ℕ). numbered_from k m ys) e
numbered-append k n (x ∷ xs) ys =
    let e : (n + 1) + length xs ≡ n + suc (length xs) = omega arith in
    ap (λ (l : List NumberedSymbol). numbered k n x ∷ l)
    (numbered-append k (n + 1) xs ys ∙ ap (λ (m : ℕ). numbered_from k (n + 1) xs ++ numbered_from k m ys) e)

pub length-took : {A : Type 0} (xs : List A) (i : ℕ) → i ≤ length xs → length (take i xs) ≡ i
length-took xs zero h = refl
length-took [] (suc i) h = absurd (omega arith)
length-took (x ∷ xs) (suc i) h = ap suc (length-took xs i (omega arith))

-- the first so many and one more
pub numbered-more : (k i : ℕ) (ss : List Symbol) (d : Symbol) → i < length ss
    → numbered_from k 0 (take (i + 1) ss) ≡ numbered_from k 0 (take i ss) ++ numbered k i (get_or ss i d) ∷ []
numbered-more k i ss d h =
    let len = length-took ss i (omega arith) in
    ap (numbered_from k 0) (take_more ss i d h) ∙ numbered-append k 0 (take i ss) (get_or ss i d ∷ [])
    ∙ ap (λ (m : ℕ). numbered_from k 0 (take i ss) ++ numbered k m (get_or ss i d) ∷ []) (omega (arith, len))

-- ---- what a map knows

one_name : (name : List ℕ) (e : NumberedSymbol) → defines name e ≡ true → e.symbol.name ≡ name
one_name name e h = (bytes_eq-Decides e.symbol.name name).0 (second (is_global e.symbol) h)
  where
    second : (b : Bool) → (b && bytes_eq e.symbol.name name) ≡ true → bytes_eq e.symbol.name name ≡ true
    second true p = p
    second false p = absurd (true≢false (sym p))

-- one symbol more in a search, by what was found before
found_more : (p : NumberedSymbol → Bool) (xs : List NumberedSymbol) (e : NumberedSymbol) → (p e ≡ true → is_some (find p xs) ≡ true)
    → find p (xs ++ e ∷ []) ≡ find p xs
found_more p xs e h = find-append p xs (e ∷ []) ∙ chosen (find p xs) (p e) h
  where
    chosen : (o : Option NumberedSymbol) (b : Bool) → (b ≡ true → is_some o ≡ true) → option_or o (cond b (Some e) None) ≡ o
    chosen (Some x) b h = refl
    chosen None true h = absurd (true≢false (sym (h refl)))
    chosen None false h = refl

-- a symbol that adds no name
pub knows_same : {S : Type 0} (m : IndexMap (Bor (List ℕ)) Numbers S) (xs : List NumberedSymbol) (e : NumberedSymbol)
    → ((name : List ℕ) → defines name e ≡ true → is_some (find (defines name) xs) ≡ true) → Knows m xs → Knows m (xs ++ e ∷ [])
knows_same m xs e h knows name = knows name ∙ sym (ap (option_map numbers_of) (found_more (defines name) xs e (h name)))

pub knows_other : {S : Type 0} (m : IndexMap (Bor (List ℕ)) Numbers S) (xs : List NumberedSymbol) (e : NumberedSymbol)
    → is_global e.symbol ≡ false
    → Knows m xs → Knows m (xs ++ e ∷ [])
knows_other m xs e local knows =
    knows_same m xs e (λ name h. absurd (true≢false (sym h ∙ ap (λ (b : Bool). b && bytes_eq e.symbol.name name) local))) knows

some-map : {A B : Type 0} (f : A → B) (o : Option A) → is_some (option_map f o) ≡ is_some o
some-map f None = refl
some-map f (Some x) = refl

-- whether the map has a name
pub knows_has : {S : Type 0} (m : IndexMap (Bor (List ℕ)) Numbers S) (xs : List NumberedSymbol) (name : List ℕ) → Knows m xs
    → is_some (get_by (λ k. bytes_eq name k.now) m) ≡ is_some (find (defines name) xs)
knows_has m xs name knows = ap is_some (knows name) ∙ some-map numbers_of (find (defines name) xs)

-- one whose name is there
pub knows_again : {S : Type 0} (m : IndexMap (Bor (List ℕ)) Numbers S) (xs : List NumberedSymbol) (e : NumberedSymbol)
    → is_some (get_by (λ k. bytes_eq e.symbol.name k.now) m) ≡ true → Knows m xs → Knows m (xs ++ e ∷ [])
knows_again m xs e there knows = knows_same m xs e (λ name h. has name (one_name name e h)) knows
  where
    has : (name : List ℕ) → e.symbol.name ≡ name → is_some (find (defines name) xs) ≡ true
    has name same =
        let P : List ℕ → Type 0 = λ n. is_some (find (defines n) xs) ≡ true in
        subst P same (sym (knows_has m xs e.symbol.name knows) ∙ there)

-- one whose name is new
pub knows_new : {S : Type 0} (m n : IndexMap (Bor (List ℕ)) Numbers S) (xs : List NumberedSymbol) (e : NumberedSymbol)
    → is_global e.symbol ≡ true
    → is_some (get_by (λ k. bytes_eq e.symbol.name k.now) m) ≡ false
    → ((name : List ℕ) → get_by (λ k. bytes_eq name k.now) n
    ≡ cond (bytes_eq e.symbol.name name) (Some (numbers_of e)) (get_by (λ k. bytes_eq name k.now) m))
    → Knows m xs → Knows n (xs ++ e ∷ [])
knows_new m n xs e global new updates knows name = updates name ∙ by_test (bytes_eq e.symbol.name name) refl
  where
    goal : Bool → Type 0
    goal b = cond b (Some (numbers_of e)) (get_by (λ k. bytes_eq name k.now) m) ≡ option_map numbers_of
        (find (defines name) (xs ++ e ∷ []))

    here : (b : Bool) → bytes_eq e.symbol.name name ≡ b → defines name e ≡ b
    here b is = ap (λ (g : Bool). g && bytes_eq e.symbol.name name) global ∙ is

    none : (o : Option NumberedSymbol) → is_some o ≡ false → option_or o (Some e) ≡ Some e
    none None h = refl
    none (Some x) h = absurd (true≢false h)

    by_test : (b : Bool) → bytes_eq e.symbol.name name ≡ b → goal b
    by_test true is =
        let same : e.symbol.name ≡ name = (bytes_eq-Decides e.symbol.name name).0 is in
        let P : List ℕ → Type 0 = λ n. is_some (find (defines n) xs) ≡ false in
        let fresh : is_some (find (defines name) xs) ≡ false = subst P same (sym (knows_has m xs e.symbol.name knows) ∙ new) in
        let found : find (defines name) (xs ++ e ∷ []) ≡ Some e =
        find-append (defines name) xs (e ∷ [])
        ∙ ap (λ (b : Bool). option_or (find (defines name) xs) (cond b (Some e) None)) (here true is)
        ∙ none (find (defines name) xs) fresh in
        sym (ap (option_map numbers_of) found)
    by_test false is =
        knows name ∙ sym (ap (option_map numbers_of)
        (found_more (defines name) xs e (λ h. absurd (true≢false (sym h ∙ here false is)))))

-- the symbols so far, with those of the turn behind them
pub knows_behind : {S : Type 0} (m : IndexMap (Bor (List ℕ)) Numbers S) (seen xs ys : List NumberedSymbol) (e : NumberedSymbol)
    → ys ≡ xs ++ e ∷ []
    → Knows m ((seen ++ xs) ++ e ∷ []) → Knows m (seen ++ ys)
knows_behind m seen xs ys e is h = subst (Knows m) (append_assoc seen xs (e ∷ []) ∙ ap (λ (l : List NumberedSymbol). seen ++ l) (sym is)) h

-- ---- a symbol whose name is there

-- those that are left, with the one of the turn in front
pub left_is : {A : Type 0} (ss : List A) (i : ℕ) (s : A) → i < length ss → s ≡ get_or ss i s → drop i ss ≡ s ∷ drop (i + 1) ss
left_is {A} ss i s h is =
    let front : drop i ss ≡ get_or ss i s ∷ drop (i + 1) ss = rw (drop-cons ss i s, add-one) refl in
    front ∙ ap (λ (t : A). t ∷ drop (i + 1) ss) (sym is)

any_found : {A : Type 0} (p : A → Bool) (xs : List A) → is_some (find p xs) ≡ list_any p xs
any_found p [] = refl
any_found p (x ∷ xs) = by_test (p x) (any_found p xs)
  where
    by_test : (b : Bool) → is_some (find p xs) ≡ list_any p xs → is_some (cond b (Some x) (find p xs)) ≡ (b || list_any p xs)
    by_test true h = refl
    by_test false h = h

-- whether it is one
pub known_is : {S : Type 0} (m : IndexMap (Bor (List ℕ)) Numbers S) (seen : List NumberedSymbol) (s : Symbol) (name : List ℕ)
    (global there : Bool)
    → Knows m seen → name ≡ s.name → global ≡ is_global s → there ≡ is_some (get_by (λ k. bytes_eq name k.now) m)
    → (global && there) ≡ is_known seen s
known_is m seen s name global there knows is g t =
    let known : there ≡ list_any (defines s.name) seen =
    t ∙ knows_has m seen name knows ∙ any_found (defines name) seen ∙ ap (λ (n : List ℕ). list_any (defines n) seen) is in
    λ i. g i && known i

-- the first of those that are left, where it is one
pub first_here : (p : Symbol → Bool) (ss : List Symbol) (i : ℕ) (s : Symbol) → i < length ss → s ≡ get_or ss i s → p s ≡ true
    → find p (drop i ss) ≡ Some s
first_here p ss i s h is there =
    ap (find p) (left_is ss i s h is) ∙ ap (λ (b : Bool). cond b (Some s) (find p (drop (i + 1) ss))) there

-- and where it is none
pub first_later : (p : Symbol → Bool) (ss : List Symbol) (i : ℕ) (s : Symbol) → i < length ss → s ≡ get_or ss i s → p s ≡ false
    → find p (drop (i + 1) ss) ≡ find p (drop i ss)
first_later p ss i s h is not =
    sym (ap (find p) (left_is ss i s h is) ∙ ap (λ (b : Bool). cond b (Some s) (find p (drop (i + 1) ss))) not)

-- ---- a symbol whose name is not there

-- whether it is one
pub unknown_is : {S : Type 0} (m : IndexMap (Bor (List ℕ)) Numbers S) (seen : List NumberedSymbol) (s : Symbol) (name : List ℕ)
    (defined there : Bool)
    → Knows m seen → name ≡ s.name → defined ≡ is_defined s.home → there ≡ is_some (get_by (λ k. bytes_eq name k.now) m)
    → (not defined && not there) ≡ is_unknown seen s
unknown_is m seen s name defined there knows is d t =
    let known : there ≡ list_any (defines s.name) seen =
    t ∙ knows_has m seen name knows ∙ any_found (defines name) seen ∙ ap (λ (n : List ℕ). list_any (defines n) seen) is in
    λ i. not (d i) && not (known i)
