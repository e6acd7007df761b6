-- The symbols of the table, one use more.
use Rattle.std.proofs.Common.{◌≡◌, ℕ, suc, ◌+◌, ◌<◌, Bool, true, false, not, cond, ◌&&◌, ◌||◌, ◌==◌, if◌then◌else◌, List, [], ◌∷◌, ◌++◌}
use Rattle.std.proofs.Common.{length, take, Option, Some, None, get_or, map, filter, filter_map, refl, sym, ap, ◌∙◌, arith, append_assoc}
use Rattle.std.proofs.Common.{nat_lt}
use Rattle.std.specs.List.{list_any, cons_option, prefix_len, position, position_or_len}
use Rattle.std.specs.Option.{option_map}
use Rattle.std.proofs.lemmas.Bool.{true≢false, eqb-true, eq-eqb, ltb-false}
use Rattle.std.proofs.lemmas.List.{append-nil, take_more, map-append}
use Rattle.std.proofs.lemmas.List.Elements.{filter-append, filter_map-append}
use Rattle.std.proofs.lemmas.List.Sums.{prefix_len-le-length}
use Rattle.std.proofs.lemmas.Option.{none-some, same_Some}
use Rattle.indexmap.specs.IndexSet.{insert_key}
use Rattle.elf_obj.specs.declared.parts.Reloc.{Reloc}
use Rattle.elf_obj.specs.Object.{Object}
use Rattle.linker.specs.declared.names.Numbers.{Numbers}
use Rattle.linker.specs.Names.{NumberedSymbol, is_same}
use Rattle.linker.specs.Got.{used_by, uses_from, firsts}
use Rattle.linker.specs.Known.{numbers_of}
use Rattle.linker.proofs.Knowing.{length-took}

-- ---- equal numbers

same_parts : (a b : NumberedSymbol) → is_same a b ≡ true → (a.object ≡ b.object) × (a.number ≡ b.number)
same_parts a b h = by_test (a.object == b.object) refl h
  where
    by_test : (t : Bool) → (a.object == b.object) ≡ t → (t && a.number == b.number) ≡ true → (a.object ≡ b.object) × (a.number ≡ b.number)
    by_test true is g = (eqb-true a.object b.object is, eqb-true a.number b.number g)
    by_test false is g = absurd (true≢false (sym g))

from_parts : (a b : NumberedSymbol) → a.object ≡ b.object → a.number ≡ b.number → is_same a b ≡ true
from_parts a b o n = rw (eq-eqb a.object b.object o) (eq-eqb a.number b.number n)

-- b is what a third one is exactly where it is the same as a
alike : (x e y : NumberedSymbol) → is_same e y ≡ true → is_same x y ≡ is_same x e
alike x e y h =
    let p = same_parts e y h in
    λ i. x.object == sym p.0 i && x.number == sym p.1 i

turned : (a b : NumberedSymbol) → is_same a b ≡ is_same b a
turned a b = by_tests (is_same a b) (is_same b a) refl refl
  where
    by_tests : (s t : Bool) → is_same a b ≡ s → is_same b a ≡ t → s ≡ t
    by_tests true true p q = refl
    by_tests false false p q = refl
    by_tests true false p q = let h = same_parts a b p in absurd (true≢false (sym (from_parts b a (sym h.0) (sym h.1)) ∙ q))
    by_tests false true p q = let h = same_parts b a q in absurd (true≢false (sym (from_parts a b (sym h.0) (sym h.1)) ∙ p))

-- ---- one more

-- whether one of those that are not x is the same as e
any_kept : (x e : NumberedSymbol) (ys : List NumberedSymbol)
    → list_any (is_same e) (filter (λ f. not (is_same x f)) ys) ≡ (if is_same x e then false else list_any (is_same e) ys)
any_kept x e [] = by_test (is_same x e)
  where
    by_test : (s : Bool) → false ≡ (if s then false else false)
    by_test true = refl
    by_test false = refl
any_kept x e (y ∷ ys) = by_tests (is_same e y) (is_same x y) (is_same x e) refl (alike x e y) (any_kept x e ys)
  where
    rest : List NumberedSymbol
    rest = filter (λ f. not (is_same x f)) ys

    by_tests : (a b c : Bool) → is_same e y ≡ a → (a ≡ true → b ≡ c)
        → list_any (is_same e) rest ≡ (if c then false else list_any (is_same e) ys)
        → list_any (is_same e) (cond (not b) (y ∷ rest) rest) ≡ (if c then false else (a || list_any (is_same e) ys))
    by_tests a true true is h g = g
    by_tests true true false is h g = absurd (true≢false (h refl))
    by_tests false true false is h g = g
    by_tests true false true is h g = absurd (true≢false (sym (h refl)))
    by_tests false false true is h g = rw is g
    by_tests a false false is h g = λ i. is i || g i

-- the symbols that are named first, with one use more
firsts_push : (xs : List NumberedSymbol) (e : NumberedSymbol)
    → firsts (xs ++ e ∷ []) ≡ (if list_any (is_same e) (firsts xs) then firsts xs else firsts xs ++ e ∷ [])
firsts_push [] e = refl
firsts_push (x ∷ xs) e =
    ap (λ (l : List NumberedSymbol). x ∷ filter (λ f. not (is_same x f)) l) (firsts_push xs e)
    ∙ by_tests (is_same x e) (list_any (is_same e) (firsts xs)) refl
    ∙ sym (ap (λ (b : Bool). if b then x ∷ kept else x ∷ kept ++ e ∷ []) (λ i. turned e x i || any_kept x e (firsts xs) i))
  where
    kept : List NumberedSymbol
    kept = filter (λ f. not (is_same x f)) (firsts xs)

    by_tests : (s b : Bool) → is_same x e ≡ s → x ∷ filter (λ f. not (is_same x f)) (if b then firsts xs else firsts xs ++ e ∷ [])
        ≡ (if (s || (if s then false else b)) then x ∷ kept else x ∷ kept ++ e ∷ [])
    by_tests true true is = refl
    by_tests true false is =
        ap (λ (l : List NumberedSymbol). x ∷ l) (filter-append (λ f. not (is_same x f)) (firsts xs) (e ∷ [])
        ∙ ap (λ (b : Bool). kept ++ cond (not b) (e ∷ []) []) is ∙ append-nil kept)
    by_tests false true is = refl
    by_tests false false is =
        ap (λ (l : List NumberedSymbol). x ∷ l) (filter-append (λ f. not (is_same x f)) (firsts xs) (e ∷ [])
        ∙ ap (λ (b : Bool). kept ++ cond (not b) (e ∷ []) []) is)

-- ---- the set of their numbers

any_numbers : (e : NumberedSymbol) (ys : List NumberedSymbol) (eq : Numbers → Numbers → Bool)
    → ((a b : Numbers) → eq a b ≡ (a.object == b.object && a.number == b.number))
    → list_any (eq (numbers_of e)) (map numbers_of ys) ≡ list_any (is_same e) ys
any_numbers e [] eq h = refl
any_numbers e (y ∷ ys) eq h = λ i. h (numbers_of e) (numbers_of y) i || any_numbers e ys eq h i

-- one symbol more is put into the set
pub words_more : (eq : Numbers → Numbers → Bool) (uses : List NumberedSymbol) (e : NumberedSymbol)
    → ((a b : Numbers) → eq a b ≡ (a.object == b.object && a.number == b.number))
    → insert_key eq (map numbers_of (firsts uses)) (numbers_of e) ≡ map numbers_of (firsts (uses ++ e ∷ []))
words_more eq uses e h =
    ap (λ (b : Bool). if b then map numbers_of (firsts uses) else map numbers_of (firsts uses)
    ++ numbers_of e ∷ []) (any_numbers e (firsts uses) eq h)
    ∙ by_test (list_any (is_same e) (firsts uses)) ∙ sym (ap (map numbers_of) (firsts_push uses e))
  where
    by_test : (b : Bool) → (if b then map numbers_of (firsts uses) else map numbers_of (firsts uses) ++ numbers_of e ∷ [])
        ≡ map numbers_of (if b then firsts uses else firsts uses ++ e ∷ [])
    by_test true = refl
    by_test false = sym (map-append numbers_of (firsts uses) (e ∷ []))

-- ---- uses, relocation by relocation

none-numbers : (o : Option NumberedSymbol) → option_map numbers_of o ≡ None → o ≡ None
none-numbers None h = refl
none-numbers (Some x) h = absurd (none-some (numbers_of x) (sym h))

-- a relocation that uses none
pub uses_same : (f : Reloc → Option NumberedSymbol) (uses : List NumberedSymbol) (rs more : List Reloc) (r : Reloc) → more ≡ rs ++ r ∷ []
    → option_map numbers_of (f r) ≡ None
    → uses ++ filter_map f rs ≡ uses ++ filter_map f more
uses_same f uses rs more r is none =
    sym (ap (λ (l : List Reloc). uses ++ filter_map f l) is ∙ ap (λ (l : List NumberedSymbol). uses ++ l) (filter_map-append f rs (r ∷ [])
    ∙ ap (λ (o : Option NumberedSymbol). filter_map f rs ++ cons_option o []) (none-numbers (f r) none) ∙ append-nil (filter_map f rs)))

-- one that uses a symbol of these numbers
pub record Uses (f : Reloc → Option NumberedSymbol) (uses : List NumberedSymbol) (rs more : List Reloc) (n : Numbers) : Type 0 where
  pub entry : NumberedSymbol
  pub numbers : numbers_of entry ≡ n
  pub is : (uses ++ filter_map f rs) ++ entry ∷ [] ≡ uses ++ filter_map f more

pub uses_one : (f : Reloc → Option NumberedSymbol) (uses : List NumberedSymbol) (rs more : List Reloc) (r : Reloc) (n : Numbers)
    → more ≡ rs ++ r ∷ []
    → option_map numbers_of (f r) ≡ Some n → Uses f uses rs more n
uses_one f uses rs more r n is some = by_case (f r) refl some
  where
    by_case : (o : Option NumberedSymbol) → f r ≡ o → option_map numbers_of o ≡ Some n → Uses f uses rs more n
    by_case None e h = absurd (none-some n h)
    by_case (Some x) e h = record {
      entry = x;
      numbers = same_Some (numbers_of x) n h;
      is = append_assoc uses (filter_map f rs) (x ∷ [])
          ∙ ap (λ (l : List NumberedSymbol). uses ++ l) (sym (ap (filter_map f) is ∙ filter_map-append f rs (r ∷ [])
          ∙ ap (λ (o : Option NumberedSymbol). filter_map f rs ++ cons_option o []) e));
    }

-- ---- uses, object by object

uses-append : (objects : List Object) (k : ℕ) (xs ys : List Object) → uses_from objects k (xs ++ ys) ≡ uses_from objects k xs
    ++ uses_from objects (k + length xs) ys
uses-append objects k [] ys = let e : k ≡ k + 0 = omega arith in ap (λ (m : ℕ). uses_from objects m ys) e
uses-append objects k (x ∷ xs) ys =
    let e : (k + 1) + length xs ≡ k + suc (length xs) = omega arith in
    let here : List NumberedSymbol = filter_map (used_by objects k x.symbols) x.text_relocs in
    ap (λ (l : List NumberedSymbol). here ++ l)
    (uses-append objects (k + 1) xs ys ∙ ap (λ (m : ℕ). uses_from objects (k + 1) xs ++ uses_from objects m ys) e)
    ∙ sym (append_assoc here (uses_from objects (k + 1) xs) (uses_from objects (k + suc (length xs)) ys))

pub uses_more : (objects os : List Object) (k : ℕ) (o : Object) → k < length os → o ≡ get_or os k o
    → uses_from objects 0 (take (k + 1) os) ≡ uses_from objects 0 (take k os) ++ filter_map (used_by objects k o.symbols) o.text_relocs
uses_more objects os k o h is =
    ap (uses_from objects 0) (take_more os k o h ∙ ap (λ (t : Object). take k os ++ t ∷ []) (sym is))
    ∙ uses-append objects 0 (take k os) (o ∷ [])
    ∙ ap (λ (m : ℕ). uses_from objects 0 (take k os) ++ (filter_map (used_by objects m o.symbols) o.text_relocs ++ []))
    (omega (arith, length-took os k (omega arith)))
    ∙ ap (λ (l : List NumberedSymbol). uses_from objects 0 (take k os) ++ l)
    (append-nil (filter_map (used_by objects k o.symbols) o.text_relocs))

-- ---- the number of a word

numbers_prefix : (e : NumberedSymbol) (ys : List NumberedSymbol) (eq : Numbers → Numbers → Bool)
    → ((a b : Numbers) → eq a b ≡ (a.object == b.object && a.number == b.number))
    → prefix_len (λ x. not (eq (numbers_of e) x)) (map numbers_of ys) ≡ prefix_len (λ x. not (is_same e x)) ys
numbers_prefix e [] eq h = refl
numbers_prefix e (y ∷ ys) eq h = λ i. cond (not (h (numbers_of e) (numbers_of y) i)) (1 + numbers_prefix e ys eq h i) 0

-- where a symbol stands in the set, or how many it has
pub place_is : (keys : List Numbers) (ys : List NumberedSymbol) (e : NumberedSymbol) (n : Numbers) (eq : Numbers → Numbers → Bool)
    → ((a b : Numbers) → eq a b ≡ (a.object == b.object && a.number == b.number)) → keys ≡ map numbers_of ys → numbers_of e ≡ n
    → position_or_len (eq n) keys ≡ position_or_len (is_same e) ys
place_is keys ys e n eq h is numbers =
    (λ i. position_or_len (eq (sym numbers i)) (is i)) ∙ numbers_prefix e ys eq h

pub found_place : (keys : List Numbers) (p : Numbers → Bool) (i : ℕ) → Some i ≡ position p keys → i ≡ position_or_len p keys
found_place keys p i h = by_test (nat_lt (position_or_len p keys) (length keys)) h
  where
    by_test : (b : Bool) → Some i ≡ cond b (Some (position_or_len p keys)) None → i ≡ position_or_len p keys
    by_test true e = same_Some i (position_or_len p keys) e
    by_test false e = absurd (none-some i (sym e))

pub no_place : (keys : List Numbers) (p : Numbers → Bool) → None ≡ position p keys → length keys ≡ position_or_len p keys
no_place keys p h = by_test (nat_lt (position_or_len p keys) (length keys)) refl h
  where
    by_test : (b : Bool) → nat_lt (position_or_len p keys) (length keys) ≡ b → None ≡ cond b (Some (position_or_len p keys)) None
        → length keys ≡ position_or_len p keys
    by_test true is e = absurd (none-some (position_or_len p keys) e)
    by_test false is e =
        omega (arith, ltb-false (position_or_len p keys) (length keys) is, prefix_len-le-length (λ x. not (p x)) keys)
