-- What is found by its name is at the number of the name.
use Rattle.std.proofs.Common.{◌≡◌, refl, sym, ◌∙◌, ap, ℕ, zero, suc, ◌+◌, arith}
use Rattle.std.proofs.Common.{Bool, true, false, cond, List, [], ◌∷◌, map, Option, Some, None}
use Rattle.std.specs.Prelude.{if◌then◌else◌}
use Rattle.std.specs.List.{find, position_from}
use Rattle.std.specs.Str.{bytes_eq}
use Rattle.std.specs.Bool.{one_answer}
use Rattle.std.proofs.lemmas.Slice.Eq.{bytes_eq-Decides}
use Rattle.c_types.specs.Files.{number_among}
use Rattle.c_types.specs.Ordered.{option_list}
use Rattle.unit_object.specs.Counted.{counted, name_number}
use Rattle.unit_object.specs.Scopes.{at_number}
use Rattle.unit_object.specs.Symbols.{found_or}
use Rattle.unit_object.proofs.NameLaws.{position_from-map}

abbrev Name : Type 0
Name = List ℕ

pub eq_turned : (a b : Name) → bytes_eq a b ≡ bytes_eq b a
eq_turned a b =
    one_answer (bytes_eq a b) (bytes_eq b a) (bytes_eq-Decides a b)
    ((λ h. sym ((bytes_eq-Decides b a).0 h)), (λ h. (bytes_eq-Decides b a).1 (sym h)))

abbrev later : Option ℕ → Option ℕ
later None = None
later (Some k) = Some (suc k)

-- the place of the first that passes
abbrev place_of : {K : Type 0} → (K → Bool) → List K → Option ℕ
place_of test [] = None
place_of test (k ∷ ks) = (if test k then Some 0 else later (place_of test ks))

abbrev counted_from : ℕ → Option ℕ → Option ℕ
counted_from i None = None
counted_from i (Some k) = Some (i + k)

place_from : {K : Type 0} (test : K → Bool) (ks : List K) (i : ℕ) → position_from test i ks ≡ counted_from i (place_of test ks)
place_from test [] i = refl
place_from test (k ∷ ks) i = ap (cond (test k) (Some i)) (place_from test ks (i + 1)) ∙ by (test k)
  where
    on : (o : Option ℕ) → counted_from (i + 1) o ≡ counted_from i (later o)
    on None = refl
    on (Some j) = ap Some (by_sum j)
      where
        by_sum : (j : ℕ) → i + 1 + j ≡ i + suc j
        by_sum j = omega arith

    by : (b : Bool) →
        cond b (Some i) (counted_from (i + 1) (place_of test ks)) ≡ counted_from i (if b then Some 0 else later (place_of test ks))
    by true = ap Some (omega arith)
    by false = on (place_of test ks)

-- ---- the one that is found

found_step : {K : Type 0} (k : K) (ks : List K) (found : Option K) (place : Option ℕ) (b : Bool) →
    option_list found ≡ at_number ks place → option_list (if b then Some k else found) ≡ at_number (k ∷ ks)
    (if b then Some 0 else later place)
found_step k ks found place true same = refl
found_step k ks found None false same = same
found_step k ks found (Some j) false same = same

found_place : {K : Type 0} (test : K → Bool) (ks : List K) → option_list (find test ks) ≡ at_number ks (place_of test ks)
found_place test [] = refl
found_place test (k ∷ ks) = found_step k ks (find test ks) (place_of test ks) (test k) (found_place test ks)

same_place : {K : Type 0} (test other : K → Bool) (ks : List K) → ((k : K) → test k ≡ other k) → place_of test ks ≡ place_of other ks
same_place test other [] same = refl
same_place test other (k ∷ ks) same =
    ap (λ b. if b then Some 0 else later (place_of test ks)) (same k)
    ∙ ap (λ o. if other k then Some 0 else later o) (same_place test other ks same)

counted_once : (o : Option ℕ) → counted_from 0 o ≡ o
counted_once None = refl
counted_once (Some k) = ap Some (omega arith)

-- the number of a name is the place of what has it
pub number_place : {K : Type 0} (ks : List K) (name_of : K → Name) (name : Name) →
    number_among (map name_of ks) name ≡ place_of (λ k. bytes_eq (name_of k) name) ks
number_place ks name_of name =
    position_from-map ks name_of (bytes_eq name) 0 ∙ place_from (λ k. bytes_eq name (name_of k)) ks 0
    ∙ counted_once (place_of (λ k. bytes_eq name (name_of k)) ks)
    ∙ same_place (λ k. bytes_eq name (name_of k)) (λ k. bytes_eq (name_of k) name) ks (λ k. eq_turned name (name_of k))

pub found_there : {K : Type 0} (ks : List K) (name_of : K → Name) (name : Name) →
    option_list (find (λ k. bytes_eq (name_of k) name) ks) ≡ at_number ks (number_among (map name_of ks) name)
found_there ks name_of name =
    found_place (λ k. bytes_eq (name_of k) name) ks ∙ ap (at_number ks) (sym (number_place ks name_of name))

-- counted from a number
pub number_counted : {K : Type 0} (ks : List K) (name_of : K → Name) (name : Name) (from : ℕ) →
    found_or 0 (position_from (λ k. bytes_eq (name_of k) name) from ks) ≡ name_number from (map name_of ks) name
number_counted ks name_of name from =
    ap (found_or 0) (place_from (λ k. bytes_eq (name_of k) name) ks from) ∙ by (place_of (λ k. bytes_eq (name_of k) name) ks)
    ∙ ap (counted from) (sym (number_place ks name_of name))
  where
    by : (o : Option ℕ) → found_or 0 (counted_from from o) ≡ counted from o
    by None = refl
    by (Some k) = refl
