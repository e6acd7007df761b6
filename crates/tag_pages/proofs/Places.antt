-- Numbers of pages in lists.
use Rattle.std.proofs.Common.{◌≡◌, ◌≢◌, ℕ, zero, suc, ◌<◌, ◌≤◌, ◌==◌, true, false, List, [], ◌∷◌, length, get_or, replicate, refl, sym}
use Rattle.std.proofs.Common.{◌∙◌, ap, arith, true≢false, inl, inr, Ok, Err, nat_cmp, eqb}
use Rattle.std.specs.Prelude.{IsPermutation}
use Rattle.std.specs.List.{AllPairs, list_any, dedup}
use Rattle.std.specs.List.Sorted.{IsStrictlyIncreasing, IsBinarySearchResult}
use Rattle.std.proofs.lemmas.Bool.{cases_eq, cases_lt, eq-eqb}
use Rattle.std.proofs.lemmas.Bool.Decides.{nat_tests}
use Rattle.std.proofs.lemmas.List.Folds.{list_any_at}
use Rattle.std.proofs.lemmas.List.Kept.{AllPairs-from_increasing, Contains-dedup_nat}
use Rattle.std.proofs.lemmas.List.Sorted.{searched, list_any-IsPermutation}
use Rattle.std.proofs.lemmas.List.{get_or_default}
use Rattle.tag_pages.specs.Parts.{has_number}

pub differs : (n m : ℕ) → n ≢ m → (n == m) ≡ false
differs n m other = grind (arith, nat_tests)

-- where a number stands
pub record HasPlace (numbers : List ℕ) (number : ℕ) : Type 0 where
  pub place : ℕ
  pub in_range : place < length numbers
  pub is : get_or numbers place 0 ≡ number

pub place_of : (numbers : List ℕ) (number : ℕ) → has_number numbers number ≡ true → HasPlace numbers number
place_of [] number has = absurd (true≢false (sym has))
place_of (n ∷ ns) number has = elim (cases_eq n number) [
  | inl same ↦ record { place = 0; in_range = omega arith; is = same }
  | inr other ↦ let rest = place_of ns number (rw (differs n number other) at has) in
      record { place = suc rest.place; in_range = omega (arith, rest.in_range); is = rest.is }
]

pub has_at : (numbers : List ℕ) (number place : ℕ) → place < length numbers → get_or numbers place 0 ≡ number →
    has_number numbers number ≡ true
has_at numbers number place below is = list_any_at (λ n. n == number) numbers place 0 below (eq-eqb (get_or numbers place 0) number is)

-- the numbers behind the first are larger
pub ordered_tail : (n : ℕ) (ns : List ℕ) → AllPairs (λ x y. x < y) (n ∷ ns) → AllPairs (λ x y. x < y) ns
ordered_tail n ns up i j d h below = up (suc i) (suc j) d (omega (arith, h)) (omega (arith, below))

pub ordered : (numbers : List ℕ) → IsStrictlyIncreasing numbers → AllPairs (λ x y. x < y) numbers
ordered numbers up = AllPairs-from_increasing numbers up

-- numbers that are sorted and each kept once
pub number_kept : (numbers sorted kept : List ℕ) (number : ℕ) → IsPermutation numbers sorted → kept ≡ dedup eqb sorted →
    has_number numbers number ≡ true → has_number kept number ≡ true
number_kept numbers sorted kept number permutation is has =
    let there = place_of sorted number (sym (list_any-IsPermutation (λ n. n == number) numbers sorted permutation) ∙ has) in
    let left =
    Contains-dedup_nat sorted number
    (there.place, there.in_range, get_or_default sorted there.place number 0 there.in_range ∙ there.is) in
    rw is (has_at (dedup eqb sorted) number left.0 left.1 (get_or_default (dedup eqb sorted) left.0 0 number left.1 ∙ left.2))

-- ---- zeros

pub zero_at : (n k : ℕ) → ◌≡◌ {A = ℕ} (get_or (replicate n 0) k 0) 0
zero_at zero k = refl
zero_at (suc n) zero = refl
zero_at (suc n) (suc k) = zero_at n k

-- ---- a search by halves

not_less : (numbers : List ℕ) → IsStrictlyIncreasing numbers → (i j : ℕ) → i ≤ j → j < length numbers →
    get_or numbers i 0 ≤ get_or numbers j 0
not_less numbers up i j from below = elim (cases_lt i j) [
  | inl less ↦ let larger = ordered numbers up i j 0 less below in omega (arith, larger)
  | inr other ↦
      let e : get_or numbers i 0 ≡ get_or numbers j 0 =
      ap (λ k. get_or numbers k 0) (let same : i ≡ j = omega (arith, from, other) in same) in omega (arith, e)
]

pub found : (numbers : List ℕ) (number place : ℕ) → IsStrictlyIncreasing numbers →
    IsBinarySearchResult (λ y. nat_cmp y number) numbers (Ok place) → (place < length numbers) × (get_or numbers place 0 ≡ number)
found numbers number place up result = searched numbers number (Ok place) result (not_less numbers up)

-- a number that is there is found
pub not_missed : (numbers : List ℕ) (number place : ℕ) → IsStrictlyIncreasing numbers → has_number numbers number ≡ true →
    IsBinarySearchResult (λ y. nat_cmp y number) numbers (Err place) → ⊥
not_missed numbers number place up has result =
    let there = place_of numbers number has in
    let around = searched numbers number (Err place) result (not_less numbers up) in
    elim (cases_lt there.place place) [
      | inl before ↦ let less = around.1 there.place before in omega (arith, less, there.is)
      | inr behind ↦ let more = around.2 there.place (omega (arith, behind)) there.in_range in omega (arith, more, there.is)
    ]
