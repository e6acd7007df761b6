-- Lists of locals that are all different (this project's own).
use Rattle.std.specs.Prelude.{◌≡◌, ◌≢◌, ℕ, zero, suc, ◌<◌, List, [], ◌∷◌, length, slice_get, replicate, slice_index_or, Some, refl, ◌⊎◌}
use Rattle.std.specs.List.{AllPairs, Contains}
use Rattle.std.proofs.Common.{arith, ap, sym, inl, inr, ◌∙◌}
use Rattle.block_meaning.specs.declared.cell.Cell.{Cell}
use Rattle.block_meaning.specs.declared.cell.Cell.TheVariants.{Nothing}

pub contains_first : (k : ℕ) (ks : List ℕ) → Contains (k ∷ ks) k
contains_first k ks = (0, omega arith, refl)

pub contains_more : (k : ℕ) (ks : List ℕ) (j : ℕ) → Contains ks j → Contains (k ∷ ks) j
contains_more k ks j has = let below = has.1 in (suc has.0, omega (arith, below), has.2)

pub contains_none : (j : ℕ) → Contains [] j → ⊥
contains_none j has = let below = has.1 in omega (arith, below)

pub contains_cases : (k : ℕ) (ks : List ℕ) (j : ℕ) → Contains (k ∷ ks) j → (j ≡ k) ⊎ Contains ks j
contains_cases k ks j has = by_place has.0 has.1 has.2
  where
    by_place : (i : ℕ) → i < length (k ∷ ks) → slice_index_or (k ∷ ks) i j ≡ j → (j ≡ k) ⊎ Contains ks j
    by_place zero below is = inl (sym is)
    by_place (suc i) below is = inr (i, omega (arith, below), is)

-- each is another than all behind it
abbrev pub AreDifferent : List ℕ → Type 0
AreDifferent [] = Unit {0}
AreDifferent (k ∷ ks) = ((j : ℕ) → Contains ks j → j ≢ k) × AreDifferent ks

pub are_different : (ks : List ℕ) → AllPairs (λ j k. j ≢ k) ks → AreDifferent ks
are_different [] pairs = tt
are_different (k ∷ ks) pairs = (
  λ j has same.
      let below = has.1 in
      pairs 0 (suc has.0) j (omega arith) (omega (arith, below)) (sym same ∙ sym has.2),
  are_different ks (λ i j d less within. pairs (suc i) (suc j) d (omega (arith, less)) (omega (arith, within))),
)

-- ---- cells that were never written

pub length-nothing : (n : ℕ) → length (replicate n Nothing) ≡ n
length-nothing zero = refl
length-nothing (suc n) = ap suc (length-nothing n)

pub get-nothing : (n offset : ℕ) (c : Cell) → slice_get (replicate n Nothing) offset ≡ Some c → c ≡ Nothing
get-nothing zero offset c is = absurd (cc)
get-nothing (suc n) zero c is = cc
get-nothing (suc n) (suc offset) c is = get-nothing n offset c is
