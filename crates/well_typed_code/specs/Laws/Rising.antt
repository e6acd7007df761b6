-- Numbers that rise within bounds (this project's own).
use Rattle.std.specs.Prelude.{◌≡◌, ◌≢◌, ℕ, zero, suc, ◌<◌, ◌≤◌, List, [], ◌∷◌, ◌++◌, length, slice_index_or, refl}
use Rattle.std.specs.List.{AllPairs, Contains}
use Rattle.std.proofs.Common.{arith}

-- each is above the one before it; the first is at least the one bound, and the last below the other
abbrev pub Rising : ℕ → ℕ → List ℕ → Type 0
Rising from to [] = from ≤ to
Rising from to (k ∷ ks) = (from ≤ k) × Rising (suc k) to ks

-- the bounds are in order
pub Rising-ordered : (from to : ℕ) (ks : List ℕ) → Rising from to ks → from ≤ to
Rising-ordered from to [] rising = rising
Rising-ordered from to (k ∷ ks) (least, rest) = omega (arith, least, Rising-ordered (suc k) to ks rest)

-- so they rise below a larger bound
pub Rising-wider : (from to more : ℕ) (ks : List ℕ) → to ≤ more → Rising from to ks → Rising from more ks
Rising-wider from to more [] less rising = omega (arith, less, rising)
Rising-wider from to more (k ∷ ks) less (least, rest) = (least, Rising-wider (suc k) to more ks less rest)

-- and from a smaller one
pub Rising-lower : (less from to : ℕ) (ks : List ℕ) → less ≤ from → Rising from to ks → Rising less to ks
Rising-lower less from to [] lower rising = omega (arith, lower, rising)
Rising-lower less from to (k ∷ ks) lower (least, rest) = (omega (arith, lower, least), rest)

-- some, and then others from where they ended
pub Rising-append : (from middle to : ℕ) (ks js : List ℕ) → Rising from middle ks → Rising middle to js → Rising from to (ks ++ js)
Rising-append from middle to [] js first next = Rising-lower from middle to js first next
Rising-append from middle to (k ∷ ks) js (least, rest) next = (least, Rising-append (suc k) middle to ks js rest next)

-- one of them is within the bounds
pub record Within (from to k : ℕ) : Type 0 where
  pub least : from ≤ k
  pub below : k < to

at_place : (from to : ℕ) (ks : List ℕ) (k i : ℕ) → Rising from to ks → i < length ks → (d : ℕ) → slice_index_or ks i d ≡ k →
    Within from to k
at_place from to [] k i rising less d is = absurd (omega (arith, less))
at_place from to (j ∷ ks) k zero (least, rest) less d is =
    record { least = omega (arith, least, is); below = omega (arith, is, Rising-ordered (suc j) to ks rest) }
at_place from to (j ∷ ks) k (suc i) (least, rest) less d is =
    let later : Within (suc j) to k = at_place (suc j) to ks k i rest (omega (arith, less)) d is in
    record { least = omega (arith, least, later.least); below = later.below }

pub Rising-within : (from to : ℕ) (ks : List ℕ) (k : ℕ) → Rising from to ks → Contains ks k → Within from to k
Rising-within from to ks k rising (i, less, is) = at_place from to ks k i rising less k is

-- and they are all different
pub Rising-different : (from to : ℕ) (ks : List ℕ) → Rising from to ks → AllPairs (λ j k. j ≢ k) ks
Rising-different from to [] rising i j d less within = absurd (omega (arith, within))
Rising-different from to (k ∷ ks) (least, rest) zero zero d less within = absurd (omega (arith, less))
Rising-different from to (k ∷ ks) (least, rest) zero (suc j) d less within =
    λ same. let later = at_place (suc k) to ks (slice_index_or ks j d) j rest (omega (arith, within)) d refl in
    omega (arith, later.least, same)
Rising-different from to (k ∷ ks) (least, rest) (suc i) zero d less within = absurd (omega (arith, less))
Rising-different from to (k ∷ ks) (least, rest) (suc i) (suc j) d less within =
    Rising-different (suc k) to ks rest i j d (omega (arith, less)) (omega (arith, within))
