-- Laws of the number that digits write.
use Rattle.std.proofs.Common.{ℕ, ◌+◌, ◌*◌, ◌<◌, ◌≤◌, List, [], ◌∷◌, fold, arith}
use Rattle.std.specs.Char.{digit_value}

-- a product with a positive number is no smaller
mul-grows : (radix value : ℕ) → 0 < radix → value ≤ value * radix
mul-grows radix value positive = grind arith

-- further digits make a number no smaller
pub fold-grows : (radix value : ℕ) (digits : List ℕ) → 0 < radix → value ≤ fold (λ v b. v * radix + digit_value b) value digits
fold-grows radix value [] positive = omega arith
fold-grows radix value (b ∷ digits) positive =
    omega (arith, mul-grows radix value positive, fold-grows radix (value * radix + digit_value b) digits positive)
