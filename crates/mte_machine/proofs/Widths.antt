-- Numbers that are within 32 bits.
use Rattle.std.proofs.Common.{◌≡◌, ◌<◌, ◌^◌, ℕ, Bool, true, false, refl, arith}
use Rattle.a64_alu.specs.Width.{of_width}

-- a number of 32 bits is left as it is
pub of_width_small : (wide : Bool) (n : ℕ) → n < 2 ^ 32 → of_width wide n ≡ n
of_width_small true n small = refl
of_width_small false n small = omega arith
