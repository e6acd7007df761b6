-- Ways between places that are counted in words (this project's own).
use Rattle.std.specs.Prelude.{◌≡◌, ℕ, ◌+◌, ◌-◌, ◌*◌, ◌^◌, ◌<◌, ◌≤◌, Bool, true, false, nat_le, if◌then◌else◌, refl}
use Rattle.std.proofs.Common.{arith}
use Rattle.std.proofs.lemmas.Bool.Decides.{nat_tests}
use Rattle.a64_laws.specs.Branches.{Way, Forward, Back, goes_to, IsInReach}
use Rattle.gen_unit.specs.Words.{way}

-- by the order of two numbers
abbrev way_by : Bool → ℕ → ℕ → Way
way_by forward from to = if forward then Forward (to - from) else Back (from - to)

is_le : (a b : ℕ) → nat_le a b ≡ true → a ≤ b
is_le a b h = grind (arith, nat_tests)

is_more : (a b : ℕ) → nat_le a b ≡ false → b < a
is_more a b h = grind (arith, nat_tests)

-- from one place to another, where both are counted from an address
pub way-goes : (base from to : ℕ) → goes_to (base + 4 * from) (way from to) ≡ base + 4 * to
way-goes base from to = by_order (nat_le from to) refl
  where
    by_order : (forward : Bool) → nat_le from to ≡ forward → goes_to (base + 4 * from) (way_by forward from to) ≡ base + 4 * to
    by_order true is = omega (arith, is_le from to is)
    by_order false is = omega (arith, is_more from to is)

pub way-reaches : (bits base from to : ℕ) → from < to + 2 ^ (bits - 1) → to < from + 2 ^ (bits - 1) → base + 4 * to < 2 ^ 64 →
    IsInReach bits (base + 4 * from) (way from to)
way-reaches bits base from to back on fits = by_order (nat_le from to) refl
  where
    by_order : (forward : Bool) → nat_le from to ≡ forward → IsInReach bits (base + 4 * from) (way_by forward from to)
    by_order true is = (omega (arith, is_le from to is, on), omega (arith, is_le from to is, fits))
    by_order false is =
        (omega (arith, is_more from to is), omega (arith, is_more from to is, back), omega (arith, is_more from to is))
