-- The four halfwords of a register.
use Rattle.std.proofs.Common.{ℕ, zero, suc, ◌<◌, arith}

-- what holds of each of the four holds of all
pub each_halfword : (P : ℕ → Type 0) → P 0 → P 1 → P 2 → P 3 → (hw : ℕ) → hw < 4 → P hw
each_halfword P first second third fourth zero within = first
each_halfword P first second third fourth (suc zero) within = second
each_halfword P first second third fourth (suc (suc zero)) within = third
each_halfword P first second third fourth (suc (suc (suc zero))) within = fourth
each_halfword P first second third fourth (suc (suc (suc (suc n)))) within = absurd (omega arith)
