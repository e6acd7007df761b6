-- Addresses relative to PC (`BranchTo` of the Arm ARM, and the pages of the branches and of ADRP).
use Rattle.std.specs.Prelude.{ℕ, ◌*◌, ◌/◌}
use Rattle.mt_base.specs.Wrapping.{wrapping_add}
use Rattle.mt_base.specs.Extension.{sign_extend}
use Rattle.a64_code.specs.State.{State}

-- so many words on from PC, or back: the `bits` bits are a signed number
abbrev pub target : ℕ → ℕ → State → ℕ
target bits words s = wrapping_add 64 s.pc (4 * sign_extend bits 64 words)

-- the page of PC, and so many pages on or back: the 21 bits are a signed number
abbrev pub page_target : ℕ → State → ℕ
page_target pages s = wrapping_add 64 (s.pc / 4096 * 4096) (4096 * sign_extend 21 64 pages)
