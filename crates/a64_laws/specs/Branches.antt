-- Branches to an instruction so many on or back: their fields, and where they go (this project's own).
use Rattle.std.specs.Prelude.{ℕ, ◌+◌, ◌-◌, ◌*◌, ◌^◌, ◌<◌, ◌≤◌, ◌==◌, Bool, true, false, not}
use Rattle.a64_alu.specs.Condition.{condition_holds}
use Rattle.a64_code.specs.declared.instr.Instr.{Instr}
use Rattle.a64_code.specs.declared.instr.Instr.TheVariants.{Cbz, Cbnz, B, Bl, BCond}
use Rattle.a64_code.specs.declared.instr.Reg.{Reg}
use Rattle.a64_code.specs.State.{State}
use Rattle.a64_code.specs.Results.{number}
use Rattle.a64_laws.specs.Forms.{puts_pc, puts_link}

-- to the instruction so many on, or back
pub data Way : Type 0 where
  Forward : ℕ → Way
  Back : ℕ → Way

-- always, with the link or without; where a register is zero or not, at either width; where a condition holds
pub data Branch : Type 0 where
  Always : Branch
  Linked : Branch
  OnZero : Bool → Reg → Branch
  OnOther : Bool → Reg → Branch
  OnCondition : ℕ → Branch

-- ---- the instruction

-- the width of a branch's field
abbrev pub field_bits : Branch → ℕ
field_bits Always = 26
field_bits Linked = 26
field_bits (OnZero wide rt) = 19
field_bits (OnOther wide rt) = 19
field_bits (OnCondition cond) = 19

-- the field: words on or back, as a signed number of so many bits
abbrev pub field : ℕ → Way → ℕ
field bits (Forward items) = items
field bits (Back items) = 2 ^ bits - items

abbrev pub branch_of : Branch → ℕ → Instr
branch_of Always words = B words
branch_of Linked words = Bl words
branch_of (OnZero wide rt) words = Cbz wide words rt
branch_of (OnOther wide rt) words = Cbnz wide words rt
branch_of (OnCondition cond) words = BCond words cond

abbrev pub jump_instr : Branch → Way → Instr
jump_instr branch way = branch_of branch (field (field_bits branch) way)

-- ---- where it goes

abbrev pub goes_to : ℕ → Way → ℕ
goes_to at (Forward words) = at + 4 * words
goes_to at (Back words) = at - 4 * words

-- the field reaches it, and it lies in memory's addresses
abbrev pub IsInReach : ℕ → ℕ → Way → Type 0
IsInReach bits at (Forward words) = (words < 2 ^ (bits - 1)) × (at + 4 * words < 2 ^ 64)
IsInReach bits at (Back words) = (1 ≤ words) × (words ≤ 2 ^ (bits - 1)) × (4 * words ≤ at)

-- the branch is taken
abbrev pub is_taken : Branch → State → Bool
is_taken Always s = true
is_taken Linked s = true
is_taken (OnZero wide rt) s = number false wide s rt == 0
is_taken (OnOther wide rt) s = not (number false wide s rt == 0)
is_taken (OnCondition cond) s = condition_holds cond s.flags

-- the state there, where a branch with the link leaves the address behind it in X30
abbrev pub jumped : Branch → ℕ → State → State
jumped Linked address s = puts_link address s
jumped _ address s = puts_pc address s
