-- The sixteen conditions on the flags, `ConditionHolds` of the Arm ARM.
use Rattle.std.specs.Prelude.{ℕ, ◌/◌, ◌%◌, Bool, true, not, ◌&&◌, ◌==◌, nat_lt, if◌then◌else◌}
use Rattle.std.specs.Bool.{beq}
use Rattle.a64_alu.specs.declared.flags.Flags.{Flags}

-- what the upper three bits of a condition ask: EQ, CS, MI, VS, HI, GE, GT, AL
abbrev pub base_condition : ℕ → Flags → Bool
base_condition base f =
    if base == 0 then f.zero
    else if base == 1 then f.carry
    else if base == 2 then f.negative
    else if base == 3 then f.overflow
    else if base == 4 then (f.carry && not f.zero)
    else if base == 5 then beq f.negative f.overflow
    else if base == 6 then (beq f.negative f.overflow && not f.zero)
    else true

-- an odd condition asks the contrary, but 14 and 15 always hold
abbrev pub condition_holds : ℕ → Flags → Bool
condition_holds cond f = if nat_lt cond 14 && (cond % 2 == 1) then not (base_condition (cond / 2) f) else base_condition (cond / 2) f
