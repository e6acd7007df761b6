-- How an instruction that loads or stores goes on (this project's own).
use Rattle.std.specs.Prelude.{◌≡◌, Bool, true, false, Result, Ok, Err}
use Rattle.a64_code.specs.State.{State, advanced}
use Rattle.a64_code.specs.declared.end.MachineEnd.{MachineEnd}
use Rattle.a64_code.specs.declared.register.RegisterField.{RegisterField}
use Rattle.a64_code.specs.declared.register.RegisterField.TheVariants.{Rn}
use Rattle.mte_machine.specs.declared.step.Step.{Step}
use Rattle.mte_machine.specs.declared.step.Step.TheVariants.{Ran, Ended}

-- of the fields of a load or a store, the base may be the stack pointer
abbrev pub base_is_sp : RegisterField → Bool
base_is_sp Rn = true
base_is_sp _ = false

-- of those of a store of tags, both may be
abbrev pub each_is_sp : RegisterField → Bool
each_is_sp _ = true

-- what follows a write that was answered so: the next instruction, or the end of the run
abbrev pub FollowsWrite : Result (Unit {0}) MachineEnd → State → Step → State → Type 0
FollowsWrite (Ok done) old answer new = (answer ≡ Ran) × (new ≡ advanced old)
FollowsWrite (Err end) old answer new = (answer ≡ Ended end) × (new ≡ old)
