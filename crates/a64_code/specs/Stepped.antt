-- What an instruction or a step does (this project's own).
use Rattle.std.specs.Prelude.{Option, Some, None}
use Rattle.a64_code.specs.declared.end.MachineEnd.{MachineEnd}
use Rattle.a64_code.specs.State.{State}

-- It leads to a state, or ends the run and leaves the state as it was. No step ends it for want of steps.
pub data Stepped : Type 0 where
  Leads : State → Stepped
  Ends : MachineEnd → Stepped

-- it leads to this state, unless something ends the run
abbrev pub unless : Option MachineEnd → State → Stepped
unless None next = Leads next
unless (Some end) next = Ends end
