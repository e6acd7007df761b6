-- A step or a call of the code, from what the run keeps to what it keeps or gives.
use Rattle.std.proofs.Common.{ℕ, List, Option, Result}
use Rattle.block_meaning.specs.Laws.Steady.{begins-itself}
use Rattle.block_meaning.specs.Laws.Steady as steady
use Rattle.block_meaning.specs.Meaning.{outcome_of}
use Rattle.block_meaning.specs.Running.{Context, State}
use Rattle.mean_machine.specs.Frames.{Frame}
use Rattle.mean_machine.specs.Laws.Computes.{Leads}
use Rattle.mean_machine.specs.Laws.Programs.{last}
use Rattle.mean_machine.specs.Laws.Putting.{put_by, call_puts}
use Rattle.mean_machine.specs.Laws.PuttingOn.{enter_puts}
use Rattle.mean_machine.specs.Laws.Resting.{leads-step, last-rests}
use Rattle.mean_machine.specs.Steps.{step}
use Rattle.mean_expressions.specs.Stacked.{standing}
use Rattle.mean_run.specs.Processes.{IsProcess, Moves}
use Rattle.mean_expressions.specs.declared.frames.Control.{Control}
use Rattle.mean_expressions.specs.declared.frames.Control.TheVariants as control
use Rattle.mean_effects.specs.declared.now.Ending.{Ending}
use Rattle.mean_run.specs.declared.process.Process.{Process}
use Rattle.mean_program.specs.Answers.{Begins}
use Rattle.mean_program.specs.Held.{Aim, Holds, TurnGives}
use Rattle.mean_program.specs.Laws.Outside.{begins_so, begins_on, leads-begins}
use Rattle.mean_program.specs.Laws.Turns.{after, turn-moves}

-- wherever the machine goes from there, what was put stays
stays_put : (c : Control) (here : Context) (k : List Frame) (now : State) → steady.Begins now.output (put_by (standing c here k now))
stays_put (control.Evaluate around e) here k now = begins-itself now.output
stays_put (control.Locate e) here k now = begins-itself now.output
stays_put (control.Execute s) here k now = begins-itself now.output
stays_put (control.Declare ds) here k now = begins-itself now.output
stays_put (control.Fill o i) here k now = begins-itself now.output
stays_put (control.GivesValue v) here k now = begins-itself now.output
stays_put (control.GivesPlace p) here k now = begins-itself now.output
stays_put (control.GivesFlow f) here k now = begins-itself now.output
stays_put control.Finished here k now = begins-itself now.output
stays_put (control.Call span f vs) here k now = (call_puts enter_puts here k span f vs.items).puts now

pub part-put : (aim : Aim) (c : Control) (here : Context) (k : List Frame) (now : State) →
    Leads (standing c here k now) (last aim.program aim.result) → Begins now.output (outcome_of aim.result).output
part-put aim c here k now leads = begins_on (begins_so (stays_put c here k now)) (leads-begins aim (standing c here k now) leads)

-- a call was made
pub turn-called : (aim : Aim) (p q : Process) (c : Control) (r : Result Control Ending) (input output : Option (List ℕ)) →
    Holds aim p c input output →
    ((here : Context) (k : List Frame) (now : State) → IsProcess p here k now → Moves q now r (standing c here k now)) →
    TurnGives aim q (after r) input output
turn-called aim p q c r input output holds moves =
    turn-moves aim q r (standing c holds.here holds.waiting holds.now) holds.now input output holds.leads holds.left holds.taken
    (part-put aim c holds.here holds.waiting holds.now holds.leads)
    (moves holds.here holds.waiting holds.now holds.is).told

-- a step was made
pub turn-stepped : (aim : Aim) (p q : Process) (c : Control) (r : Result Control Ending) (input output : Option (List ℕ)) →
    Holds aim p c input output →
    ((here : Context) (k : List Frame) (now : State) → IsProcess p here k now → Moves q now r (step (standing c here k now))) →
    TurnGives aim q (after r) input output
turn-stepped aim p q c r input output holds moves =
    turn-moves aim q r (step (standing c holds.here holds.waiting holds.now)) holds.now input output
    (leads-step (last-rests aim.program aim.result) holds.leads) holds.left holds.taken
    (part-put aim c holds.here holds.waiting holds.now holds.leads)
    (moves holds.here holds.waiting holds.now holds.is).told
