-- A whole process of the code: what is next, what waits, and where it runs, as the machine's.
use Rattle.std.specs.Prelude.{◌≡◌, ◌⊎◌, List, Result, Ok, Err}
use Rattle.block_meaning.specs.Running.{Context, State}
use Rattle.mean_machine.specs.Frames as machine
use Rattle.mean_effects.specs.Shown.{IsNow}
use Rattle.mean_effects.specs.declared.now.Ending.{Ending}
use Rattle.mean_expressions.specs.declared.frames.Control.{Control}
use Rattle.mean_expressions.specs.Stacked.{World, IsAt, Stacked, Stood, Sticks, StopsBy}
use Rattle.mean_run.specs.declared.process.Process.{Process}

abbrev pub world_of : Process → World
world_of p = record { code = p.here; locals = p.locals.items }

-- a process of the code for a state, where something runs and something waits
pub record IsProcess (p : Process) (here : Context) (k : List machine.Frame) (now : State) : Type 0 where
  pub at : IsAt (world_of p) here
  pub stack : Stacked k p.stack.items (world_of p) here
  pub shown : IsNow p.now now

-- the code stands as the machine does, wherever that goes
pub record Moved (p : Process) (before : State) (c : Control) (m : machine.Machine) : Type 0 where
  pub there : Context
  pub at : IsAt (world_of p) there
  pub stood : Stood p.now p.stack.items (world_of p) there before c m

abbrev pub MovesBy : Process → State → Result Control Ending → machine.Machine → Type 0
MovesBy p before (Ok c) m = Moved p before c m ⊎ Sticks m
MovesBy p before (Err e) m = StopsBy before e m

-- from a state, the code's answer, and where the machine goes
pub record Moves (p : Process) (before : State) (r : Result Control Ending) (m : machine.Machine) : Type 0 where
  pub told : MovesBy p before r m
