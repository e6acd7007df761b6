-- A turn of a loop: its unit, and what comes then.
use Rattle.std.proofs.Common.{List, Result}
use Rattle.block_meaning.specs.Running.{Context, State}
use Rattle.mean_machine.specs.Execution.{turn}
use Rattle.mean_machine.specs.Frames as machine
use Rattle.mean_machine.specs.Going.{spend}
use Rattle.mean_expressions.specs.Stacked.{World, Stands}
use Rattle.mean_control.specs.Turns.{turn_after}
use Rattle.mean_effects.specs.declared.now.Ending.{Ending}
use Rattle.mean_effects.specs.declared.now.Now.{Now}
use Rattle.mean_expressions.specs.declared.frames.Control.{Control}
use Rattle.mean_expressions.specs.declared.frames.Frame.{Frame}

pub stands-turn : {n : Now} {frames : List Frame} {w : World} {here : Context} {start : State} {r : Result Control Ending}
    (k : List machine.Frame) (l : machine.Loop) → Stands n frames w here start r (spend (turn_after here k l) start) →
    Stands n frames w here start r (turn here k l start)
stands-turn k (machine.While e s) stands = stands
stands-turn k (machine.DoWhile s e) stands = stands
stands-turn k (machine.For h s) stands = stands
