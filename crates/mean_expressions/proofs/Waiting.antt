-- A frame that the code has in hand, by which one it is.
use Rattle.std.proofs.Common.{◌≡◌, sym, subst, List, Result}
use Rattle.block_meaning.specs.declared.value.Pointer.{Pointer}
use Rattle.block_meaning.specs.declared.value.Value.{Value}
use Rattle.block_meaning.specs.Running.{Context, State}
use Rattle.mean_machine.specs.Evaluation.{operand_given, place_given}
use Rattle.mean_machine.specs.Execution.{enter}
use Rattle.mean_machine.specs.Frames as machine
use Rattle.mean_expressions.specs.declared.frames.Control.{Control}
use Rattle.mean_expressions.specs.declared.frames.Frame.{Frame}
use Rattle.mean_expressions.specs.declared.frames.OperandFrame.{OperandFrame}
use Rattle.mean_expressions.specs.declared.frames.PlaceFrame.{PlaceFrame}
use Rattle.mean_effects.specs.declared.now.Ending.{Ending}
use Rattle.mean_effects.specs.declared.now.Now.{Now}
use Rattle.mean_expressions.specs.Stacked.{World, Stands, operand_of, place_of}

-- how the code stands after a value for an operand's frame
abbrev pub TakesOperand : Now → List Frame → World → Context → State → Result Control Ending → List machine.Frame → Value →
    OperandFrame → Type 0
TakesOperand n frames w here now r k v f = Stands n frames w here now r (operand_given enter here k (operand_of f) v now)

pub as-operand : {n : Now} {frames : List Frame} {w : World} {here : Context} {now : State} {r : Result Control Ending}
    {f g : OperandFrame} (k : List machine.Frame) (v : Value) → f ≡ g → TakesOperand n frames w here now r k v g →
    TakesOperand n frames w here now r k v f
as-operand {n = n} {frames = frames} {w = w} {here = here} {now = now} {r = r} k v same takes =
    subst (TakesOperand n frames w here now r k v) (sym same) takes

-- how the code stands after a place for a place's frame
abbrev pub TakesPlace : Now → List Frame → World → Context → State → Result Control Ending → List machine.Frame → Pointer →
    PlaceFrame → Type 0
TakesPlace n frames w here now r k p f = Stands n frames w here now r (place_given here k (place_of f) p now)

pub as-place : {n : Now} {frames : List Frame} {w : World} {here : Context} {now : State} {r : Result Control Ending}
    {f g : PlaceFrame} (k : List machine.Frame) (p : Pointer) → f ≡ g → TakesPlace n frames w here now r k p g →
    TakesPlace n frames w here now r k p f
as-place {n = n} {frames = frames} {w = w} {here = here} {now = now} {r = r} k p same takes =
    subst (TakesPlace n frames w here now r k p) (sym same) takes
