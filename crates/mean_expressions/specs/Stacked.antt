-- What the code has on its stack and does next, as the machine's.
use Rattle.std.specs.Prelude.{◌≡◌, ◌⊎◌, option_copied, ℕ, ◌+◌, List, [], ◌∷◌, ◌++◌, map, take, slice_set, Option, Some, None, Result, Ok, Err}
use Rattle.c_type_base.specs.declared.ty.Ty.{Ty}
use Rattle.block_meaning.specs.Running.{Call, Context, State}
use Rattle.block_meaning.specs.Statements as meaning
use Rattle.mean_machine.specs.Evaluation.{call}
use Rattle.mean_machine.specs.Execution.{enter}
use Rattle.mean_machine.specs.Frames as machine
use Rattle.mean_effects.specs.Objects.{object_of}
use Rattle.mean_effects.specs.Shown.{IsNow, IsHere, IsWindow, Quiet, EndsAs, IsStuck, IsNoMemory}
use Rattle.mean_effects.specs.declared.now.Ending.{Ending}
use Rattle.mean_effects.specs.declared.now.Now.{Now}
use Rattle.mean_effects.specs.declared.here.Here.{Here}
use Rattle.mean_expressions.specs.declared.frames.Control.{Control}
use Rattle.mean_expressions.specs.declared.frames.Control.TheVariants as control
use Rattle.mean_expressions.specs.declared.frames.Flow.{Flow}
use Rattle.mean_expressions.specs.declared.frames.Flow.TheVariants as flow
use Rattle.mean_expressions.specs.declared.frames.Heading.{Heading}
use Rattle.mean_expressions.specs.declared.frames.Loop.{Loop}
use Rattle.mean_expressions.specs.declared.frames.Loop.TheVariants as loop
use Rattle.mean_expressions.specs.declared.frames.Declarations.{Declarations}
use Rattle.mean_expressions.specs.declared.frames.Declarations.TheVariants as declarations
use Rattle.mean_expressions.specs.declared.frames.OperandFrame.{OperandFrame}
use Rattle.mean_expressions.specs.declared.frames.OperandFrame.TheVariants as operand
use Rattle.mean_expressions.specs.declared.frames.PlaceFrame.{PlaceFrame}
use Rattle.mean_expressions.specs.declared.frames.PlaceFrame.TheVariants as place
use Rattle.mean_expressions.specs.declared.frames.ValueFrame.{ValueFrame}
use Rattle.mean_expressions.specs.declared.frames.ValueFrame.TheVariants as value
use Rattle.mean_expressions.specs.declared.frames.FlowFrame.{FlowFrame}
use Rattle.mean_expressions.specs.declared.frames.FlowFrame.TheVariants as of_flow
use Rattle.mean_expressions.specs.declared.frames.DoneFrame.{DoneFrame}
use Rattle.mean_expressions.specs.declared.frames.DoneFrame.TheVariants as done
use Rattle.mean_expressions.specs.declared.frames.Frame.{Frame}
use Rattle.mean_expressions.specs.declared.frames.Frame.TheVariants.{OnOperand, OnPlace, OnValue, OnFlow, OnDone}

-- ---- what is next

abbrev pub heading_of : Heading → meaning.Heading
heading_of h = record {
  declared = h.declared.now;
  first = option_copied h.first;
  condition = option_copied h.condition;
  next = option_copied h.next;
}

abbrev pub loop_of : Loop → machine.Loop
loop_of (loop.While e s) = machine.While e.now s.now
loop_of (loop.DoWhile s e) = machine.DoWhile s.now e.now
loop_of (loop.For h s) = machine.For (heading_of h) s.now

abbrev pub flow_of : Flow → meaning.Flow
flow_of flow.Next = meaning.Next
flow_of flow.Broke = meaning.Broke
flow_of flow.Continued = meaning.Continued
flow_of (flow.Returned v) = meaning.Returned v

-- how the machine stands where the code has this to do
abbrev pub standing : Control → Context → List machine.Frame → State → machine.Machine
standing (control.Evaluate around e) here k = machine.Runs (machine.Evaluate around e.now) here k
standing (control.Locate e) here k = machine.Runs (machine.Locate e.now) here k
standing (control.Execute s) here k = machine.Runs (machine.Execute s.now) here k
standing (control.Declare ds) here k = machine.Runs (machine.Declare ds.now) here k
standing (control.Fill o i) here k = machine.Runs (machine.Fill (object_of o) i.now) here k
standing (control.GivesValue v) here k = machine.Runs (machine.GivesValue v) here k
standing (control.GivesPlace p) here k = machine.Runs (machine.GivesPlace p) here k
standing (control.GivesFlow f) here k = machine.Runs (machine.GivesFlow (flow_of f)) here k
standing control.Finished here k = machine.Runs machine.Finished here k
standing (control.Call span f vs) here k = call enter here k span f vs.items

-- ---- what waits

abbrev pub operand_of : OperandFrame → machine.OperandFrame
operand_of (operand.Unary o e) = machine.Unary o e.now
operand_of (operand.LogicalFirst decides a b) = machine.LogicalFirst decides a.now b.now
operand_of (operand.LogicalSecond b) = machine.LogicalSecond b.now
operand_of (operand.BinaryLeft span o a b) = machine.BinaryLeft span o a.now b.now
operand_of (operand.BinaryRight span o a b v) = machine.BinaryRight span o a.now b.now v
operand_of (operand.AssignRight span o a b p) = machine.AssignRight span o a.now b.now p
operand_of (operand.Condition c a b) = machine.Condition c.now a.now b.now
operand_of (operand.CastTo t) = machine.CastTo t.now
operand_of (operand.ConvertTo t) = machine.ConvertTo t.now
operand_of (operand.Argument span f done es) = machine.Argument span f done.items es.now
operand_of operand.PointerIn = machine.PointerIn
operand_of operand.Dereferenced = machine.Dereferenced
operand_of (operand.IndexLeft t i) = machine.IndexLeft t.now i.now
operand_of (operand.IndexRight t v) = machine.IndexRight t.now v
operand_of (operand.ArrowTo e member) = machine.ArrowTo e.now member

abbrev pub place_of : PlaceFrame → machine.PlaceFrame
place_of place.Addressed = machine.Addressed
place_of (place.AssignLeft span o a b) = machine.AssignLeft span o a.now b.now
place_of (place.Stepped s e) = machine.Stepped s e.now
place_of (place.ReadFrom e) = machine.ReadFrom e.now
place_of place.Decayed = machine.Decayed
place_of (place.MemberAt e member) = machine.MemberAt e.now member
place_of (place.MemberRead e member around t) = machine.MemberRead e.now member around t.now

abbrev pub value_frame_of : ValueFrame → machine.ValueFrame
value_frame_of value.Effect = machine.Effect
value_frame_of value.Drop = machine.Drop
value_frame_of (value.IfTest e s other) = machine.IfTest e.now s.now (option_copied other)
value_frame_of (value.Test l e) = machine.Test (loop_of l) e.now
value_frame_of (value.ThenTurn l) = machine.ThenTurn (loop_of l)
value_frame_of value.Return = machine.Return
value_frame_of (value.FillStruct o e) = machine.FillStruct (object_of o) e.now
value_frame_of (value.FillScalar o e) = machine.FillScalar (object_of o) e.now

abbrev pub done_of : DoneFrame → machine.DoneFrame
done_of (done.Declared ds) = machine.Declared ds.now
done_of done.AfterDeclarations = machine.AfterDeclarations
done_of (done.ForDeclared h s) = machine.ForDeclared (heading_of h) s.now
done_of (done.Elements first n is) = machine.Elements (object_of first) n is.now
done_of (done.Members p ms is) = machine.Members p ms.now is.now

-- ---- where it waits

-- the call that runs, and the blocks of the locals of all open calls
pub record World : Type 0 where
  pub code : Here
  pub locals : List (Option ℕ)

-- the locals of a scope
abbrev pub numbers_of : Declarations → List ℕ
numbers_of (declarations.Block is) = meaning.declared is.now
numbers_of (declarations.For ds) = map meaning.local_of ds.now

-- without some locals of a call
abbrev pub cleared : ℕ → List ℕ → List (Option ℕ) → List (Option ℕ)
cleared base [] locals = locals
cleared base (k ∷ ks) locals = cleared base ks (slice_set locals (base + k) None)

-- outside of the scope that runs
abbrev pub outside_scope : Declarations → World → World
outside_scope d w = record w { locals = cleared w.code.base (numbers_of d) w.locals }

-- outside of the call that runs
abbrev pub outside_call : Here → World → World
outside_call h w = record { code = h; locals = take w.code.base w.locals }

abbrev pub Below : Type 1
Below = World → Context → Type 0

-- where a world runs
pub record IsAt (w : World) (here : Context) : Type 0 where
  pub code : IsHere w.code here
  pub window : IsWindow w.locals w.code here

-- a scope waits
pub record ScopeWaits (d : Declarations) (w : World) (g : machine.Frame) (below : Below) : Type 0 where
  pub outer : Context
  pub is : g ≡ machine.OnFlow (machine.Scope outer (numbers_of d))
  pub outside : IsAt (outside_scope d w) outer
  pub shown : below (outside_scope d w) outer

-- a call waits for the one that runs
pub record CallWaits (h : Here) (t : Ty) (w : World) (g : machine.Frame) (below : Below) : Type 0 where
  pub outer : Context
  pub call : Call
  pub is : g ≡ machine.OnFlow (machine.Called outer call t)
  pub number : call.number ≡ w.code.call
  pub outside : IsAt (outside_call h w) outer
  pub shown : below (outside_call h w) outer

-- a frame, where what is below it is shown outside of it
abbrev pub FrameShown : Frame → World → Context → machine.Frame → Below → Type 0
FrameShown (OnOperand f) w here g below = (g ≡ machine.OnOperand (operand_of f)) × below w here
FrameShown (OnPlace f) w here g below = (g ≡ machine.OnPlace (place_of f)) × below w here
FrameShown (OnValue f) w here g below = (g ≡ machine.OnValue (value_frame_of f)) × below w here
FrameShown (OnDone f) w here g below = (g ≡ machine.OnDone (done_of f)) × below w here
FrameShown (OnFlow (of_flow.Items is)) w here g below = (g ≡ machine.OnFlow (machine.Items is.now)) × below w here
FrameShown (OnFlow (of_flow.Body l)) w here g below = (g ≡ machine.OnFlow (machine.Body (loop_of l))) × below w here
FrameShown (OnFlow (of_flow.Scope d)) w here g below = ScopeWaits d w g below
FrameShown (OnFlow (of_flow.Called h t)) w here g below = CallWaits h t.now w g below

-- the top of the code's stack is its last frame
pub record Top (frames : List Frame) (w : World) (here : Context) (g : machine.Frame) (below : List Frame → Below) : Type 0 where
  pub front : List Frame
  pub top : Frame
  pub is : frames ≡ front ++ top ∷ []
  pub shown : FrameShown top w here g (below front)

abbrev pub Stacked : List machine.Frame → List Frame → World → Context → Type 0
Stacked [] frames w here = frames ≡ []
Stacked (g ∷ k) frames w here = Top frames w here g (Stacked k)

-- ---- how the code stands

-- as the machine does, where that is not at its end
pub record Stood (n : Now) (frames : List Frame) (w : World) (here : Context) (before : State) (c : Control) (m : machine.Machine)
    : Type 0 where
  pub frames_below : List machine.Frame
  pub after : State
  pub is : m ≡ standing c here frames_below after
  pub stack : Stacked frames_below frames w here
  pub now : IsNow n after
  pub quiet : Quiet before after

abbrev pub Sticks : machine.Machine → Type 0
Sticks (machine.Runs d there k after) = ⊥
Sticks (machine.Ended why after) = IsStuck why

-- it stops as the machine does
abbrev pub StopsBy : State → Ending → machine.Machine → Type 0
StopsBy before e (machine.Runs d there k after) = IsNoMemory e
StopsBy before e (machine.Ended why after) = EndsAs e why before after

abbrev pub StandsBy : Now → List Frame → World → Context → State → Result Control Ending → machine.Machine → Type 0
StandsBy n frames w here before (Ok c) m = Stood n frames w here before c m ⊎ Sticks m
StandsBy n frames w here before (Err e) m = StopsBy before e m

-- from a state, the code's answer, in the same place, and where the machine goes
pub record Stands (n : Now) (frames : List Frame) (w : World) (here : Context) (before : State) (r : Result Control Ending)
    (m : machine.Machine) : Type 0 where
  pub told : StandsBy n frames w here before r m
