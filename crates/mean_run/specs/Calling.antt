-- What the code knows of a call: before it, inside of it, and behind it.
use Rattle.std.specs.Prelude.{◌≡◌, ℕ, ◌+◌, leb, true, List, [], ◌∷◌, ◌++◌, take, Option, Some, Result, Ok, Err}
use Rattle.c_ast.specs.declared.token.Span.{Span}
use Rattle.c_type_base.specs.declared.statement.TItem.{TItem}
use Rattle.block_meaning.specs.declared.reason.Reason.TheVariants.{Signature}
use Rattle.block_meaning.specs.declared.value.Value.{Value}
use Rattle.block_meaning.specs.Linkage.{function_of, function_named}
use Rattle.block_meaning.specs.Meaning.{frame_bytes, open_bytes, inside}
use Rattle.block_meaning.specs.Running.{Function, Call, Context, State, Goes}
use Rattle.mean_machine.specs.Execution.{enter, entered}
use Rattle.mean_machine.specs.Frames as machine
use Rattle.mean_start.specs.declared.file.Called.{Called}
use Rattle.mean_start.specs.declared.file.Called.TheVariants as called
use Rattle.mean_start.specs.declared.file.FunctionId.{FunctionId}
use Rattle.mean_run.specs.declared.entry.Entry.{Entry}
use Rattle.mean_effects.specs.declared.here.Here.{Here}
use Rattle.mean_effects.specs.declared.now.Ending.{Ending}
use Rattle.mean_effects.specs.declared.now.Ending.TheVariants as ending
use Rattle.mean_effects.specs.declared.now.Now.{Now}
use Rattle.mean_run.specs.declared.process.Process.{Process}
use Rattle.mean_run.specs.Entering.{Origin, Behind}
use Rattle.mean_effects.specs.Shown.{IsNow, IsHere, Quiet}
use Rattle.mean_expressions.specs.Stacked.{IsAt, Stacked, StopsBy, outside_call}
use Rattle.mean_run.specs.Processes.{world_of}

-- ---- which function

abbrev pub function_by : FunctionId → Function
function_by f = function_of f.unit f.number

abbrev pub function_answer : Result FunctionId Ending → Result Function Ending
function_answer (Ok f) = Ok (function_by f)
function_answer (Err e) = Err e

-- the answer to a call of a name that another file defines, in a file and at a span
abbrev pub called_answer : ℕ → Span → Called → Result Function Ending
called_answer unit span called.Missing = Err ending.NoMemory
called_answer unit span called.OtherType = Err (ending.Undefined Signature unit span)
called_answer unit span (called.Function f) = Ok (function_by f)

-- ---- how it is entered

-- a call that is the next of so many
abbrev pub next_call : Context → Function → ℕ → ℕ → Call
next_call here f calls bytes = record { number = calls; function = f; place = open_bytes here.open_calls + bytes }

-- the function, and where its body runs, by how many calls there were and by how many blocks of locals
pub record IsEntry (e : Entry) (here : Context) (f : Function) (calls first : ℕ) : Type 0 where
  pub bytes : ℕ
  pub found : function_named here.program.units f ≡ Some e.function.now
  pub frame : frame_bytes here.program f ≡ Some bytes
  pub fits : leb (open_bytes here.open_calls + bytes) here.program.stack ≡ true
  pub code : IsHere e.here (inside here (next_call here f calls bytes))
  pub base : e.here.base ≡ first

-- that, or why it is not entered
abbrev pub EntryAnswer : Result Entry Ending → Context → Function → ℕ → ℕ → Type 0
EntryAnswer (Ok e) here f calls first = IsEntry e here f calls first
EntryAnswer (Err e) here f calls first = (k : List machine.Frame) (vs : List Value) (now : State) → StopsBy now e (enter here k f vs now)

-- where the locals of a call come, which is made in a state
abbrev pub origin_of : Context → Call → List (Option ℕ) → State → Origin
origin_of here c before now = record {
  here = inside here c;
  locals = before;
  start = record now { calls = now.calls ++ c ∷ [] };
}

-- what is called: by which values, and the parts of its body
pub record Request : Type 0 where
  pub here : Context
  pub function : Function
  pub values : List Value
  pub items : List TItem
  pub now : State

-- the call was entered
pub record Started (e : Entry) (q : Request) (before : List (Option ℕ)) (n : Now) (locals : List (Option ℕ)) : Type 0 where
  pub bytes : ℕ
  pub found : function_named q.here.program.units q.function ≡ Some e.function.now
  pub frame : frame_bytes q.here.program q.function ≡ Some bytes
  pub call : Call
  pub inner : Context
  pub after : State
  pub is : entered q.here q.function q.values e.function.now bytes q.now
      ≡ Goes (record { call = call; inner = inner; items = q.items }) after
  pub number : call.number ≡ e.here.call
  pub at : IsAt (record { code = e.here; locals = locals }) inner
  pub kept : take e.here.base locals ≡ before
  pub shown : IsNow n after
  pub quiet : Quiet q.now after

-- ---- what is behind it

-- a process inside of a call whose frame was taken from the stack
pub record IsInCall (p : Process) (h : Here) (call : Call) (b : Behind) : Type 0 where
  pub number : call.number ≡ p.here.call
  pub outside : IsAt (outside_call h (world_of p)) b.outer
  pub stack : Stacked b.frames p.stack.items (outside_call h (world_of p)) b.outer
  pub shown : IsNow p.now b.now
