-- What a program means (ISO C11 5.1.2.3, 6.5.2.2, 6.9.1): the run of `main` over the blocks of its files, with a bound on its work, its
-- input, and frames that fit into a stack.
use Rattle.std.specs.Prelude.{◌≡◌, ◌≢◌, ℕ, zero, suc, ◌+◌, ◌%◌, Bool, false, leb, nat_eq, List, [], ◌∷◌, ◌++◌, map, take, codes, slice_get}
use Rattle.std.specs.Prelude.{Option, Some, None, if◌then◌else◌, length}
use Rattle.c_type_base.specs.declared.ty.Ty.{Ty}
use Rattle.c_type_base.specs.declared.statement.TItem.TheOpen.{TStmt-F}
use Rattle.c_type_base.specs.declared.statement.TStmt.{out-TStmt}
use Rattle.c_type_base.specs.declared.typed.TFunction.{TFunction}
use Rattle.c_type_base.specs.declared.typed.LocalInfo.{LocalInfo}
use Rattle.block_meaning.specs.declared.kind.Kind.{Kind}
use Rattle.block_meaning.specs.declared.kind.Kind.TheVariants.{Local}
use Rattle.block_meaning.specs.Blocks.{Block, block_of, ended}
use Rattle.block_meaning.specs.Expressions.{Calls}
use Rattle.block_meaning.specs.Linkage.{Definition, AnObject, AFunction, defined, function_named}
use Rattle.block_meaning.specs.Locals.{latest, new_block, new_locals}
use Rattle.block_meaning.specs.Opening.{opening}
use Rattle.block_meaning.specs.Running.{Function, Call, Program, Context, State, Result, Goes, Stops, Run, Stop, Deep, Stuck, gives, stops}
use Rattle.block_meaning.specs.Running.{stuck, and_then, unit_then, choice, with_some, with_blocks}
use Rattle.block_meaning.specs.Statements.{StmtLayer, Flow, Returned, StmtParts, statements_at, declared, items}
use Rattle.block_meaning.specs.declared.value.Value.{Value}
use Rattle.block_meaning.specs.declared.value.Value.TheVariants.{NoValue}
use Rattle.block_meaning.specs.Values.{number_in, cells_of, missing_result}

-- ---- calls

abbrev pub frame_in : Option (List ℕ) → ℕ → Option ℕ
frame_in None number = None
frame_in (Some frames) number = slice_get frames number

abbrev pub frame_bytes : Program → Function → Option ℕ
frame_bytes program f = frame_in (slice_get program.frames f.unit) f.number

-- the frame bytes of the calls that are open
abbrev pub open_bytes : List Call → ℕ
open_bytes [] = 0
open_bytes (c ∷ cs) = c.place

-- inside a new call
abbrev pub inside : Context → Call → Context
inside here c = record { program = here.program; unit = c.function.unit; open_calls = c ∷ here.open_calls; local = λ k. None }

-- a call is made
abbrev pub new_call : Context → Function → ℕ → Run Context
new_call here f place now =
    let c : Call = record { number = length now.calls; function = f; place = place } in
    Goes (inside here c) (record now { calls = now.calls ++ c ∷ [] })

-- a block for a parameter, which holds its argument
abbrev pub new_parameter : Context → ℕ → LocalInfo → Value → Run Context
new_parameter here k l v = with_some (latest here.open_calls) (λ c. new_block here k (block_of (Local c.number k) (cells_of l.ty v)))

-- the parameters, from a number on, with their arguments
abbrev pub with_arguments : Context → ℕ → List LocalInfo → List Value → Run Context
with_arguments here k [] [] = gives here
with_arguments here k (l ∷ ls) (v ∷ vs) = and_then (new_parameter here k l v) (λ inner. with_arguments inner (k + 1) ls vs)
with_arguments here k ls vs = stuck

abbrev pub is_of_call : ℕ → Kind → Bool
is_of_call call (Local c k) = nat_eq c call
is_of_call call _ = false

-- the lives of all locals of a call end with it
abbrev pub end_call : ℕ → List Block → List Block
end_call call = map (λ b. (if is_of_call call b.kind then ended b else b))

-- the value of a call; a function that ends without `return` gives 0 or the null pointer
abbrev pub result_of : Ty → Flow → Value
result_of t (Returned NoValue) = missing_result t
result_of t (Returned v) = v
result_of t flow = missing_result t

-- a body, whose outermost scope is that of the parameters
abbrev pub body_node : StmtParts → Context → StmtLayer → Run Flow
body_node parts here (TStmt-F.Block is) = and_then (new_locals here (declared is)) (λ inner. items parts inner is)
body_node parts here _ = stuck

abbrev pub body_of : StmtParts → TFunction → List Value → Context → Run Value
body_of parts f vs here =
    and_then (with_arguments here 0 (take f.params f.locals) vs) (λ ready.
    and_then (body_node parts ready (out-TStmt f.body)) (λ flow.
    and_then (with_some (latest here.open_calls) (λ c. with_blocks (end_call c.number))) (λ _.
    gives (result_of f.result flow))))

-- a call is deep where the frames of the open calls, its own among them, pass the stack
abbrev pub unless_deep : {A : Type 0} → Program → ℕ → Run A → Run A
unless_deep program place m = choice (leb place program.stack) m (stops Deep)

abbrev pub call_of : StmtParts → Context → Function → List Value → TFunction → ℕ → Run Value
call_of parts here f vs g bytes =
    let place = open_bytes here.open_calls + bytes in
    unless_deep here.program place (and_then (new_call here f place) (body_of parts g vs))

-- how functions are called: calls within one another, turns of a loop and levels of a tree are so many at most
abbrev pub calls_at : ℕ → Calls
calls_at zero here f vs = stuck
calls_at (suc bound) here f vs =
    with_some (function_named here.program.units f) (λ g. with_some (frame_bytes here.program f) (λ bytes.
    call_of (statements_at (calls_at bound) bound) here f vs g bytes))

-- ---- a whole program

abbrev pub outside_of_calls : Program → Context
outside_of_calls program = record { program = program; unit = 0; open_calls = []; local = λ k. None }

-- the unit of the call of `main`, and then the call
abbrev pub call_main : ℕ → Program → Definition → Run Value
call_main bound program (AnObject unit number) = stuck
call_main bound program (AFunction f) = unit_then (calls_at bound (outside_of_calls program) f [])

abbrev pub before : Program → List ℕ → ℕ → State
before program input work = record { blocks = opening program.units; work = work; input = input; output = []; calls = [] }

-- the run of a program
abbrev pub run_program : ℕ → Program → List ℕ → ℕ → Result Value
run_program bound program input work =
    with_some (defined program.units (codes "main")) (call_main bound program) (before program input work)

-- how a program ends
pub data End : Type 0 where
  -- with a status from 0 to 255
  Done : ℕ → End
  Stopped : Stop → End

abbrev pub end_of : Result Value → End
end_of (Goes v now) = Done (number_in v % 256)
end_of (Stops why now) = Stopped why

abbrev pub state_of : Result Value → State
state_of (Goes v now) = now
state_of (Stops why now) = now

-- what a run gives: its end, what it put, and what it left of the input
pub record Outcome : Type 0 where
  pub end : End
  pub output : List ℕ
  pub rest : List ℕ

abbrev pub outcome_of : Result Value → Outcome
outcome_of r = record { end = end_of r; output = (state_of r).output; rest = (state_of r).input }

-- What a program means with this input and at most this work: some bound is large enough, as for a program in order (law `has_meaning`),
-- and a larger one gives the same (law `one_meaning`). Its names are linked: each that is used is defined in its file or, once, for all
-- files, as is a function `main`.
pub record Meaning (program : Program) (input : List ℕ) (work : ℕ) (outcome : Outcome) : Type 0 where
  pub bound : ℕ
  pub is : outcome ≡ outcome_of (run_program bound program input work)
  pub suffices : outcome.end ≢ Stopped Stuck
