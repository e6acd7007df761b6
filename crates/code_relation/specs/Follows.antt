-- Code follows a tree: from each pair of states that are related it does what the tree means, within bounds on its steps from below and
-- from above, and keeps what is kept (this project's own). Of u units at least u steps are taken, and at most `per * u`; `Bounded` of
-- code_runs tells it without subtraction, with the work that is left.
use Rattle.std.specs.Prelude.{◌≡◌, ℕ, suc, ◌<◌, ◌≤◌, List, [], ◌∷◌, length, Option, Some, None}
use Rattle.c_type_base.specs.declared.ty.Ty.{Ty}
use Rattle.c_type_base.specs.declared.typed.TFunction.{TFunction}
use Rattle.a64_code.specs.State.{State}
use Rattle.block_meaning.specs.declared.value.Value.{Value}
use Rattle.block_meaning.specs.Laws.Progress.Fits.{Fits}
use Rattle.block_meaning.specs.Linkage.{function_named, parameter_types}
use Rattle.block_meaning.specs.Locals.{latest}
use Rattle.block_meaning.specs.Meaning.{calls_at}
use Rattle.block_meaning.specs.Running.{Function, Call, Context, Run, Stop, unit_then, State as MeaningState}
use Rattle.code_runs.specs.Bounded.{Setting, Room, Bounded, later}
use Rattle.code_runs.specs.Laws.Bounded.{opened}
use Rattle.code_relation.specs.Ends.{Over}
use Rattle.code_relation.specs.Kept.{KeepsAll}
use Rattle.code_relation.specs.Numbers.{Holds}
use Rattle.code_relation.specs.Outcomes.{outcome_of}
use Rattle.code_relation.specs.Relates.{Relates}
use Rattle.code_relation.specs.Sites.{Given, units_of}

-- ---- code and trees

-- code, as far as it follows trees
pub record Code : Type 1 where
  pub given : Given
  -- the steps that a unit of work pays
  pub per : ℕ
  -- it follows them from states with so much work at most
  pub reach : ℕ
  -- the states in which the machine has not left the code: it is about to make a step there, or in a function that was called there
  pub Inside : State → Type 0

abbrev pub setting : Code → Setting MeaningState Stop
setting c = record { work = λ now. now.work; output = λ now. now.output; Over = Over c.given; Inside = c.Inside; per = c.per }

-- What a part of a program means, and how code stands where it begins and completes.
pub record Tree (A : Type 0) : Type 1 where
  pub run : Context → Run A
  pub Begins : Context → MeaningState → State → Type 0
  -- the steps that were made before, and count
  pub before : ℕ
  -- what it leaves of the bound from above, by its value, where so many steps are not counted
  pub room : ℕ → A → Room
  -- where it completes: the context, the machine's state at the start, the steps that are not counted, the value, and the two states then
  pub Completes : Context → State → ℕ → A → MeaningState → State → Type 0

-- the code does what the tree means, with so many steps not counted
pub record Does {A : Type 0} (c : Code) (t : Tree A) (here : Context) (now : MeaningState) (s : State) : Type 0 where
  pub extra : ℕ
  pub bounded : Bounded (setting c) (later t.before (opened (setting c) now.work)) (t.room extra) s (t.Completes here s extra)
      (outcome_of (t.run here now))

pub record Follows {A : Type 0} (c : Code) (t : Tree A) : Type 0 where
  pub does : (here : Context) (now : MeaningState) (s : State) → now.work ≤ c.reach → Relates c.given here now s → t.Begins here now s →
      Does c t here now s

-- the innermost call is one of a function
abbrev pub IsIn : Function → Context → Type 0
IsIn f here = (c : Call) × (latest here.open_calls ≡ Some c) × (c.function ≡ f) × (here.unit ≡ f.unit)

-- ---- calls

-- the arguments of parameters of these types, from a number on, are in the registers of these numbers
abbrev pub HasArguments : Given → MeaningState → State → ℕ → List Ty → List Value → Type 0
HasArguments g now s k [] [] = Unit {0}
HasArguments g now s k (t ∷ ts) (v ∷ vs) =
    Fits t (length now.blocks) v × Holds g now v (s.register k) × HasArguments g now s (suc k) ts vs
HasArguments g now s k ts vs = ⊥

-- a call: what it means, with the unit of the call, the types of the parameters, and the arguments
pub record Called : Type 0 where
  pub run : Context → Run Value
  pub parameters : List Ty
  pub arguments : List Value

-- a call leaves 8 steps of its bound, and takes one more for each parameter
abbrev pub call_room : List Value → Room
call_room vs = record { spare = 8; over = length vs }

-- a call has come back: its value is in X0, and all temps are as before, since every call that is open was so before it
pub record Returns (g : Given) (to : ℕ) (here : Context) (s : State) (v : Value) (now : MeaningState) (t : State) : Type 0 where
  pub relates : Relates g here now t
  pub pc : t.pc ≡ to
  pub value : Holds g now v (t.register 0)
  pub kept : KeepsAll (units_of g) s t here.open_calls

-- where a part of a function's code begins, and where what comes after it does
pub record Span : Type 0 where
  pub function : Function
  pub from : ℕ
  pub to : ℕ

-- A call item, which stands there.
abbrev pub call_item : Given → Called → Span → Tree Value
call_item g call span = record {
  run = call.run;
  Begins = λ here now s. IsIn span.function here × (s.pc ≡ span.from) × HasArguments g now s 0 call.parameters call.arguments;
  before = 0;
  room = λ extra v. call_room call.arguments;
  Completes = λ here s extra v now t. Returns g span.to here s v now t;
}

-- The words of a function, which stand at an address. They come back to the address in X30. A unit of work is left where they begin, since
-- the step that entered them counts.
abbrev pub function_words : Given → Called → ℕ → Tree Value
function_words g call from = record {
  run = call.run;
  Begins = λ here now s. (0 < now.work) × (s.pc ≡ from) × HasArguments g now s 0 call.parameters call.arguments;
  before = 1;
  room = λ extra v. call_room call.arguments;
  Completes = λ here s extra v now t. Returns g (s.register 30) here s v now t;
}

abbrev pub types_of : Option TFunction → List Ty
types_of None = []
types_of (Some f) = parameter_types f

-- the call of a function, made from anywhere
abbrev pub call_of : Given → ℕ → Function → List Value → Called
call_of g bound f vs = record {
  run = λ here. unit_then (calls_at bound here f vs);
  parameters = types_of (function_named (units_of g) f);
  arguments = vs;
}

-- The words of a function that stand at an address follow it, from any call that may make it.
pub record WordsFollow (c : Code) (f : Function) (at : ℕ) : Type 0 where
  pub follows : (bound : ℕ) (vs : List Value) → Follows c (function_words c.given (call_of c.given bound f vs) at)
