-- What the code of a run shows of the definition's run.
use Rattle.std.specs.Prelude.{◌≡◌, ℕ, ◌+◌, List, [], ◌∷◌, length, slice_get, Option, Some, None, Result, Ok, Err}
use Rattle.block_meaning.specs.Locals.{local_info}
use Rattle.block_meaning.specs.Memory.{structs_at}
use Rattle.block_meaning.specs.Running.{Call, Context, State, Stop, Divide, Deep, More, IsUndefined, Stuck}
use Rattle.block_meaning.specs.Running as meaning
use Rattle.mean_memory.specs.Standing.{IsMemory}
use Rattle.mean_start.specs.Files.{IsProgram}
use Rattle.mean_effects.specs.declared.now.Ending.{Ending}
use Rattle.mean_effects.specs.declared.now.Ending.TheVariants as ending
use Rattle.mean_effects.specs.declared.now.Now.{Now}
use Rattle.mean_effects.specs.declared.here.Here.{Here}

-- a state of the code for one of the definition
pub record IsNow (n : Now) (now : State) : Type 0 where
  pub memory : IsMemory n.memory now.blocks
  pub work : n.work ≡ now.work
  pub calls : n.calls ≡ length now.calls

-- the call that runs
pub record IsCall (h : Here) (here : Context) (c : Call) : Type 0 where
  pub number : h.call ≡ c.number
  pub place : h.place ≡ c.place
  pub locals : (k : ℕ) → local_info here c k ≡ slice_get h.locals.now k

-- the call that runs, if there is one yet
abbrev pub RunsIn : Here → Context → List Call → Type 0
RunsIn h here [] = h.place ≡ 0
RunsIn h here (c ∷ cs) = IsCall h here c

-- where something runs
pub record IsHere (h : Here) (here : Context) : Type 0 where
  pub program : IsProgram h.files.now here.program
  pub stack : h.stack ≡ here.program.stack
  pub unit : h.unit ≡ here.unit
  pub structs : h.structs.now ≡ structs_at here
  pub runs_in : RunsIn h here here.open_calls

abbrev pub block_at : Option (Option ℕ) → Option ℕ
block_at None = None
block_at (Some block) = block

-- the blocks of the locals, from the call's first on
pub record IsWindow (locals : List (Option ℕ)) (h : Here) (here : Context) : Type 0 where
  pub each : (k : ℕ) → here.local k ≡ block_at (slice_get locals (h.base + k))

-- the outside is as it was
pub record Quiet (before after : State) : Type 0 where
  pub input : after.input ≡ before.input
  pub output : after.output ≡ before.output

-- why it stops; want of memory says nothing, and of what is stuck nothing is said
abbrev pub EndsAs : Ending → Stop → State → State → Type 0
EndsAs ending.NoMemory why before after = Unit {0}
EndsAs e Stuck before after = Unit {0}
EndsAs ending.Divide Divide before after = Quiet before after
EndsAs ending.Deep Deep before after = Quiet before after
EndsAs ending.More More before after = Quiet before after
EndsAs (ending.Undefined why file span) (IsUndefined u) before after =
    (why ≡ u.why) × (file ≡ u.file) × (span ≡ u.span) × Quiet before after
EndsAs _ _ before after = ⊥

abbrev pub IsStuck : Stop → Type 0
IsStuck Stuck = Unit {0}
IsStuck _ = ⊥

abbrev pub IsNoMemory : Ending → Type 0
IsNoMemory ending.NoMemory = Unit {0}
IsNoMemory _ = ⊥

-- the code has what the run gives
pub record Arrived {A : Type 0} (n : Now) (before after : State) (a b : A) : Type 0 where
  pub same : a ≡ b
  pub shown : IsNow n after
  pub quiet : Quiet before after

abbrev pub GivesBy : {A : Type 0} → Now → State → Result A Ending → meaning.Result A → Type 0
GivesBy n before (Ok a) (meaning.Goes b after) = Arrived n before after a b
GivesBy n before (Ok a) (meaning.Stops why after) = IsStuck why
GivesBy n before (Err e) (meaning.Goes b after) = IsNoMemory e
GivesBy n before (Err e) (meaning.Stops why after) = EndsAs e why before after

-- from a state, the code's answer and the run's result
pub record Gives {A : Type 0} (n : Now) (before : State) (r : Result A Ending) (m : meaning.Result A) : Type 0 where
  pub told : GivesBy n before r m
