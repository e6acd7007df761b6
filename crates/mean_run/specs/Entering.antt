-- What the code has where the blocks of locals come and go, and inside of a scope that was entered.
use Rattle.std.specs.Prelude.{◌≡◌, ◌⊎◌, ℕ, Bool, true, false, List, [], ◌∷◌, ◌++◌, take, Option, Some, Result, Ok, Err}
use Rattle.block_meaning.specs.Locals.{latest, new_locals, end_locals}
use Rattle.block_meaning.specs.Running.{Call, Context, State, Goes}
use Rattle.block_meaning.specs.Running as meaning
use Rattle.mean_machine.specs.Frames as machine
use Rattle.mean_machine.specs.Going.{Stand}
use Rattle.c_type_base.specs.declared.statement.TStmt.{TStmt}
use Rattle.block_meaning.specs.Statements.{Heading}
use Rattle.mean_expressions.specs.declared.frames.Declarations.{Declarations}
use Rattle.mean_expressions.specs.declared.frames.Frame.{Frame}
use Rattle.mean_effects.specs.declared.here.Here.{Here}
use Rattle.mean_effects.specs.declared.now.Ending.{Ending}
use Rattle.mean_effects.specs.declared.now.Now.{Now}
use Rattle.mean_run.specs.declared.process.Process.{Process}
use Rattle.mean_effects.specs.Shown.{IsNow, IsWindow, IsNoMemory, Quiet}
use Rattle.mean_expressions.specs.Stacked.{World, IsAt, Stacked, Sticks, StopsBy, cleared, outside_scope}
use Rattle.mean_run.specs.Processes.{IsProcess, world_of}

-- ---- locals

-- where locals come or go: in which context, with which blocks of locals, and from which state on
pub record Origin : Type 0 where
  pub here : Context
  pub locals : List (Option ℕ)
  pub start : State

-- the code is where a run has led, inside of a call
pub record Reached (m : meaning.Result Context) (start : State) (n : Now) (w : World) : Type 0 where
  pub inner : Context
  pub after : State
  pub call : Call
  pub is : m ≡ Goes inner after
  pub at : IsAt w inner
  pub runs : latest inner.open_calls ≡ Some call
  pub shown : IsNow n after
  pub quiet : Quiet start after

-- some locals have blocks, and without these the window is as it was
pub record Made (h : Here) (o : Origin) (ks : List ℕ) (n : Now) (locals : List (Option ℕ)) : Type 0 where
  pub reached : Reached (new_locals o.here ks o.start) o.start n (record { code = h; locals = locals })
  pub back : cleared h.base ks locals ≡ o.locals

-- some parameters have blocks by a run, and the calls outside have theirs as before
pub record Passed (h : Here) (o : Origin) (m : meaning.Result Context) (n : Now) (locals : List (Option ℕ)) : Type 0 where
  pub reached : Reached m o.start n (record { code = h; locals = locals })
  pub kept : take h.base locals ≡ take h.base o.locals

-- the blocks of some locals have ended
pub record Closed (h : Here) (o : Origin) (ks : List ℕ) (n : Now) (locals : List (Option ℕ)) : Type 0 where
  pub after : State
  pub window : IsWindow o.locals h o.here
  pub is : end_locals o.here ks o.start ≡ Goes tt after
  pub cleared : locals ≡ cleared h.base ks o.locals
  pub shown : IsNow n after
  pub quiet : Quiet o.start after

-- ---- scopes

-- a frame is pushed, or the host has no memory left
abbrev pub Pushed : Result (Unit {0}) Ending → Frame → List Frame → List Frame → Type 0
Pushed (Ok u) f before after = after ≡ before ++ f ∷ []
Pushed (Err e) f before after = IsNoMemory e

-- whether there is any
abbrev pub has_any : List ℕ → Bool
has_any [] = false
has_any (k ∷ ks) = true

-- the machine goes on inside, and the code is there
pub record Entered (p : Process) (before : State) (inside : Context → List machine.Frame → Stand) (m : machine.Machine) : Type 0 where
  pub inner : Context
  pub frames : List machine.Frame
  pub after : State
  pub is : m ≡ inside inner frames after
  pub process : IsProcess p inner frames after
  pub quiet : Quiet before after

abbrev pub EntersBy : Process → State → Result (Unit {0}) Ending → (Context → List machine.Frame → Stand) → machine.Machine → Type 0
EntersBy p before (Ok u) inside m = Entered p before inside m ⊎ Sticks m
EntersBy p before (Err e) inside m = StopsBy before e m

-- from a state, the code's answer where something is entered that runs inside, and where the machine goes
pub record Enters (p : Process) (before : State) (r : Result (Unit {0}) Ending) (inside : Context → List machine.Frame → Stand)
    (m : machine.Machine) : Type 0 where
  pub told : EntersBy p before r inside m

-- the declarations of a `for`, and what follows them
abbrev pub for_first : Heading → TStmt → Context → List machine.Frame → Stand
for_first h s here k = machine.Runs (machine.Declare h.declared) here (machine.OnDone (machine.ForDeclared h s) ∷ k)

-- ---- what is behind it

-- outside of a scope or of a call, in which state
pub record Behind : Type 0 where
  pub outer : Context
  pub frames : List machine.Frame
  pub now : State

-- a process inside of a scope whose frame was taken from the stack
pub record IsInScope (p : Process) (d : Declarations) (here : Context) (b : Behind) : Type 0 where
  pub at : IsAt (world_of p) here
  pub outside : IsAt (outside_scope d (world_of p)) b.outer
  pub stack : Stacked b.frames p.stack.items (outside_scope d (world_of p)) b.outer
  pub shown : IsNow p.now b.now
