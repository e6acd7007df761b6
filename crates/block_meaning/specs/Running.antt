-- A run: what it may change, how it stops before its end, and how its parts follow one another.
use Rattle.std.specs.Prelude.{ℕ, zero, suc, List, [], ◌∷◌, Option, Bool, Some, None, if◌then◌else◌}
use Rattle.c_ast.specs.declared.token.Span.{Span}
use Rattle.c_type_base.specs.declared.typed.Typed.{Typed}
use Rattle.block_meaning.specs.declared.reason.Reason.{Reason}
use Rattle.block_meaning.specs.declared.access.Access.{Access}
use Rattle.block_meaning.specs.Blocks.{Block}

-- a function, by the number of its file and its own there
pub record Function : Type 0 where
  pub unit : ℕ
  pub number : ℕ

-- a call that was made
pub record Call : Type 0 where
  -- how many calls were made before it
  pub number : ℕ
  pub function : Function
  -- the frame bytes of the calls that were open with it, its own among them
  pub place : ℕ

-- A step that has no meaning. The calls before one are the first of all calls, as many as its number says.
pub record Undefined : Type 0 where
  pub why : Reason
  -- the number of the file, and where in it
  pub file : ℕ
  pub span : Span
  -- where it is an access
  pub access : Option Access
  -- the calls that are open, the latest first
  pub open_calls : List Call
  -- all calls so far, in order
  pub calls : List Call
  -- which say what each one is, whose local, and whether it is live
  pub blocks : List Block

-- why a run stops
pub data Stop : Type 0 where
  -- a division by 0
  Divide : Stop
  -- the frames pass the stack
  Deep : Stop
  -- a unit of work is to be spent, and none is left
  More : Stop
  IsUndefined : Undefined → Stop
  -- the bound of this definition was too small, or a tree is not that of a well-typed program whose names are linked
  Stuck : Stop

-- what a run changes
pub record State : Type 0 where
  pub blocks : List Block
  -- the units of work that are left
  pub work : ℕ
  pub input : List ℕ
  pub output : List ℕ
  -- all calls so far, in order
  pub calls : List Call

pub data Result (A : Type 0) : Type 0 where
  Goes : A → State → Result A
  Stops : Stop → State → Result A

-- something that runs and gives a value
abbrev pub Run : Type 0 → Type 0
Run A = State → Result A

abbrev pub gives : {A : Type 0} → A → Run A
gives a now = Goes a now

abbrev pub stops : {A : Type 0} → Stop → Run A
stops why now = Stops why now

abbrev pub goes_on : {A B : Type 0} → Result A → (A → Run B) → Result B
goes_on (Goes a now) f = f a now
goes_on (Stops why now) f = Stops why now

-- the one, and then what follows for its value
abbrev pub and_then : {A B : Type 0} → Run A → (A → Run B) → Run B
and_then m f now = goes_on (m now) f

abbrev pub one_of : {A : Type 0} → ℕ → Run A → Run A
one_of zero m now = Stops More now
one_of (suc rest) m now = m (record now { work = rest })

-- a unit of work, and then something
abbrev pub unit_then : {A : Type 0} → Run A → Run A
unit_then m now = one_of now.work m now

-- a unit of work, and then a value
abbrev pub unit_gives : {A : Type 0} → A → Run A
unit_gives a = unit_then (gives a)

-- by what the blocks are now
abbrev pub by_blocks : {A : Type 0} → (List Block → Run A) → Run A
by_blocks f now = f now.blocks now

-- the blocks are changed
abbrev pub with_blocks : (List Block → List Block) → Run (Unit {0})
with_blocks f now = Goes tt (record now { blocks = f now.blocks })

-- the one where a condition holds, and else the other
abbrev pub choice : {A : Type 0} → Bool → Run A → Run A → Run A
choice b m n now = (if b then m now else n now)

-- for want of a part that a well-typed program has
abbrev pub stuck : {A : Type 0} → Run A
stuck = stops Stuck

-- with something that is there
abbrev pub with_some : {A B : Type 0} → Option A → (A → Run B) → Run B
with_some None f = stuck
with_some (Some a) f = f a

-- each in turn
abbrev pub all_of : {A : Type 0} → List (Run A) → Run (List A)
all_of [] = gives []
all_of (m ∷ ms) = and_then m (λ a. and_then (all_of ms) (λ as'. gives (a ∷ as')))

-- ---- where something runs

-- a program: the typed files, the bytes of their functions' frames, and those of the stack
pub record Program : Type 0 where
  pub units : List Typed
  pub frames : List (List ℕ)
  pub stack : ℕ

pub record Context : Type 0 where
  pub program : Program
  -- the file of the function that runs
  pub unit : ℕ
  -- the calls that are open, the latest first
  pub open_calls : List Call
  -- the blocks of its locals, by their numbers
  pub local : ℕ → Option ℕ

-- an undefined step
abbrev pub undefined : {A : Type 0} → Context → Span → Option Access → Reason → Run A
undefined here span access why now = Stops (IsUndefined (record {
  why = why;
  file = here.unit;
  span = span;
  access = access;
  open_calls = here.open_calls;
  calls = now.calls;
  blocks = now.blocks;
})) now
