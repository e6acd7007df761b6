-- What the code of a part of an expression does: from each pair of states that are related, what its run does, within the bounds, and with
-- what it gives in a register (this project's own).
use Rattle.std.specs.Prelude.{◌≡◌, ◌≢◌, ℕ, ◌+◌, ◌*◌, ◌≤◌, Bool, true, false, slice_get, Some}
use Rattle.c_ast.specs.declared.token.Span.{Span}
use Rattle.c_type_base.specs.declared.expr.TExpr.{TExpr}
use Rattle.c_type_base.specs.declared.ty.Ty.{Ty}
use Rattle.c_type_base.specs.declared.typed.LocalInfo.{LocalInfo}
use Rattle.a64_code.specs.declared.instr.Reg.{Reg}
use Rattle.a64_code.specs.State.{State}
use Rattle.frame_layout.specs.Needs.{need}
use Rattle.block_meaning.specs.declared.value.Pointer.{Pointer}
use Rattle.block_meaning.specs.declared.value.Value.{Value}
use Rattle.block_meaning.specs.Expressions.{NodeLayer, Site, starts, parts_at, place_node, value_node}
use Rattle.block_meaning.specs.Running.{Run, gives, stuck, and_then, unit_gives, State as MeaningState}
use Rattle.code_runs.specs.Bounded.{Account, sparing, Bounded}
use Rattle.code_runs.specs.Laws.Bounded.{opened}
use Rattle.code_relation.specs.Follows.{setting}
use Rattle.code_relation.specs.Outcomes.{outcome_of}
use Rattle.code_relation.specs.Relates.{Relates}
use Rattle.code_relation.specs.Trees.{Comes}
use Rattle.gen_base.specs.Accesses.{reached}
use Rattle.gen_expr.specs.Coded.{Emits, Coded}
use Rattle.gen_expr.specs.Expressions.{coded}
use Rattle.code_follows.specs.Covered.{leaves, layer_leaves}
use Rattle.code_follows.specs.Leaves.{bare_leaves, place_leaves}
use Rattle.code_follows.specs.Layers.{layer_code, layer_need}
use Rattle.code_follows.specs.Scene.{Scene, given_in, calls_in, structs_in, frame_in, Lies, IsFree}
use Rattle.code_follows.specs.Values.{ValueIs, PlaceIs}

-- Code has come from one state to another at an address: states are related there, the temps before the first are kept, and, where
-- it is alone, all registers but its own.
pub record Came (k : Scene) (first : ℕ) (reg : Reg) (alone : Bool) (s : State) (to : ℕ) (now : MeaningState) (t : State) : Type 0 where
  pub comes : Comes (given_in k) first to k.here s now t
  pub registers : alone ≡ true → (r : ℕ) → r ≢ reg.0 → t.register r ≡ s.register r

-- What a part is to come to: by its value, the state of the meaning, and the number in the register.
abbrev pub Result : Type 0 → Type 1
Result A = A → MeaningState → ℕ → Type 0

-- where it comes, and with what
pub record Gave {A : Type 0} (k : Scene) (first : ℕ) (reg : Reg) (alone : Bool) (result : Result A) (s : State) (to : ℕ) (a : A)
    (now : MeaningState) (t : State) : Type 0 where
  pub came : Came k first reg alone s to now t
  pub result_is : result a now (t.register reg.0)

-- It has come there within the bounds, but for so many steps that are owed, as one for a unit of work that was spent, and with so many
-- steps of its bound to spare.
pub record On (k : Scene) (first : ℕ) (reg : Reg) (alone : Bool) (s : State) (to : ℕ) (a : Account) (owes spare : ℕ) (now : MeaningState)
    (t : State) : Type 0 where
  pub came : Came k first reg alone s to now t
  pub least : a.least ≤ now.work + owes + a.so_far
  pub most : a.so_far + spare + k.code.per * now.work ≤ a.most
  pub within : now.work ≤ k.code.reach

-- The code from here on does what is left of a run; it is counted from an account, and leaves so many steps of its bound.
pub record Goes {A : Type 0} (k : Scene) (first : ℕ) (reg : Reg) (alone : Bool) (result : Result A) (s : State) (to leaves : ℕ)
    (a : Account) (run : Run A) (now : MeaningState) (t : State) : Type 0 where
  pub bounded : Bounded (setting k.code) a (λ v. sparing leaves) t (Gave k first reg alone result s to) (outcome_of (run now))

-- From each pair of states that are related, at the address where it begins, it does what the run does.
pub record Yields {A : Type 0} (k : Scene) (first : ℕ) (reg : Reg) (alone : Bool) (result : Result A) (from to leaves : ℕ) (run : Run A) :
    Type 0 where
  pub goes : (now : MeaningState) (s : State) → now.work ≤ k.code.reach → Relates (given_in k) k.here now s → s.pc ≡ from →
      Goes k first reg alone result s to leaves (opened (setting k.code) now.work) run now s

-- Wherever it stands, into any register that is free, with as many temps as it needs.
pub record Part {A : Type 0} (k : Scene) (emits : Emits) (needs leaves : ℕ) (alone : Bool) (result : Result A) (run : Run A) : Type 0 where
  pub yields : (first : ℕ) (reg : Reg) (from to : ℕ) → IsFree k needs first reg → Lies k (emits first reg) from to →
      Yields k first reg alone result from to leaves run

-- ---- expressions

-- the value of an expression of a type
pub record ValuePart (k : Scene) (code : Coded) (needs leaves : ℕ) (t : Ty) (run : Run Value) : Type 0 where
  pub part : Part k code.value needs leaves code.alone (ValueIs (given_in k) t) run

-- a unit of work that is owed, or none
abbrev pub owed : {A : Type 0} → Bool → A → Run A
owed true a = unit_gives a
owed false a = gives a

abbrev pub pointer_leaves : Bool → ℕ
pointer_leaves true = bare_leaves
pointer_leaves false = place_leaves

-- The code comes to the place, but may leave a unit of work to the next instruction.
pub record PointerPart (k : Scene) (code : Coded) (needs : ℕ) (run : Run Pointer) : Type 0 where
  pub owes : Bool
  pub first : Run Pointer
  pub run_is : (now : MeaningState) → run now ≡ and_then first (owed owes) now
  pub part : Part k code.pointer needs (pointer_leaves owes) code.alone (PlaceIs (given_in k)) first

-- The run comes to the place of a local of the type in a safe slot, which starts there and is reached from SP; or the definition's bound
-- was too small for it.
pub data SlotRun (k : Scene) (t : Ty) (start : ℕ) (run : Run Pointer) (now : MeaningState) : Type 0 where
  names : (local : ℕ) (l : LocalInfo) → slice_get k.scope.function.locals local ≡ Some l → l.ty ≡ t →
      reached t (slice_get (frame_in k).slots local) ≡ Some start → run now ≡ starts (k.here.local local) now → SlotRun k t start run now
  too_deep : run now ≡ stuck now → SlotRun k t start run now

-- the place of what an expression of a type designates
pub record PlacePart (k : Scene) (code : Coded) (needs : ℕ) (t : Ty) (run : Run Pointer) : Type 0 where
  pub place : Part k code.place needs place_leaves code.alone (PlaceIs (given_in k)) run
  pub pointer : PointerPart k code needs run
  pub slot : (start : ℕ) → code.slot ≡ Some start → (now : MeaningState) → SlotRun k t start run now

-- ---- with so many levels below

abbrev pub coded_in : Scene → TExpr → Coded
coded_in k e = coded (structs_in k) (frame_in k) e

-- an expression, whatever parentheses stand round it
pub record ValueFollows (k : Scene) (depth : ℕ) (e : TExpr) : Type 0 where
  pub least : bare_leaves ≤ leaves e
  pub around : (span : Span) → ValuePart k (coded_in k e) (need e) (leaves e) e.ty ((parts_at (calls_in k) k.here depth).value_in span e)

pub record PlaceFollows (k : Scene) (depth : ℕ) (e : TExpr) : Type 0 where
  pub part : PlacePart k (coded_in k e) (need e) e.ty ((parts_at (calls_in k) k.here depth).place e)

-- where a node stands, with so many levels below it
abbrev pub site_in : Scene → ℕ → Span → Span → Ty → Site
site_in k depth span around t = record {
  calls = calls_in k;
  here = k.here;
  parts = parts_at (calls_in k) k.here depth;
  span = span;
  around = around;
  ty = t;
}

-- a node of a type
pub record ValueNode (k : Scene) (depth : ℕ) (t : Ty) (l : NodeLayer) : Type 0 where
  pub at : (span around : Span) →
      ValuePart k (layer_code (structs_in k) (frame_in k) l t) (layer_need l) (layer_leaves l) t (value_node
      (site_in k depth span around t) l)

pub record PlaceNode (k : Scene) (depth : ℕ) (t : Ty) (l : NodeLayer) : Type 0 where
  pub at : (span : Span) →
      PlacePart k (layer_code (structs_in k) (frame_in k) l t) (layer_need l) t (place_node (site_in k depth span span t) l)
