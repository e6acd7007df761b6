-- Expressions and statements as trees that code follows (this project's own).
use Rattle.std.specs.Prelude.{◌≡◌, ℕ, suc, ◌+◌, ◌≤◌, Bool, List, [], ◌∷◌, length, slice_get, Some}
use Rattle.std.specs.List.{filter, Contains}
use Rattle.c_ast.specs.declared.token.Span.{Span as TextSpan}
use Rattle.c_type_base.specs.declared.expr.TExpr.{TExpr}
use Rattle.c_type_base.specs.declared.expr.TNode.{out-TNode}
use Rattle.c_type_base.specs.declared.statement.TItem.{TItem}
use Rattle.c_type_base.specs.declared.statement.TStmt.{TStmt, out-TStmt}
use Rattle.c_type_base.specs.declared.typed.Typed.{Typed}
use Rattle.a64_code.specs.declared.instr.Reg.{Reg}
use Rattle.a64_code.specs.State.{State, with_tags}
use Rattle.frame_layout.specs.declared.frame.Slot.{Slot}
use Rattle.frame_layout.specs.Steps.{per}
use Rattle.frame_layout.specs.WellFormed.{tagged_slots}
use Rattle.mte_machine.specs.Run.{Steps}
use Rattle.sym_code.specs.declared.item.SymItem.{SymItem}
use Rattle.sym_code.specs.declared.item.SymItem.TheVariants as item
use Rattle.tag_plan.specs.Effects.{NoneHas}
use Rattle.block_meaning.specs.declared.value.Pointer.{Pointer}
use Rattle.block_meaning.specs.declared.value.Value.{Value}
use Rattle.block_meaning.specs.Expressions.{parts_at}
use Rattle.block_meaning.specs.ExpressionsInOrder.{Scope, ValueInOrder, Designates}
use Rattle.block_meaning.specs.Linkage.{function_named}
use Rattle.block_meaning.specs.ProgramsInOrder.{InOrder}
use Rattle.block_meaning.specs.StatementsInOrder.{StatementInOrder, Items}
use Rattle.block_meaning.specs.Meaning.{calls_at, frame_bytes}
use Rattle.block_meaning.specs.Running.{Function, Program, Context, Run, State as MeaningState}
use Rattle.block_meaning.specs.Statements.{Flow, Next, Broke, Continued, Returned, statements_at, items}
use Rattle.code_runs.specs.Bounded.{Room, just, sparing, exceeding}
use Rattle.code_relation.specs.Calls.{frame_of}
use Rattle.code_relation.specs.Follows.{Code, Tree, Follows, IsIn, Span}
use Rattle.code_relation.specs.Fresh.{Fresh, FreshItems}
use Rattle.code_relation.specs.Items.{Place, StandsAt}
use Rattle.code_relation.specs.Kept.{KeepsFrom}
use Rattle.code_relation.specs.Numbers.{Holds, IsNumber}
use Rattle.code_relation.specs.Relates.{Relates}
use Rattle.code_relation.specs.Sites.{Given, units_of}

-- a list of items of a function, the file of the function, and the first temp that the tree may use
pub record Part : Type 0 where
  pub file : Typed
  pub function : Function
  pub items : List SymItem
  pub first : ℕ

-- where it begins, and where what comes after it does
abbrev pub span_of : Part → Place → Span
span_of part p = record { function = part.function; from = p.at 0; to = p.at (length part.items) }

-- in the function, at the first item
abbrev pub StartsAt : Span → Context → MeaningState → State → Type 0
StartsAt span here now s = IsIn span.function here × (s.pc ≡ span.from)

-- code has come to an address, with states that are related, and has kept what it has to
pub record Comes (g : Given) (first to : ℕ) (here : Context) (s : State) (now : MeaningState) (t : State) : Type 0 where
  pub relates : Relates g here now t
  pub pc : t.pc ≡ to
  pub kept : KeepsFrom (units_of g) first s t here.open_calls

-- ---- expressions

-- An expression, whose value comes into a register. It leaves 4 steps of its bound, which pay for the branches of an `if`, and for
-- storing and loading an argument.
abbrev pub expression_tree : Given → (Context → Run Value) → ℕ → Span → Reg → Tree Value
expression_tree g run first span reg = record {
  run = run;
  Begins = StartsAt span;
  before = 0;
  room = λ extra v. sparing 4;
  Completes = λ here s extra v now t. Comes g first span.to here s now t × Holds g now v (t.register reg.0);
}

-- the same of the place of what an expression designates
abbrev pub place_tree : Given → (Context → Run Pointer) → ℕ → Span → Reg → Tree Pointer
place_tree g run first span reg = record {
  run = run;
  Begins = StartsAt span;
  before = 0;
  room = λ extra v. sparing 4;
  Completes = λ here s extra p now t. Comes g first span.to here s now t × IsNumber g now p (t.register reg.0);
}

-- ---- statements

-- where a statement leaves its loop
pub record Exits : Type 0 where
  pub broke : ℕ
  pub continued : ℕ

-- How many steps are not counted where code has left a loop: those of the item that leaves scopes right before the jump by which it has
-- left; or none.
pub data LeaveSteps (items : List SymItem) (p : Place) (s t : State) : ℕ → Type 0 where
  no_scope : LeaveSteps items p s t 0
  scope : (k first last n before jump : ℕ) (r : State) → slice_get items k ≡ Some (item.LeaveScope first last) →
      slice_get items (suc k) ≡ Some (item.Jump n) → p.label n ≡ t.pc → Steps before s r → r.pc ≡ p.at k →
      Steps (p.scope_steps k r + jump) r t → jump ≤ 2 → LeaveSteps items p s t (p.scope_steps k r)

-- A statement that leaves by `break`, `continue` or `return` may take 8 steps more, and those of the item with which it leaves scopes. No
-- such item stands before a `return`.
abbrev pub statement_room : ℕ → Flow → Room
statement_room extra Next = just
statement_room extra (Returned v) = exceeding 8
statement_room extra flow = exceeding (8 + extra)

-- the tagged slots of inner scopes
abbrev pub is_inner_slot : Slot → Bool
is_inner_slot s = s.inner

abbrev pub inner_tagged : List Slot → List Slot
inner_tagged ss = filter is_inner_slot (tagged_slots ss)

-- The code has come to an item where the function ends, with the value in X0. The scopes that are left may still have their tags, which
-- the end of the function takes away.
pub record ComesToLeave (g : Given) (part : Part) (p : Place) (here : Context) (s : State) (v : Value) (now : MeaningState) (t : State) :
    Type 0 where
  pub position : ℕ
  pub leave : slice_get part.items position ≡ Some item.Leave
  pub value : Holds g now v (t.register 0)
  pub tags : ℕ → ℕ
  pub comes : Comes g part.first (p.at position) here s now (with_tags tags t)
  pub same : (granule : ℕ) → NoneHas t.sp (inner_tagged (frame_of (units_of g) part.function).slots) granule →
      tags granule ≡ t.tag granule

abbrev pub ComesBy : Given → Part → Place → Exits → Context → State → ℕ → Flow → MeaningState → State → Type 0
ComesBy g part p exits here s extra Next now t = Comes g part.first (span_of part p).to here s now t
ComesBy g part p exits here s extra Broke now t =
    Comes g part.first exits.broke here s now t × LeaveSteps part.items p s t extra
ComesBy g part p exits here s extra Continued now t =
    Comes g part.first exits.continued here s now t × LeaveSteps part.items p s t extra
ComesBy g part p exits here s extra (Returned v) now t = ComesToLeave g part p here s v now t

-- no other local than these has a block
abbrev pub HasOnly : List ℕ → Context → Type 0
HasOnly locals here = (k number : ℕ) → here.local k ≡ Some number → Contains locals k

-- in a scope with these locals
abbrev pub statement_tree : Given → (Context → Run Flow) → Part → Place → List ℕ → Exits → Tree Flow
statement_tree g run part p locals exits = record {
  run = run;
  Begins = λ here now s. StartsAt (span_of part p) here now s × HasOnly locals here;
  before = 0;
  room = statement_room;
  Completes = ComesBy g part p exits;
}

-- ---- items follow a tree

-- A program is in order, and the meaning has the frames that the code has.
pub record IsMeant (p : Program) : Type 0 where
  pub in_order : InOrder p
  pub frames : (f : Function) (bytes : ℕ) → frame_bytes p f ≡ Some bytes → bytes ≡ (frame_of p.units f).bytes

-- the program is as it is meant, the function's file is there, and a unit of work pays for its frames and copies
pub record HasFile (c : Code) (f : Function) : Type 0 where
  pub meant : IsMeant c.given.program
  pub file : Typed
  pub is : slice_get (units_of c.given) f.unit ≡ Some file
  pub pays : per (file ∷ []) ≤ c.per

-- what a tree that stands in the function may name
pub record IsScope (c : Code) (f : Function) (scope : Scope) : Type 0 where
  pub program_is : scope.program ≡ c.given.program
  pub unit_is : scope.unit ≡ f.unit
  pub function_is : function_named (units_of c.given) f ≡ Some scope.function

-- code that follows trees of a function, where its items stand
pub record IsPlaced (part : Part) (c : Code) (p : Place) : Type 0 where
  pub file : HasFile c part.function
  pub of_part : file.file ≡ part.file
  pub stands : StandsAt c part.function p part.items

-- Wherever the items stand they follow the expression, into a register.
pub record FollowsExpression (part : Part) (e : TExpr) (reg : Reg) : Type 1 where
  pub follows : (c : Code) (p : Place) (scope : Scope) → IsPlaced part c p → IsScope c part.function scope → ValueInOrder scope e →
      (bound depth : ℕ) (around : TextSpan) →
      Follows c (expression_tree c.given (λ here. (parts_at (calls_at bound) here depth).value_in around e) part.first
      (span_of part p) reg)

pub record FollowsPlace (part : Part) (e : TExpr) (reg : Reg) : Type 1 where
  pub follows : (c : Code) (p : Place) (scope : Scope) → IsPlaced part c p → IsScope c part.function scope →
      Designates scope e.ty (out-TNode e.node) →
      (bound depth : ℕ) →
      Follows c (place_tree c.given (λ here. (parts_at (calls_at bound) here depth).place e) part.first (span_of part p) reg)

-- They follow the statement, which leaves its loop by two labels.
pub record FollowsStatement (part : Part) (broke continued : ℕ) (st : TStmt) : Type 1 where
  pub follows : (c : Code) (p : Place) (scope : Scope) → IsPlaced part c p → IsScope c part.function scope →
      StatementInOrder scope (out-TStmt st) → Fresh scope.locals (out-TStmt st) → (bound depth : ℕ) →
      Follows c (statement_tree c.given (λ here. (statements_at (calls_at bound) depth).run here st) part p scope.locals
      (record { broke = p.label broke; continued = p.label continued }))

-- the same of what stands in a block, whose locals are in scope: so of the body of a function too
pub record FollowsItems (part : Part) (broke continued : ℕ) (is : List TItem) : Type 1 where
  pub follows : (c : Code) (p : Place) (scope : Scope) → IsPlaced part c p → IsScope c part.function scope → Items scope is →
      FreshItems scope.locals is → (bound depth : ℕ) →
      Follows c (statement_tree c.given (λ here. items (statements_at (calls_at bound) depth) here is) part p scope.locals
      (record { broke = p.label broke; continued = p.label continued }))
