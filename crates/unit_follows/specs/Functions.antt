-- A function of a placed file, with what has to be known of it, so that its words follow it (this project's own). None of its slots is
-- tagged.
use Rattle.std.specs.Prelude.{◌≡◌, ℕ, ◌+◌, ◌≤◌, false, List, length, map, take, Some, true}
use Rattle.a64_code.specs.State.{State}
use Rattle.c_type_base.specs.declared.statement.TItem.TheOpen.{TStmt-F}
use Rattle.c_type_base.specs.declared.statement.TStmt.{out-TStmt}
use Rattle.c_type_base.specs.declared.ty.Ty.{Ty}
use Rattle.c_type_base.specs.declared.typed.LocalInfo.{LocalInfo}
use Rattle.c_type_base.specs.declared.typed.StructInfo.{StructInfo}
use Rattle.c_type_base.specs.declared.typed.TFunction.{TFunction}
use Rattle.c_type_base.specs.declared.typed.Typed.{Typed}
use Rattle.c_type_base.specs.Types.{is_void}
use Rattle.block_meaning.specs.declared.value.Value.{Value}
use Rattle.block_meaning.specs.declared.value.Value.TheVariants.{NoValue}
use Rattle.block_meaning.specs.ExpressionsInOrder.{Scope}
use Rattle.block_meaning.specs.Linkage.{function_named, structs_of, type_of_local}
use Rattle.block_meaning.specs.Meaning.{calls_at, inside}
use Rattle.block_meaning.specs.ProgramsInOrder.{FunctionInOrder, numbered}
use Rattle.block_meaning.specs.Running.{Function, Call, Context, Goes, State as MeaningState}
use Rattle.block_meaning.specs.StatementsInOrder.{Items}
use Rattle.block_meaning.specs.Statements.{Flow, Next, Returned, statements_at, items}
use Rattle.code_relation.specs.Calls.{frame_of, has_tagged}
use Rattle.code_relation.specs.Follows.{Code, Follows, HasArguments, IsIn}
use Rattle.code_relation.specs.Fresh.{Fresh, FreshItems}
use Rattle.code_relation.specs.Items.{Place}
use Rattle.code_relation.specs.Relates.{Relates}
use Rattle.code_relation.specs.Sites.{units_of}
use Rattle.code_relation.specs.Trees.{Part, HasFile, IsPlaced, IsScope, statement_tree}
use Rattle.frame_layout.specs.declared.frame.Frame.{Frame}
use Rattle.frame_layout.specs.Frames.{largest_frame}
use Rattle.gen_stmt.specs.Statements.{body_code}
use Rattle.gen_unit.specs.Functions.{entry, store_arguments, parts_of, no_loop, function_code}
use Rattle.gen_unit.specs.Labels.{form_of}
use Rattle.sym_code.specs.declared.item.SymItem.{SymItem}
use Rattle.unit_follows.specs.Placing.{Placing}
use Rattle.unit_follows.specs.Sound.{AreSound}
use Rattle.unit_follows.specs.Laws.Arguments.{ArgumentsStored}
use Rattle.unit_follows.specs.Laws.CallItems.{AllFollow}
use Rattle.unit_follows.specs.Laws.FileWords.{FunctionWords}
use Rattle.unit_follows.specs.Laws.Items.{place}

-- a body ends so, in a function whose result has a type
abbrev pub EndsBody : Ty → Flow → Type 0
EndsBody t Next = Unit {0}
EndsBody t (Returned NoValue) = is_void t ≡ true
EndsBody t (Returned v) = Unit {0}
EndsBody t flow = ⊥

-- ---- its code

abbrev pub parameters : TFunction → List LocalInfo
parameters tf = take tf.params tf.locals

-- its arguments are stored
abbrev pub argument_items : TFunction → Frame → List SymItem
argument_items tf fr = store_arguments fr 0 (parameters tf) 0

-- the parts of its body
abbrev pub body_items : List StructInfo → TFunction → Frame → List SymItem
body_items structs tf fr = body_code structs fr (parts_of (out-TStmt tf.body)) no_loop (0 + length (argument_items tf fr))

abbrev pub all_items : List StructInfo → TFunction → Frame → List SymItem
all_items structs tf fr = function_code structs tf fr 0

abbrev pub body_part : Typed → List StructInfo → Function → TFunction → Frame → Part
body_part file structs f tf fr = record { file = file; function = f; items = body_items structs tf fr; first = 0 }

-- where they stand
abbrev pub function_place : List StructInfo → TFunction → Frame → ℕ → Place
function_place structs tf fr at =
    let is = all_items structs tf fr in let first = length (entry fr) in place at (form_of fr first is) first is

-- ---- the whole

-- its words stand there, and it is in order
pub record IsFunctionAt (c : Code) (p : Placing) (f : Function) (tf : TFunction) (at : ℕ) : Type 1 where
  pub file : HasFile c f
  pub is : function_named (units_of c.given) f ≡ Some tf
  pub safe : has_tagged (units_of c.given) f ≡ false
  pub most : (frame_of (units_of c.given) f).bytes ≤ largest_frame
  pub few : length (parameters tf) ≤ 8
  pub words : let fr = frame_of (units_of c.given) f in
      FunctionWords c p f.unit at fr (all_items (structs_of (units_of c.given) f.unit) tf fr)
  pub sound : let fr = frame_of (units_of c.given) f in
      AreSound c.given f (all_items (structs_of (units_of c.given) f.unit) tf fr)
  pub all : AllFollow c p
  -- the body
  pub order : FunctionInOrder c.given.program f.unit tf
  pub fresh : Fresh (numbered 0 (parameters tf)) (TStmt-F.Block order.items)

-- So its words follow it.
pub record IsPlacedFunction (c : Code) (p : Placing) (f : Function) (tf : TFunction) (at : ℕ) : Type 1 where
  pub here : IsFunctionAt c p f tf at
  -- the body
  pub follows : let fr = frame_of (units_of c.given) f in
      let part = body_part here.file.file (structs_of (units_of c.given) f.unit) f tf fr in
      (place : Place) (scope : Scope) → IsPlaced part c place → IsScope c f scope → Items scope here.order.items →
      FreshItems scope.locals here.order.items → (bound depth : ℕ) →
      Follows c (statement_tree c.given (λ around. items (statements_at (calls_at bound) depth) around here.order.items) part place
      scope.locals (record { broke = place.label 0; continued = place.label 0 }))
  pub ends : (bound : ℕ) (around : Context) (now : MeaningState) (s : State) (flow : Flow) (later : MeaningState) →
      Relates c.given around now s → IsIn f around →
      items (statements_at (calls_at bound) bound) around here.order.items now ≡ Goes flow later →
      EndsBody tf.result flow
  -- the parameters
  pub arguments : (around : Context) (call : Call) (vs : List Value) (now : MeaningState) (t : State) →
      Relates c.given (inside around call) now t → call.function ≡ f →
      HasArguments c.given now t 0 (map type_of_local (parameters tf)) vs →
      let fr = frame_of (units_of c.given) f in let place = function_place (structs_of (units_of c.given) f.unit) tf fr at in
      t.pc ≡ place.at 0 →
      ArgumentsStored c fr.temps (inside around call) (parameters tf) vs now t (place.at (length (argument_items tf fr)))
