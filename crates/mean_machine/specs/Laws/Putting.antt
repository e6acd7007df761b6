-- No step in an expression takes back what was put.
use Rattle.std.proofs.Common.{
  ◌≡◌,
  refl,
  sym,
  subst,
  ap,
  ◌∙◌,
  ℕ,
  zero,
  suc,
  ◌+◌,
  ◌*◌,
  Bool,
  true,
  false,
  List,
  [],
  ◌∷◌,
  ◌++◌,
  map,
  Option,
  Some,
  None,
}
use Rattle.std.specs.Prelude.{not, ◌||◌, ◌%◌, ◌^◌, take, slice_get, codes}
use Rattle.c_ast.specs.declared.token.Span.{Span}
use Rattle.c_ast.specs.declared.operator.UnaryOperator.{UnaryOperator}
use Rattle.c_ast.specs.declared.operator.UnaryOperator.TheVariants as unary
use Rattle.c_ast.specs.declared.operator.BinaryOperator.{BinaryOperator}
use Rattle.c_ast.specs.declared.operator.BinaryOperator.TheVariants as binary
use Rattle.c_ast.specs.declared.operator.Step.{Step}
use Rattle.c_type_base.specs.declared.ty.Ty.{Ty, out-Ty}
use Rattle.c_type_base.specs.declared.ty.Ty.TheOpen.{Ty-F}
use Rattle.c_type_base.specs.declared.expr.TExpr.{TExpr}
use Rattle.c_type_base.specs.declared.expr.TNode.{out-TNode}
use Rattle.c_type_base.specs.declared.expr.TNode.TheOpen.{TNode-F}
use Rattle.c_type_base.specs.declared.expr.Callee.{Callee}
use Rattle.c_type_base.specs.declared.expr.Callee.TheVariants as callee
use Rattle.c_type_base.specs.declared.statement.TInit.{TInit, out-TInit}
use Rattle.c_type_base.specs.declared.statement.TInit.TheOpen.{TInit-F}
use Rattle.c_type_base.specs.declared.statement.TDecl.{TDecl}
use Rattle.c_type_base.specs.declared.statement.TItem.{TItem, out-TItem}
use Rattle.c_type_base.specs.declared.statement.TItem.TheOpen.{TItem-F, TStmt-F}
use Rattle.c_type_base.specs.declared.statement.TStmt.{TStmt, out-TStmt}
use Rattle.c_type_base.specs.declared.typed.ExternInfo.{ExternInfo}
use Rattle.c_type_base.specs.declared.typed.LocalInfo.{LocalInfo}
use Rattle.c_type_base.specs.declared.typed.MemberInfo.{MemberInfo}
use Rattle.c_type_base.specs.declared.typed.TFunction.{TFunction}
use Rattle.c_type_base.specs.Arithmetic.{unary_value}
use Rattle.c_type_base.specs.Layout.{members_of}
use Rattle.c_type_base.specs.Types.{TyLayer, is_struct, is_array}
use Rattle.block_meaning.specs.declared.value.Pointer.{Pointer}
use Rattle.block_meaning.specs.declared.value.Value.{Value}
use Rattle.block_meaning.specs.declared.value.Value.TheVariants.{Number, Address, Struct, NoValue}
use Rattle.block_meaning.specs.Expressions.{NodeLayer, same_truth}
use Rattle.block_meaning.specs.Laws.Steady.{Begins, begins-itself, begins-through, output_after, Steady, steady-gives, steady-stuck}
use Rattle.block_meaning.specs.Laws.Steady.{steady-undefined, steady-with_blocks, steady-then, steady-unit, steady-choice, steady-some}
use Rattle.block_meaning.specs.Laws.MoreWork.Expressions.{
  number_steady,
  effect_steady,
  take_steady,
  put_steady,
  starts_steady,
  member_of_steady,
}
use Rattle.block_meaning.specs.Laws.MoreWork.Locals.{new_locals_steady}
use Rattle.block_meaning.specs.Laws.MoreWork.Values.{scalar_steady, read_steady, write_steady, copy_steady, truth_steady, values_steady}
use Rattle.block_meaning.specs.Linkage.{Definition, AnObject, AFunction, definition_of, called_as, extern_at, extern_block}
use Rattle.block_meaning.specs.Memory.{Object}
use Rattle.block_meaning.specs.Running.{Function, Call, State, Result, Goes, Stops, Run, gives, unit_gives, Context}
use Rattle.block_meaning.specs.Statements.{StmtLayer, Flow, Next, Broke, Continued, Returned, Again, Leaves, Turn, after_body, declared}
use Rattle.block_meaning.specs.Expressions.{first_number}
use Rattle.block_meaning.specs.Memory.{object}
use Rattle.block_meaning.specs.Operators.{int_in, stepped}
use Rattle.block_meaning.specs.Values.{number_in, pointer_in}
use Rattle.c_type_base.specs.Types.{target_of}
use Rattle.mean_machine.specs.Evaluation.{Enter, evaluate, evaluate_unary, evaluate_binary, locate, call, arguments, if_known}
use Rattle.mean_machine.specs.Evaluation.{function_called, unary_effect, operand_given, bare_site, step_effect, place_given}
use Rattle.mean_machine.specs.Frames.{OperandFrame, Unary, LogicalFirst, LogicalSecond, BinaryLeft, BinaryRight, AssignRight}
use Rattle.mean_machine.specs.Frames.{Condition, CastTo, ConvertTo, Argument, PointerIn, Dereferenced, IndexLeft, IndexRight, ArrowTo}
use Rattle.mean_machine.specs.Frames.{PlaceFrame, Addressed, AssignLeft, Stepped, ReadFrom, Decayed, MemberAt, MemberRead}
use Rattle.mean_machine.specs.Frames.{Control, Machine, Runs, Ended, Frame}
use Rattle.mean_machine.specs.Going.{Stand, go_by, by, spend_of, spend, either, nowhere, value}
use Rattle.mean_machine.specs.Laws.Computes.{Leads}
use Rattle.mean_machine.specs.Steps.{step, run}

abbrev pub put_by : Machine → List ℕ
put_by (Runs c here k now) = now.output
put_by (Ended why now) = now.output

-- wherever it goes, what was put stays
pub record Puts (s : Stand) : Type 0 where
  pub puts : (now : State) → Begins now.output (put_by (s now))

pub puts-now : (f : State → Machine) → ((now : State) → put_by (f now) ≡ now.output) → Puts f
puts-now f same = record { puts = λ now. subst (λ x. Begins now.output x) (sym (same now)) (begins-itself now.output) }

go_puts : {A : Type 0} (r : Result A) (f : A → Stand) (before : List ℕ) → Begins before (output_after r) → ((a : A) → Puts (f a)) →
    Begins before (put_by (go_by r f))
go_puts (Goes a now) f before begins each = begins-through begins ((each a).puts now)
go_puts (Stops why now) f before begins each = begins

pub puts-by : {A : Type 0} {m : Run A} {f : A → Stand} → Steady m → ((a : A) → Puts (f a)) → Puts (by m f)
puts-by {m = m} {f = f} steady each = record { puts = λ now. go_puts (m now) f now.output (steady.puts now) each }

spent_puts : (work : ℕ) (next : Stand) (now : State) → Puts next → Begins now.output (put_by (spend_of work next now))
spent_puts zero next now puts = begins-itself now.output
spent_puts (suc rest) next now puts = puts.puts (record now { work = rest })

pub puts-spend : {next : Stand} → Puts next → Puts (spend next)
puts-spend {next = next} puts = record { puts = λ now. spent_puts now.work next now puts }

pub puts-either : (b : Bool) {x y : Stand} → Puts x → Puts y → Puts (either b x y)
puts-either true first second = record { puts = λ now. first.puts now }
puts-either false first second = record { puts = λ now. second.puts now }

-- it stands somewhere at once
pub puts-at : (c : Control) (here : Context) (k : List Frame) → Puts (Runs c here k)
puts-at c here k = record { puts = λ now. begins-itself now.output }

pub puts-nowhere : Puts nowhere
puts-nowhere = record { puts = λ now. begins-itself now.output }

-- ---- expressions

abbrev pub EnterPuts : Enter → Type 0
EnterPuts enter = (here : Context) (k : List Frame) (f : Function) (vs : List Value) → Puts (enter here k f vs)

unary_next : (here : Context) (k : List Frame) (o : UnaryOperator) (e : TExpr) → Puts (evaluate_unary here k o e)
unary_next here k unary.AddressOf e = puts-at _ _ _
unary_next here k unary.Dereference e = puts-nowhere
unary_next here k o e = puts-at _ _ _

binary_next : (here : Context) (k : List Frame) (span : Span) (o : BinaryOperator) (a b : TExpr) → Puts (evaluate_binary here k span o a b)
binary_next here k span binary.And a b = puts-at _ _ _
binary_next here k span binary.Or a b = puts-at _ _ _
binary_next here k span o a b = puts-at _ _ _

known_steady : (here : Context) (span : Span) (f : Option Function) → Steady (if_known here span f)
known_steady here span None = steady-undefined here span None _
known_steady here span (Some f) = steady-gives f

called_steady : (here : Context) (span : Span) (n : ℕ) → Steady (function_called here span n)
called_steady here span n = steady-some (extern_at here.program.units here.unit n) (λ e.
    steady-some (definition_of here.program.units (Some e)) (λ d.
    known_steady here span (called_as here.program.units here.unit e d)))

pub call_puts : {enter : Enter} → EnterPuts enter → (here : Context) (k : List Frame) (span : Span) (f : Callee) (vs : List Value) →
    Puts (call enter here k span f vs)
call_puts enters here k span (callee.Function n) vs = enters here k _ vs
call_puts enters here k span (callee.Extern n) vs = puts-by (called_steady here span n) (λ f. enters here k f vs)
call_puts enters here k span callee.Putchar vs = puts-by {f = value here k} (put_steady (first_number vs)) (λ v. puts-at _ _ _)
call_puts enters here k span callee.Getchar vs = puts-by {f = value here k} take_steady (λ v. puts-at _ _ _)

pub arguments_put : {enter : Enter} → EnterPuts enter → (here : Context) (k : List Frame) (span : Span) (f : Callee) (done : List Value)
    (es : List TExpr) → Puts (arguments enter here k span f done es)
arguments_put enters here k span f done [] = puts-spend (call_puts enters here k span f done)
arguments_put enters here k span f done (e ∷ es) = puts-at _ _ _

unit_puts : {A : Type 0} (a : A) {f : A → Stand} → ((b : A) → Puts (f b)) → Puts (by (unit_gives a) f)
unit_puts a each = puts-by (steady-unit (steady-gives a)) each

pub evaluate_puts : {enter : Enter} → EnterPuts enter → (here : Context) (k : List Frame) (around : Span) (e : TExpr) (n : NodeLayer) →
    Puts (evaluate enter here k around e n)
evaluate_puts enters here k around e (TNode-F.Constant n s) = unit_puts _ (λ v. puts-at _ _ _)
evaluate_puts enters here k around e (TNode-F.Paren a) = puts-at _ _ _
evaluate_puts enters here k around e (TNode-F.Unary o a) = unary_next here k o a
evaluate_puts enters here k around e (TNode-F.Binary o a b) = binary_next here k e.span o a b
evaluate_puts enters here k around e (TNode-F.Assign o a b) = puts-at _ _ _
evaluate_puts enters here k around e (TNode-F.Cond c a b) = puts-at _ _ _
evaluate_puts enters here k around e (TNode-F.Cast s a) = puts-at _ _ _
evaluate_puts enters here k around e (TNode-F.SizeofExpr a) = unit_puts _ (λ v. puts-at _ _ _)
evaluate_puts enters here k around e (TNode-F.SizeofName s) = unit_puts _ (λ v. puts-at _ _ _)
evaluate_puts enters here k around e (TNode-F.Call f es) = arguments_put enters here k e.span f [] es
evaluate_puts enters here k around e (TNode-F.Step s a) = puts-at _ _ _
evaluate_puts enters here k around e (TNode-F.Read a) = puts-at _ _ _
evaluate_puts enters here k around e (TNode-F.Decay a) = puts-at _ _ _
evaluate_puts enters here k around e (TNode-F.Convert a) = puts-at _ _ _
evaluate_puts enters here k around e (TNode-F.Member a member) = puts-at _ _ _
evaluate_puts enters here k around e _ = puts-nowhere

pub locate_puts : (here : Context) (k : List Frame) (e : TExpr) (n : NodeLayer) → Puts (locate here k e n)
locate_puts here k e (TNode-F.Text n) = unit_puts _ (λ p. puts-at _ _ _)
locate_puts here k e (TNode-F.Local n) = puts-by (starts_steady (here.local n)) (λ p. puts-at _ _ _)
locate_puts here k e (TNode-F.Global n) = unit_puts _ (λ p. puts-at _ _ _)
locate_puts here k e (TNode-F.Extern n) =
    puts-by (starts_steady (extern_block here.program.units here.unit n)) (λ p. puts-at _ _ _)
locate_puts here k e (TNode-F.Paren a) = puts-at _ _ _
locate_puts here k e (TNode-F.Unary unary.Dereference a) = puts-at _ _ _
locate_puts here k e (TNode-F.Index a i) = puts-at _ _ _
locate_puts here k e (TNode-F.Member a member) = puts-at _ _ _
locate_puts here k e (TNode-F.Arrow a member) = puts-at _ _ _
locate_puts here k e (TNode-F.Assign o a b) = puts-at _ _ _
locate_puts here k e _ = puts-nowhere

unary_effect_steady : (here : Context) (o : UnaryOperator) (e : TExpr) (v : Value) → Steady (unary_effect here o e v)
unary_effect_steady here unary.Not e v = steady-then (truth_steady here e.span v) (λ b. steady-gives _)
unary_effect_steady here o e v = number_steady (unary_value o (int_in e.ty) (number_in v))

pub operand_puts : {enter : Enter} → EnterPuts enter → (here : Context) (k : List Frame) (f : OperandFrame) (v : Value) →
    Puts (operand_given enter here k f v)
operand_puts enters here k (Unary o e) v = puts-spend (puts-by (unary_effect_steady here o e v) (λ w. puts-at _ _ _))
operand_puts enters here k (LogicalFirst decides a b) v = puts-spend (puts-by (truth_steady here a.span v) (λ first.
    puts-either (same_truth first decides) (puts-at _ _ _) (puts-at _ _ _)))
operand_puts enters here k (LogicalSecond b) w =
    puts-by (steady-then (truth_steady here b.span w) (λ second. steady-gives _)) (λ v. puts-at _ _ _)
operand_puts enters here k (BinaryLeft span o a b) v = puts-at _ _ _
operand_puts enters here k (BinaryRight span o a b v) w =
    puts-spend (puts-by (values_steady here span o a.ty b.ty v w) (λ u. puts-at _ _ _))
operand_puts enters here k (AssignRight span o a b p) v =
    puts-spend (puts-by (effect_steady (bare_site here span a.ty) o a b p v) (λ w. puts-at _ _ _))
operand_puts enters here k (Condition c a b) v =
    puts-spend (puts-by (truth_steady here c.span v) (λ holds. puts-either holds (puts-at _ _ _) (puts-at _ _ _)))
operand_puts enters here k (CastTo s) v = unit_puts _ (λ w. puts-at _ _ _)
operand_puts enters here k (ConvertTo s) v = puts-at _ _ _
operand_puts enters here k (Argument span f done es) v = arguments_put enters here k span f (done ++ v ∷ []) es
operand_puts enters here k PointerIn v = puts-at _ _ _
operand_puts enters here k Dereferenced v = unit_puts _ (λ p. puts-at _ _ _)
operand_puts enters here k (IndexLeft t i) v = puts-at _ _ _
operand_puts enters here k (IndexRight t v) w = unit_puts _ (λ p. puts-at _ _ _)
operand_puts enters here k (ArrowTo e member) v =
    puts-spend (puts-by (member_of_steady here (target_of e.ty) member (pointer_in v)) (λ p. puts-at _ _ _))

step_steady : (here : Context) (s : Step) (e : TExpr) (p : Pointer) → Steady (step_effect here s e p)
step_steady here s e p = steady-then (scalar_steady here e.span (object e.ty p)) (λ v.
    steady-then (write_steady here e.span (object e.ty p) (stepped here s e.ty v)) (λ _. steady-gives _))

pub place_puts : (here : Context) (k : List Frame) (f : PlaceFrame) (p : Pointer) → Puts (place_given here k f p)
place_puts here k Addressed p = unit_puts _ (λ v. puts-at _ _ _)
place_puts here k (AssignLeft span o a b) p = puts-at _ _ _
place_puts here k (Stepped s e) p = puts-spend (puts-by (step_steady here s e p) (λ v. puts-at _ _ _))
place_puts here k (ReadFrom e) p = puts-by (read_steady here e.span (object e.ty p)) (λ v. puts-at _ _ _)
place_puts here k Decayed p = puts-at _ _ _
place_puts here k (MemberAt e member) p = puts-spend (puts-by (member_of_steady here (Some e.ty) member p) (λ q. puts-at _ _ _))
place_puts here k (MemberRead e member around t) p =
    puts-spend (puts-by (member_of_steady here (Some e.ty) member p) (λ q.
    puts-by (read_steady here around (object t q)) (λ v. puts-at _ _ _)))
