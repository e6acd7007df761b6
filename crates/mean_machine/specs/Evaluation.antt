-- The steps of the machine in expressions, one case a node and one a frame.
use Rattle.std.specs.Prelude.{ℕ, ◌%◌, ◌^◌, true, false, List, [], ◌∷◌, ◌++◌, Option, Some, None, not, if◌then◌else◌}
use Rattle.c_ast.specs.declared.token.Span.{Span}
use Rattle.c_ast.specs.declared.operator.UnaryOperator.{UnaryOperator}
use Rattle.c_ast.specs.declared.operator.UnaryOperator.TheVariants as unary
use Rattle.c_ast.specs.declared.operator.BinaryOperator.{BinaryOperator}
use Rattle.c_ast.specs.declared.operator.BinaryOperator.TheVariants as binary
use Rattle.c_ast.specs.declared.operator.Step.{Step}
use Rattle.c_type_base.specs.declared.ty.Ty.{Ty}
use Rattle.c_type_base.specs.declared.expr.TExpr.{TExpr}
use Rattle.c_type_base.specs.declared.expr.TNode.TheOpen.{TNode-F}
use Rattle.c_type_base.specs.declared.expr.Callee.{Callee}
use Rattle.c_type_base.specs.declared.expr.Callee.TheVariants as callee
use Rattle.c_type_base.specs.declared.typed.ExternInfo.{ExternInfo}
use Rattle.c_type_base.specs.Arithmetic.{unary_value}
use Rattle.c_type_base.specs.Types.{target_of}
use Rattle.block_meaning.specs.declared.reason.Reason.TheVariants.{Signature}
use Rattle.block_meaning.specs.declared.value.Pointer.{Pointer}
use Rattle.block_meaning.specs.Expressions.{NodeLayer, Site, number_known, same_truth, assign_effect, take_byte, put_byte}
use Rattle.block_meaning.specs.Expressions.{first_number, start_of, starts, element_at, member_of}
use Rattle.block_meaning.specs.Linkage.{function_of, object_block, text_block, extern_block, extern_at, definition_of, called_as}
use Rattle.block_meaning.specs.Memory.{object, bytes_of, read, read_scalar, write}
use Rattle.block_meaning.specs.Operators.{operand, int_in, is_true, number_of_truth, operated, gives_old, stepped}
use Rattle.block_meaning.specs.Running.{Function, Run, gives, stuck, and_then, unit_gives, with_some, Context, undefined}
use Rattle.block_meaning.specs.declared.value.Value.{Value}
use Rattle.block_meaning.specs.declared.value.Value.TheVariants.{Number, Address}
use Rattle.block_meaning.specs.Values.{pointer_in, number_in, converted_to}
use Rattle.mean_machine.specs.Frames.{Evaluate, Locate, OperandFrame, Unary, LogicalFirst, LogicalSecond, BinaryLeft, BinaryRight}
use Rattle.mean_machine.specs.Frames.{AssignRight, Condition, CastTo, ConvertTo, Argument, PointerIn, Dereferenced, IndexLeft, IndexRight}
use Rattle.mean_machine.specs.Frames.{ArrowTo, PlaceFrame, Addressed, AssignLeft, Stepped, ReadFrom, Decayed, MemberAt, MemberRead}
use Rattle.mean_machine.specs.Frames.{Frame, OnOperand, OnPlace, Runs}
use Rattle.mean_machine.specs.Going.{Stand, by, spend, either, nowhere, value, place}

-- the operand of a frame is evaluated
abbrev pub operand_first : Context → List Frame → TExpr → OperandFrame → Stand
operand_first here k e frame = Runs (Evaluate e.span e) here (OnOperand frame ∷ k)

abbrev pub place_first : Context → List Frame → TExpr → PlaceFrame → Stand
place_first here k e frame = Runs (Locate e) here (OnPlace frame ∷ k)

-- ---- what is next

abbrev pub evaluate_unary : Context → List Frame → UnaryOperator → TExpr → Stand
evaluate_unary here k unary.AddressOf e = place_first here k e Addressed
evaluate_unary here k unary.Dereference e = nowhere
evaluate_unary here k o e = operand_first here k e (Unary o e)

abbrev pub evaluate_binary : Context → List Frame → Span → BinaryOperator → TExpr → TExpr → Stand
evaluate_binary here k span binary.And a b = operand_first here k a (LogicalFirst false a b)
evaluate_binary here k span binary.Or a b = operand_first here k a (LogicalFirst true a b)
evaluate_binary here k span o a b = operand_first here k a (BinaryLeft span o a b)

-- a function that another file defines, if it has the type by which this one declares it
abbrev pub if_known : Context → Span → Option Function → Run Function
if_known here span None = undefined here span None Signature
if_known here span (Some f) = gives f

abbrev pub extern_function : Context → Span → ExternInfo → Run Function
extern_function here span e = let units = here.program.units in
    with_some (definition_of units (Some e)) (λ d. if_known here span (called_as units here.unit e d))

abbrev pub function_called : Context → Span → ℕ → Run Function
function_called here span n = with_some (extern_at here.program.units here.unit n) (extern_function here span)

-- how a function is entered
abbrev pub Enter : Type 0
Enter = Context → List Frame → Function → List Value → Stand

abbrev pub call : Enter → Context → List Frame → Span → Callee → List Value → Stand
call enter here k span (callee.Function n) vs = enter here k (function_of here.unit n) vs
call enter here k span (callee.Extern n) vs = by (function_called here span n) (λ f. enter here k f vs)
call enter here k span callee.Putchar vs = by (put_byte (first_number vs)) (value here k)
call enter here k span callee.Getchar vs = by take_byte (value here k)

-- the arguments that are left, and then the call
abbrev pub arguments : Enter → Context → List Frame → Span → Callee → List Value → List TExpr → Stand
arguments enter here k span f done [] = spend (call enter here k span f done)
arguments enter here k span f done (e ∷ es) = operand_first here k e (Argument span f done es)

-- the value of an expression
abbrev pub evaluate : Enter → Context → List Frame → Span → TExpr → NodeLayer → Stand
evaluate enter here k around e (TNode-F.Constant n s) = by (unit_gives (Number n)) (value here k)
evaluate enter here k around e (TNode-F.Paren a) = Runs (Evaluate around a) here k
evaluate enter here k around e (TNode-F.Unary o a) = evaluate_unary here k o a
evaluate enter here k around e (TNode-F.Binary o a b) = evaluate_binary here k e.span o a b
evaluate enter here k around e (TNode-F.Assign o a b) = place_first here k a (AssignLeft e.span o a b)
evaluate enter here k around e (TNode-F.Cond c a b) = operand_first here k c (Condition c a b)
evaluate enter here k around e (TNode-F.Cast s a) = operand_first here k a (CastTo s)
evaluate enter here k around e (TNode-F.SizeofExpr a) = by (unit_gives (Number (bytes_of here a.ty % 2 ^ 64))) (value here k)
evaluate enter here k around e (TNode-F.SizeofName s) = by (unit_gives (Number (bytes_of here s % 2 ^ 64))) (value here k)
evaluate enter here k around e (TNode-F.Call f es) = arguments enter here k e.span f [] es
evaluate enter here k around e (TNode-F.Step s a) = place_first here k a (Stepped s a)
evaluate enter here k around e (TNode-F.Read a) = place_first here k a (ReadFrom a)
evaluate enter here k around e (TNode-F.Decay a) = place_first here k a Decayed
evaluate enter here k around e (TNode-F.Convert a) = operand_first here k a (ConvertTo e.ty)
evaluate enter here k around e (TNode-F.Member a member) = place_first here k a (MemberRead a member around e.ty)
evaluate enter here k around e _ = nowhere

-- the place of what an expression designates
abbrev pub locate : Context → List Frame → TExpr → NodeLayer → Stand
locate here k e (TNode-F.Text n) = by (unit_gives (start_of (text_block here.program.units here.unit n))) (place here k)
locate here k e (TNode-F.Local n) = by (starts (here.local n)) (place here k)
locate here k e (TNode-F.Global n) = by (unit_gives (start_of (object_block here.program.units here.unit n))) (place here k)
locate here k e (TNode-F.Extern n) = by (starts (extern_block here.program.units here.unit n)) (place here k)
locate here k e (TNode-F.Paren a) = Runs (Locate a) here k
locate here k e (TNode-F.Unary unary.Dereference a) = operand_first here k a Dereferenced
locate here k e (TNode-F.Index a i) = operand_first here k a (IndexLeft e.ty i)
locate here k e (TNode-F.Member a member) = place_first here k a (MemberAt a member)
locate here k e (TNode-F.Arrow a member) = operand_first here k a (ArrowTo a member)
locate here k e (TNode-F.Assign o a b) = place_first here (OnOperand PointerIn ∷ k) a (AssignLeft e.span o a b)
locate here k e _ = nowhere

-- ---- what waited

-- where an expression stands, without its parts
abbrev pub bare_site : Context → Span → Ty → Site
bare_site here span t = record {
  calls = λ there f vs. stuck;
  here = here;
  parts = record { value_in = λ around e. stuck; place = λ e. stuck };
  span = span;
  around = span;
  ty = t;
}

abbrev pub unary_effect : Context → UnaryOperator → TExpr → Value → Run Value
unary_effect here unary.Not e v = and_then (is_true here e.span v) (λ b. gives (number_of_truth (not b)))
unary_effect here o e v = number_known (unary_value o (int_in e.ty) (number_in v))

abbrev pub second_effect : Context → TExpr → Value → Run Value
second_effect here b w = and_then (is_true here b.span w) (λ second. gives (number_of_truth second))

-- a part of an expression has the value of its operand
abbrev pub operand_given : Enter → Context → List Frame → OperandFrame → Value → Stand
operand_given enter here k (Unary o e) v = spend (by (unary_effect here o e v) (value here k))
operand_given enter here k (LogicalFirst decides a b) v = spend (by (is_true here a.span v) (λ first.
    either (same_truth first decides) (value here k (number_of_truth decides)) (operand_first here k b (LogicalSecond b))))
operand_given enter here k (LogicalSecond b) w = by (second_effect here b w) (value here k)
operand_given enter here k (BinaryLeft span o a b) v = operand_first here k b (BinaryRight span o a b v)
operand_given enter here k (BinaryRight span o a b v) w =
    spend (by (operated here span o (operand a.ty v) (operand b.ty w)) (value here k))
operand_given enter here k (AssignRight span o a b p) v =
    spend (by (assign_effect (bare_site here span a.ty) o a b p v) (value here k))
operand_given enter here k (Condition c a b) v =
    spend (by (is_true here c.span v) (λ holds. either holds (Runs (Evaluate a.span a) here k) (Runs (Evaluate b.span b) here k)))
operand_given enter here k (CastTo s) v = by (unit_gives (converted_to s v)) (value here k)
operand_given enter here k (ConvertTo s) v = value here k (converted_to s v)
operand_given enter here k (Argument span f done es) v = arguments enter here k span f (done ++ v ∷ []) es
operand_given enter here k PointerIn v = place here k (pointer_in v)
operand_given enter here k Dereferenced v = by (unit_gives (pointer_in v)) (place here k)
operand_given enter here k (IndexLeft t i) v = operand_first here k i (IndexRight t v)
operand_given enter here k (IndexRight t v) w = by (unit_gives (element_at (bytes_of here t) v w)) (place here k)
operand_given enter here k (ArrowTo e member) v = spend (by (member_of here (target_of e.ty) member (pointer_in v)) (place here k))

-- `++` and `--` at a place
abbrev pub step_effect : Context → Step → TExpr → Pointer → Run Value
step_effect here s e p =
    and_then (read_scalar here e.span (object e.ty p)) (λ v.
    and_then (write here e.span (object e.ty p) (stepped here s e.ty v)) (λ _.
    gives (if gives_old s then v else stepped here s e.ty v)))

-- a part of an expression has a place
abbrev pub place_given : Context → List Frame → PlaceFrame → Pointer → Stand
place_given here k Addressed p = by (unit_gives (Address p)) (value here k)
place_given here k (AssignLeft span o a b) p = operand_first here k b (AssignRight span o a b p)
place_given here k (Stepped s e) p = spend (by (step_effect here s e p) (value here k))
place_given here k (ReadFrom e) p = by (read here e.span (object e.ty p)) (value here k)
place_given here k Decayed p = value here k (Address p)
place_given here k (MemberAt e member) p = spend (by (member_of here (Some e.ty) member p) (place here k))
place_given here k (MemberRead e member around t) p =
    spend (by (member_of here (Some e.ty) member p) (λ q. by (read here around (object t q)) (value here k)))
