-- A program that is in order, by hand: so it has a meaning, for each input and each amount of work.
--     int f(int x){int y;y=x;while(y){y=y-1;}return y;}
--     int main(void){return f(3);}
use Rattle.std.proofs.Common.{◌≡◌, refl, subst, ap, ℕ, zero, suc, true, ◌||◌, List, [], ◌∷◌, Some, None, lit≤, slice_get}
use Rattle.c_type_base.specs.Types.{is_scalar, is_struct}
use Rattle.std.specs.Prelude.{codes}
use Rattle.std.proofs.lemmas.List.Elements.{All-nil, All-cons}
use Rattle.std.proofs.lemmas.Option.{same_Some}
use Rattle.c_ast.specs.declared.operator.BinaryOperator.TheVariants as binary
use Rattle.c_type_base.specs.Laws.Opened.{given_types, given_typed}
use Rattle.c_type_base.specs.declared.expr.TExpr.{TExpr}
use Rattle.c_type_base.specs.declared.ty.Ty.{Ty}
use Rattle.c_type_base.specs.declared.expr.TNode.{out-TNode}
use Rattle.c_type_base.specs.declared.expr.TNode.TheOpen.{TNode-F}
use Rattle.c_type_base.specs.declared.expr.TNode.TheVariants as node
use Rattle.c_type_base.specs.declared.expr.Callee.TheVariants as callee
use Rattle.c_type_base.specs.declared.statement.TDecl.{TDecl}
use Rattle.c_type_base.specs.declared.statement.TItem.{TItem}
use Rattle.c_type_base.specs.declared.statement.TItem.TheVariants as item
use Rattle.c_type_base.specs.declared.statement.TStmt.TheVariants as stmt
use Rattle.c_type_base.specs.declared.typed.LocalInfo.{LocalInfo}
use Rattle.c_type_base.specs.declared.typed.TFunction.{TFunction}
use Rattle.c_type_base.specs.declared.typed.Typed.{Typed}
use Rattle.block_meaning.proofs.Trees.{span, int_type, int_at, constant, returns, function_with, file_of, program_of}
use Rattle.block_meaning.specs.ExpressionsInOrder as expression
use Rattle.block_meaning.specs.ExpressionsInOrder.{Scope, within, HasValue, Designates, ValueInOrder}
use Rattle.block_meaning.specs.Laws.Progress.Meaning.{HasMeaning, has_meaning}
use Rattle.block_meaning.specs.Linkage.{function_of, function_named}
use Rattle.block_meaning.specs.ProgramsInOrder.{body_scope, FunctionInOrder, ObjectInOrder, FileInOrder, HasFrame, InOrder}
use Rattle.block_meaning.specs.Running.{Program}
use Rattle.block_meaning.specs.StatementsInOrder as statement
use Rattle.block_meaning.specs.StatementsInOrder.{DeclarationInOrder}

abbrev local_named : List ℕ → LocalInfo
local_named name = record { name = name; ty = int_type; span = span 0 0 }

abbrev x : TExpr
x = int_at 0 1 (node.Local 0)

abbrev y : TExpr
y = int_at 0 1 (node.Local 1)

abbrev value_of : TExpr → TExpr
value_of e = int_at 0 1 (node.Read e)

abbrev assign : TExpr → TExpr → TItem
assign a b = item.Stmt (stmt.Expr (int_at 0 3 (node.Assign None a b)))

abbrev declares_y : TDecl
declares_y = record { local = 1; init = None; span = span 0 1 }

abbrev less_one : TExpr
less_one = int_at 0 3 (node.Binary binary.Subtract (value_of y) (constant 2 3 1))

abbrev turn : List TItem
turn = assign y less_one ∷ []

abbrev items_of_f : List TItem
items_of_f =
    item.Local (declares_y ∷ []) ∷ assign y (value_of x) ∷ item.Stmt (stmt.While (value_of y) (stmt.Block turn)) ∷ returns (value_of y)
    ∷ []

abbrev f : TFunction
f = record (function_with (codes "f") items_of_f) { params = 1; locals = local_named (codes "x") ∷ local_named (codes "y") ∷ [] }

abbrev items_of_main : List TItem
items_of_main = returns (int_at 0 4 (node.Call (callee.Function 0) (constant 2 3 3 ∷ []))) ∷ []

abbrev main : TFunction
main = function_with (codes "main") items_of_main

abbrev file : Typed
file = file_of (f ∷ main ∷ [])

abbrev program : Program
program = program_of file (64 ∷ 32 ∷ [])

-- ---- in the body of f

abbrev in_f : Scope
in_f = body_scope program 0 f (1 ∷ [])

constant_in_order : (s : Scope) (start end n : ℕ) → ValueInOrder s (constant start end n)
unfolding given_typed
constant_in_order s start end n = expression.constant

x_in_order : Designates in_f int_type (TNode-F.Local 0)
x_in_order = expression.local (1, lit≤ tt, refl) refl

y_in_order : Designates in_f int_type (TNode-F.Local 1)
y_in_order = expression.local (0, lit≤ tt, refl) refl

int_is_read : (t : Ty) → t ≡ int_type → (is_scalar t || is_struct t) ≡ true
unfolding given_types
int_is_read t is = ap (λ t. is_scalar t || is_struct t) is

value_in_order : (s : Scope) (e : TExpr) → Designates s e.ty (out-TNode e.node) → e.ty ≡ int_type → ValueInOrder s (value_of e)
unfolding given_typed
value_in_order s e d same = subst (λ t. HasValue s t (TNode-F.Read e)) same (expression.read d (int_is_read e.ty same))

declaration_in_order : DeclarationInOrder in_f declares_y
declaration_in_order = record { info = local_named (codes "y"); info_is = refl; in_scope = (0, lit≤ tt, refl); init = tt }

-- y = y - 1
turn_in_order : statement.Items (within in_f []) turn
unfolding given_typed given_types
turn_in_order = statement.item (statement.statement (statement.expression (expression.assigned y_in_order
    (expression.operated (value_in_order in_f y y_in_order refl) (constant_in_order in_f 2 3 1) (expression.arithmetic refl refl)) refl)))
    statement.no_item

f_in_order : FunctionInOrder program 0 f
unfolding given_typed given_types
f_in_order = record {
  result = refl;
  items = items_of_f;
  body_is = refl;
  body = statement.item (statement.declarations (All-cons (DeclarationInOrder in_f) declares_y [] declaration_in_order
      (All-nil (DeclarationInOrder in_f)))) (statement.item (statement.statement (statement.expression
      (expression.assigned y_in_order (value_in_order in_f x x_in_order refl) refl))) (statement.item (statement.statement
      (statement.while (record { value = value_in_order in_f y y_in_order refl; scalar = refl }) (statement.block turn_in_order)))
      (statement.item (statement.statement (statement.return_value (value_in_order in_f y y_in_order refl) refl)) statement.no_item)));
}

main_in_order : FunctionInOrder program 0 main
unfolding given_typed given_types
main_in_order = record {
  result = refl;
  items = items_of_main;
  body_is = refl;
  body = statement.item (statement.statement (statement.return_value (expression.call (expression.function refl)
      (expression.argument (constant_in_order _ 2 3 3) expression.no_argument)) refl)) statement.no_item;
}

-- ---- the whole

functions_in_order : (k : ℕ) (g : TFunction) → slice_get (f ∷ main ∷ []) k ≡ Some g → FunctionInOrder program 0 g
functions_in_order zero g is = subst (FunctionInOrder program 0) (same_Some f g is) f_in_order
functions_in_order (suc zero) g is = subst (FunctionInOrder program 0) (same_Some main g is) main_in_order
functions_in_order (suc (suc k)) g is = absurd cc

file_in_order : FileInOrder program 0 file
file_in_order = record {
  structs = λ number info is. absurd cc;
  objects = All-nil (ObjectInOrder file);
  functions = functions_in_order;
}

files_in_order : (unit : ℕ) (u : Typed) → slice_get (file ∷ []) unit ≡ Some u → FileInOrder program unit u
files_in_order zero u is = subst (FileInOrder program 0) (same_Some file u is) file_in_order
files_in_order (suc unit) u is = absurd cc

frames_in_order : (unit k : ℕ) (g : TFunction) → function_named (file ∷ []) (function_of unit k) ≡ Some g →
    HasFrame program (function_of unit k)
frames_in_order zero zero g is = record { bytes = 64; is = refl }
frames_in_order zero (suc zero) g is = record { bytes = 32; is = refl }
frames_in_order zero (suc (suc k)) g is = absurd cc
frames_in_order (suc unit) k g is = absurd cc

in_order : InOrder program
in_order = record {
  files = files_in_order;
  frames = λ name g is. frames_in_order name.unit name.number g is;
  main = record {
    name = function_of 0 1;
    defined_is = refl;
    function = main;
    function_is = refl;
    without_parameters = refl;
  };
}

it_has_a_meaning : (input : List ℕ) (work : ℕ) → HasMeaning program input work
it_has_a_meaning = has_meaning in_order
