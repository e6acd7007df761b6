-- How trees look to contracts: the value of a text, its levels, and a definition that runs on it.
use Rattle.std.proofs.Common.{◌≡◌, refl, ℕ, zero, suc, List, [], ◌∷◌, ◌++◌, flat_map, Some}
use Rattle.std.specs.Prelude.{codes}
use Rattle.c_ast.specs.Tree.{NodeLayer, expr}
use Rattle.c_ast.specs.Laws.Opened.{given_trees}
use Rattle.c_ast.specs.declared.int_type.IntType.TheVariants as int
use Rattle.c_ast.specs.declared.operator.UnaryOperator.TheVariants as unary
use Rattle.c_ast.specs.declared.token.Span.{Span}
use Rattle.c_ast.specs.declared.expr.Expr.{Expr}
use Rattle.c_ast.specs.declared.expr.Node.{out-Node}
use Rattle.c_ast.specs.declared.expr.Node.TheVariants as node
use Rattle.c_ast.specs.declared.expr.CType.{out-CType}
use Rattle.c_ast.specs.declared.expr.CType.TheVariants as ctype
use Rattle.c_ast.specs.declared.expr.CType.TheOpen.{CType-F, Node-F}
use Rattle.c_ast.specs.declared.declaration.Decl.{Decl}
use Rattle.c_ast.specs.declared.declaration.Init.{Init, out-Init}
use Rattle.c_ast.specs.declared.declaration.Init.TheVariants as init
use Rattle.c_ast.specs.declared.declaration.Init.TheOpen.{Init-F}
use Rattle.c_ast.specs.declared.declaration.Storage.TheVariants as storage
use Rattle.c_ast.specs.declared.statement.Stmt.{Stmt, out-Stmt}
use Rattle.c_ast.specs.declared.statement.Stmt.TheVariants as stmt
use Rattle.c_ast.specs.declared.statement.Item.{out-Item}
use Rattle.c_ast.specs.declared.statement.Item.TheVariants as item
use Rattle.c_ast.specs.declared.statement.Item.TheOpen.{Stmt-F, Item-F}
use Rattle.c_ast.specs.declared.program.Program.{Program}
use Rattle.c_ast.specs.declared.program.Function.{Function}
use Rattle.c_ast.specs.declared.program.External.TheVariants as external

abbrev span : ℕ → ℕ → Span
span start end = record { start = start; end = end }

-- int v[2]={1,2};int main(void){return -f(v,1);}
abbrev two_ones : Decl
two_ones = record {
  name = codes "v";
  ty = ctype.Array (ctype.Int int.Int) (Some (expr (span 6 7) (node.Constant 2 int.Int)));
  init = Some (init.List (
      init.One (expr (span 10 11) (node.Constant 1 int.Int)) ∷
      init.One (expr (span 12 13) (node.Constant 2 int.Int)) ∷ []) (span 9 14));
  span = span 4 14;
}

abbrev call : Expr
call = expr (span 38 44) (node.Call (expr (span 38 39) (node.Variable (codes "f"))) (
    expr (span 40 41) (node.Variable (codes "v")) ∷
    expr (span 42 43) (node.Constant 1 int.Int) ∷ []))

abbrev negated : Expr
negated = expr (span 37 44) (node.Unary unary.Minus call)

abbrev body : Stmt
body = stmt.Block (item.Stmt (stmt.Return (Some negated) (span 30 45)) ∷ [])

abbrev main_function : Function
main_function = record {
  storage = storage.None;
  name = codes "main";
  result = ctype.Int int.Int;
  params = [];
  body = Some body;
  span = span 15 46;
}

abbrev program : Program
program = record { items = external.Objects storage.None (two_ones ∷ []) ∷ external.Function main_function ∷ [] }

-- its levels: a box is what it holds, and a list is a list
the_negated : out-Node negated.node ≡ Node-F.Unary unary.Minus call
unfolding given_trees
the_negated = refl

the_call : out-Node call.node ≡ Node-F.Call (expr (span 38 39) (node.Variable (codes "f"))) (
    expr (span 40 41) (node.Variable (codes "v")) ∷ expr (span 42 43) (node.Constant 1 int.Int) ∷ [])
unfolding given_trees
the_call = refl

the_type : out-CType two_ones.ty ≡ CType-F.Array (ctype.Int int.Int) (Some (expr (span 6 7) (node.Constant 2 int.Int)))
unfolding given_trees
the_type = refl

the_list : (one two : Init) → out-Init (init.List (one ∷ two ∷ []) (span 9 14)) ≡ Init-F.List (one ∷ two ∷ []) (span 9 14)
unfolding given_trees
the_list one two = refl

the_body : out-Stmt body ≡ Stmt-F.Block (item.Stmt (stmt.Return (Some negated) (span 30 45)) ∷ [])
unfolding given_trees
the_body = refl

the_item : (s : Stmt) → out-Item (item.Stmt s) ≡ Item-F.Stmt s
unfolding given_trees
the_item s = refl

the_choice : (e : Expr) (s : Stmt) → out-Stmt (stmt.If e s (Some s)) ≡ Stmt-F.If e s (Some s)
unfolding given_trees
the_choice e s = refl

-- a definition over trees: what one level gives, and the recursion on a number outside
abbrev constants_at : (Expr → List ℕ) → NodeLayer → List ℕ
constants_at below (Node-F.Constant value ty) = value ∷ []
constants_at below (Node-F.Unary operator operand) = below operand
constants_at below (Node-F.Call function arguments) = below function ++ flat_map below arguments
constants_at below _ = []

-- the constants in an expression of fewer levels than the number
abbrev constants : ℕ → Expr → List ℕ
constants zero e = []
constants (suc levels) e = constants_at (constants levels) (out-Node e.node)

the_constants : constants 3 negated ≡ 1 ∷ []
unfolding given_trees
the_constants = refl

too_few_levels : constants 2 negated ≡ []
unfolding given_trees
too_few_levels = refl
