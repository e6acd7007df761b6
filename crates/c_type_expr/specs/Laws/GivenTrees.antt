-- Short words for given trees.
use Rattle.std.proofs.Common.{ℕ, List, [], Option, Some}
use Rattle.std.specs.Prelude.{codes}
use Rattle.c_ast.specs.Tree.{expr}
use Rattle.c_ast.specs.declared.token.Span.{Span}
use Rattle.c_ast.specs.declared.int_type.IntType.TheVariants as int
use Rattle.c_ast.specs.declared.expr.CType.{CType}
use Rattle.c_ast.specs.declared.expr.CType.TheVariants as ctype
use Rattle.c_ast.specs.declared.expr.Expr.{Expr}
use Rattle.c_ast.specs.declared.expr.Node.TheVariants as node
use Rattle.c_ast.specs.declared.declaration.Decl.{Decl}
use Rattle.c_ast.specs.declared.declaration.Init.{Init}
use Rattle.c_ast.specs.declared.declaration.Storage.TheVariants as storage
use Rattle.c_ast.specs.declared.statement.Stmt.TheVariants as stmt
use Rattle.c_ast.specs.declared.statement.Item.{Item}
use Rattle.c_ast.specs.declared.statement.Item.TheVariants as item
use Rattle.c_ast.specs.declared.program.Program.{Program}
use Rattle.c_ast.specs.declared.program.External.{External}
use Rattle.c_ast.specs.declared.program.External.TheVariants as external

abbrev pub span : ℕ → ℕ → Span
span start end = record { start = start; end = end }

abbrev pub int_type : CType
int_type = ctype.Int int.Int

abbrev pub constant : ℕ → ℕ → ℕ → Expr
constant start end n = expr (span start end) (node.Constant n int.Int)

abbrev pub name : ℕ → ℕ → List ℕ → Expr
name start end bytes = expr (span start end) (node.Variable bytes)

abbrev pub decl : ℕ → ℕ → List ℕ → CType → Option Init → Decl
decl start end bytes ty init = record { name = bytes; ty = ty; init = init; span = span start end }

-- int main(void) with a body, from a byte to another
abbrev pub main_at : ℕ → ℕ → List Item → External
main_at start end items = external.Function (record {
  storage = storage.None;
  name = codes "main";
  result = int_type;
  params = [];
  body = Some (stmt.Block items);
  span = span start end;
})

abbrev pub program : List External → Program
program items = record { items = items }

abbrev pub returns : ℕ → ℕ → Expr → Item
returns start end e = item.Stmt (stmt.Return (Some e) (span start end))
