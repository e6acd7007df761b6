-- Short words for typed programs.
use Rattle.std.proofs.Common.{ℕ, List, [], ◌∷◌, Some, false}
use Rattle.c_ast.specs.declared.token.Span.{Span}
use Rattle.c_ast.specs.declared.int_type.IntType.TheVariants as int
use Rattle.c_type_base.specs.declared.ty.Ty.{Ty}
use Rattle.c_type_base.specs.declared.ty.Ty.TheVariants as ty
use Rattle.c_type_base.specs.declared.expr.TExpr.{TExpr}
use Rattle.c_type_base.specs.declared.expr.TNode.{TNode}
use Rattle.c_type_base.specs.declared.expr.TNode.TheVariants as node
use Rattle.c_type_base.specs.declared.statement.TItem.{TItem}
use Rattle.c_type_base.specs.declared.statement.TItem.TheVariants as item
use Rattle.c_type_base.specs.declared.statement.TStmt.TheVariants as stmt
use Rattle.c_type_base.specs.declared.typed.Typed.{Typed}
use Rattle.c_type_base.specs.declared.typed.TFunction.{TFunction}
use Rattle.block_meaning.specs.Running.{Program}

abbrev pub span : ℕ → ℕ → Span
span start end = record { start = start; end = end }

abbrev pub int_type : Ty
int_type = ty.Int int.Int

-- an expression of type int
abbrev pub int_at : ℕ → ℕ → TNode → TExpr
int_at start end n = record { span = span start end; ty = int_type; node = n }

abbrev pub constant : ℕ → ℕ → ℕ → TExpr
constant start end n = int_at start end (node.Constant n int.Int)

abbrev pub returns : TExpr → TItem
returns e = item.Stmt (stmt.Return (Some e) e.span)

-- int name(void) with these items and no locals
abbrev pub function_with : List ℕ → List TItem → TFunction
function_with name items = record {
  name = name;
  local = false;
  params = 0;
  result = int_type;
  locals = [];
  body = stmt.Block items;
  span = span 0 0;
}

abbrev pub file_of : List TFunction → Typed
file_of functions = record { structs = []; globals = []; functions = functions; externs = []; texts = [] }

-- one file, whose frames have 32 bytes each, with a stack of 1,024
abbrev pub program_of : Typed → List ℕ → Program
program_of file frames = record { units = file ∷ []; frames = frames ∷ []; stack = 1024 }
