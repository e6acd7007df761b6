-- One level of each kind of tree, as `out-CType`, `out-Node`, `out-Init`, `out-Stmt` and `out-Item` open it.
-- An expression is a record of its span and its node, and needs no opening.
use Rattle.c_ast.specs.declared.expr.CType.{CType}
use Rattle.c_ast.specs.declared.expr.CType.TheOpen.{CType-F, Node-F}
use Rattle.c_ast.specs.declared.expr.Expr.{Expr}
use Rattle.c_ast.specs.declared.expr.Node.{Node}
use Rattle.c_ast.specs.declared.declaration.Init.{Init}
use Rattle.c_ast.specs.declared.declaration.Init.TheOpen.{Init-F}
use Rattle.c_ast.specs.declared.statement.Item.{Item}
use Rattle.c_ast.specs.declared.statement.Item.TheOpen.{Item-F, Stmt-F}
use Rattle.c_ast.specs.declared.statement.Stmt.{Stmt}
use Rattle.c_ast.specs.declared.token.Span.{Span}

abbrev pub TypeLayer : Type 0
TypeLayer = CType-F CType Node Expr

abbrev pub NodeLayer : Type 0
NodeLayer = Node-F CType Node Expr

abbrev pub InitLayer : Type 0
InitLayer = Init-F Init

abbrev pub StmtLayer : Type 0
StmtLayer = Stmt-F Item Stmt

abbrev pub ItemLayer : Type 0
ItemLayer = Item-F Item Stmt

-- an expression of a node, and where it stands
abbrev pub expr : Span → Node → Expr
expr span node = record { span = span; node = node }
