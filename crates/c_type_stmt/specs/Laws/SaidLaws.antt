-- What is said of initialisers and statements, one equation a construct.
use Rattle.std.proofs.Common.{◌≡◌, List, map, Option, Some, None}
use Rattle.c_ast.specs.Laws.Opened.{given_trees}
use Rattle.c_ast.specs.declared.token.Span.{Span}
use Rattle.c_ast.specs.declared.expr.Expr.{Expr}
use Rattle.c_ast.specs.declared.declaration.Decl.{Decl}
use Rattle.c_ast.specs.declared.declaration.Init.{Init}
use Rattle.c_ast.specs.declared.declaration.Init.TheVariants as init
use Rattle.c_ast.specs.declared.declaration.Init.TheOpen.{Init-F}
use Rattle.c_ast.specs.declared.declaration.Init.TheFolds.{fold-roll-Init}
use Rattle.c_ast.specs.declared.statement.Stmt.{Stmt}
use Rattle.c_ast.specs.declared.statement.Stmt.TheVariants as stmt
use Rattle.c_ast.specs.declared.statement.Item.{Item}
use Rattle.c_ast.specs.declared.statement.Item.TheVariants as item
use Rattle.c_ast.specs.declared.statement.Item.TheOpen.{Item-F, Stmt-F}
use Rattle.c_ast.specs.declared.statement.Item.TheFolds.{fold-Item, fold-roll-Item, fold-roll-Stmt}
use Rattle.c_type_base.specs.declared.statement.TItem.{TItem}
use Rattle.c_type_expr.specs.Outcomes.{Judged}
use Rattle.c_type_stmt.specs.Initials.{InitSaid, init_step, initialiser}
use Rattle.c_type_stmt.specs.Statements.{StmtSaid, stmt_step, item_step, statement}

-- ---- initialisers

pub said-one : (e : Expr) → initialiser (init.One e) ≡ init_step (Init-F.One e)
unfolding given_trees
said-one e = fold-roll-Init InitSaid init_step (Init-F.One e)

pub said-list : (is : List Init) (span : Span) → initialiser (init.List is span) ≡ init_step (Init-F.List (map initialiser is) span)
unfolding given_trees
said-list is span = fold-roll-Init InitSaid init_step (Init-F.List is span)

-- ---- statements

abbrev pub item_judged : Item → Judged TItem
item_judged = fold-Item (Judged TItem) StmtSaid item_step stmt_step

pub said-block : (is : List Item) → statement (stmt.Block is) ≡ stmt_step (Stmt-F.Block (map item_judged is))
unfolding given_trees
said-block is = fold-roll-Stmt (Judged TItem) StmtSaid item_step stmt_step (Stmt-F.Block is)

pub said-expression : (e : Expr) → statement (stmt.Expr e) ≡ stmt_step (Stmt-F.Expr e)
unfolding given_trees
said-expression e = fold-roll-Stmt (Judged TItem) StmtSaid item_step stmt_step (Stmt-F.Expr e)

pub said-empty : statement stmt.Empty ≡ stmt_step Stmt-F.Empty
unfolding given_trees
said-empty = fold-roll-Stmt (Judged TItem) StmtSaid item_step stmt_step Stmt-F.Empty

pub said-if : (e : Expr) (s : Stmt) → statement (stmt.If e s None) ≡ stmt_step (Stmt-F.If e (statement s) None)
unfolding given_trees
said-if e s = fold-roll-Stmt (Judged TItem) StmtSaid item_step stmt_step (Stmt-F.If e s None)

pub said-if_else : (e : Expr) (s : Stmt) (o : Stmt) → statement (stmt.If e s (Some o)) ≡
    stmt_step (Stmt-F.If e (statement s) (Some (statement o)))
unfolding given_trees
said-if_else e s o = fold-roll-Stmt (Judged TItem) StmtSaid item_step stmt_step (Stmt-F.If e s (Some o))

pub said-while : (e : Expr) (s : Stmt) → statement (stmt.While e s) ≡ stmt_step (Stmt-F.While e (statement s))
unfolding given_trees
said-while e s = fold-roll-Stmt (Judged TItem) StmtSaid item_step stmt_step (Stmt-F.While e s)

pub said-do : (s : Stmt) (e : Expr) → statement (stmt.DoWhile s e) ≡ stmt_step (Stmt-F.DoWhile (statement s) e)
unfolding given_trees
said-do s e = fold-roll-Stmt (Judged TItem) StmtSaid item_step stmt_step (Stmt-F.DoWhile s e)

pub said-for : (ds : List Decl) (first : Option Expr) (c : Option Expr) (next : Option Expr) (s : Stmt) → statement
    (stmt.For ds first c next s) ≡
    stmt_step (Stmt-F.For ds first c next (statement s))
unfolding given_trees
said-for ds first c next s = fold-roll-Stmt (Judged TItem) StmtSaid item_step stmt_step (Stmt-F.For ds first c next s)

pub said-return : (e : Option Expr) (span : Span) → statement (stmt.Return e span) ≡ stmt_step (Stmt-F.Return e span)
unfolding given_trees
said-return e span = fold-roll-Stmt (Judged TItem) StmtSaid item_step stmt_step (Stmt-F.Return e span)

pub said-break : (span : Span) → statement (stmt.Break span) ≡ stmt_step (Stmt-F.Break span)
unfolding given_trees
said-break span = fold-roll-Stmt (Judged TItem) StmtSaid item_step stmt_step (Stmt-F.Break span)

pub said-continue : (span : Span) → statement (stmt.Continue span) ≡ stmt_step (Stmt-F.Continue span)
unfolding given_trees
said-continue span = fold-roll-Stmt (Judged TItem) StmtSaid item_step stmt_step (Stmt-F.Continue span)

pub judged-local : (ds : List Decl) → item_judged (item.Local ds) ≡ item_step (Item-F.Local ds)
unfolding given_trees
judged-local ds = fold-roll-Item (Judged TItem) StmtSaid item_step stmt_step (Item-F.Local ds)

pub judged-statement : (s : Stmt) → item_judged (item.Stmt s) ≡ item_step (Item-F.Stmt (statement s))
unfolding given_trees
judged-statement s = fold-roll-Item (Judged TItem) StmtSaid item_step stmt_step (Item-F.Stmt s)
