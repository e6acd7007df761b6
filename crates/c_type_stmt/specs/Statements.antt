-- Statements (ISO C11 6.8). One case a statement; a rule on one without a span belongs to the expression in it.
use Rattle.std.specs.Prelude.{◌&&◌, List, [], ◌∷◌, map, Option, Some, None, not}
use Rattle.c_ast.specs.declared.token.Span.{Span}
use Rattle.c_ast.specs.declared.expr.Expr.{Expr}
use Rattle.c_ast.specs.declared.declaration.Decl.{Decl}
use Rattle.c_ast.specs.declared.statement.Stmt.{Stmt}
use Rattle.c_ast.specs.declared.statement.Item.TheOpen.{Item-F, Stmt-F}
use Rattle.c_ast.specs.declared.statement.Item.TheFolds.{fold-Stmt}
use Rattle.c_type_base.specs.declared.ty.Ty.{Ty}
use Rattle.c_type_base.specs.declared.expr.TExpr.{TExpr}
use Rattle.c_type_base.specs.declared.statement.TItem.{TItem}
use Rattle.c_type_base.specs.declared.statement.TItem.TheVariants as titem
use Rattle.c_type_base.specs.declared.statement.TStmt.{TStmt}
use Rattle.c_type_base.specs.declared.statement.TStmt.TheVariants as tstmt
use Rattle.c_type_base.specs.Types.{is_scalar, is_void}
use Rattle.c_type_expr.specs.Faults.{rule}
use Rattle.c_type_expr.specs.Environment.{opened}
use Rattle.c_type_expr.specs.Outcomes.{Judged, sure, not_known, both, each, perhaps, on, ruled, enclosed, option_map}
use Rattle.c_type_base.specs.declared.known.Known.{Known}
use Rattle.c_type_base.specs.Known.{converted, assignable}
use Rattle.c_type_expr.specs.Expressions.{judged_value}
use Rattle.c_type_stmt.specs.Declarations.{local}

-- what is said of a statement: as it stands, and as the body of a function, whose names share a scope with the parameters (6.2.1
-- paragraph 4)
pub record StmtSaid : Type 0 where
  pub judged : Judged TStmt
  pub body : Judged TStmt

abbrev pub stated : Judged TStmt → StmtSaid
stated judged = record { judged = judged; body = judged }

-- in a scope of its own
abbrev pub scoped : {A : Type 0} → Judged A → Judged A
scoped p env = enclosed (p (opened env))

abbrev pub tree_in : Known → TExpr
tree_in k = k.tree

-- an expression of any type, also void (6.8.3)
abbrev pub effect : Expr → Judged TExpr
effect e = on (judged_value e) (λ k. sure k.tree)

-- a condition is a scalar (6.8.4.1 paragraph 1, 6.8.5 paragraph 2)
abbrev pub condition : Expr → Judged TExpr
condition e = on (judged_value e) (λ k. ruled k.tree.span (rule 12 (is_scalar k.tree.ty) ∷ []) k.tree)

abbrev pub block : List (Judged TItem) → Judged TStmt
block is = on (each is) (λ ts. sure (tstmt.Block ts))

-- a value is returned exactly from a function that is not void, and can be assigned to its result (6.8.6.4)
abbrev pub returned : Span → Option Ty → Option Known → Judged TStmt
returned span None k = not_known
returned span (Some t) None = ruled span (rule 12 (is_void t) ∷ []) (tstmt.Return None span)
returned span (Some t) (Some k) =
    ruled span (rule 12 (not (is_void t) && assignable t k) ∷ []) (tstmt.Return (Some (converted t k).tree) span)

abbrev pub return_row : Span → Option Known → Judged TStmt
return_row span k env = returned span env.result k env

abbrev pub if_row : Expr → Judged TStmt → Option (Judged TStmt) → Judged TStmt
if_row e s o = on (both (condition e) (both s (perhaps o))) (λ (c, r). sure (tstmt.If c r.0 r.1))

abbrev pub for_row : List Decl → Option Expr → Option Expr → Option Expr → Judged TStmt → Judged TStmt
for_row ds first c next s =
    let turn = both (perhaps (option_map condition c)) (both (perhaps (option_map effect next)) s) in
    scoped (on (both (each (map local ds)) (both (perhaps (option_map effect first)) turn))
    (λ (ts, r). sure (tstmt.For ts r.0 r.1.0 r.1.1.0 r.1.1.1)))

abbrev pub judged_of : StmtSaid → Judged TStmt
judged_of s = s.judged

abbrev pub stmt_step : Stmt-F (Judged TItem) StmtSaid → StmtSaid
stmt_step (Stmt-F.Block is) = record { judged = scoped (block is); body = block is }
stmt_step (Stmt-F.Expr e) = stated (on (effect e) (λ t. sure (tstmt.Expr t)))
stmt_step Stmt-F.Empty = stated (sure tstmt.Empty)
stmt_step (Stmt-F.If e s o) = stated (if_row e s.judged (option_map judged_of o))
stmt_step (Stmt-F.While e s) = stated (on (both (condition e) s.judged) (λ (c, t). sure (tstmt.While c t)))
stmt_step (Stmt-F.DoWhile s e) = stated (on (both s.judged (condition e)) (λ (t, c). sure (tstmt.DoWhile t c)))
stmt_step (Stmt-F.For ds first c next s) = stated (for_row ds first c next s.judged)
stmt_step (Stmt-F.Return e span) = stated (on (perhaps (option_map judged_value e)) (return_row span))
stmt_step (Stmt-F.Break span) = stated (sure (tstmt.Break span))
stmt_step (Stmt-F.Continue span) = stated (sure (tstmt.Continue span))

abbrev pub item_step : Item-F (Judged TItem) StmtSaid → Judged TItem
item_step (Item-F.Local ds) = on (each (map local ds)) (λ ts. sure (titem.Local ts))
item_step (Item-F.Stmt s) = on s.judged (λ t. sure (titem.Stmt t))

-- what is said of a statement
abbrev pub statement : Stmt → StmtSaid
statement = fold-Stmt (Judged TItem) StmtSaid item_step stmt_step
