-- The code of an expression as a statement, and of the empty statement, does what they mean (this project's own).
use Rattle.std.proofs.Common.{arith}
use Rattle.block_meaning.specs.Expressions.{value_of}
use Rattle.block_meaning.specs.Running.{gives}
use Rattle.block_meaning.specs.Statements.{StmtParts, Next, stmt_node}
use Rattle.c_type_base.specs.declared.expr.TExpr.{TExpr}
use Rattle.c_type_base.specs.declared.statement.TItem.TheOpen.{TStmt-F}
use Rattle.code_follows.specs.Scene.{Scene, IsScene, structs_in, frame_in}
use Rattle.code_follows.specs.Laws.Going.{On-at}
use Rattle.gen_base.specs.Code.{nothing}
use Rattle.gen_stmt.specs.Statements.{value}
use Rattle.stmt_follows.specs.Expressions.{ValueRuns}
use Rattle.stmt_follows.specs.Parts.{StmtPart}
use Rattle.stmt_follows.specs.Laws.Conditions.{and_then-apart, Proceeds-value}
use Rattle.stmt_follows.specs.Laws.Flowing.{Proceeds-next, StmtPart-by}
use Rattle.stmt_follows.specs.Laws.Proceeding.{Proceeds-same, Here-less}
use Rattle.stmt_follows.specs.Laws.Standing.{Standing-none}

pub expression_follows : {k : Scene} → IsScene k → (parts : StmtParts) (e : TExpr) → ValueRuns k (parts.expr k.here) e →
    StmtPart k (λ around. value (structs_in k) (frame_in k) e) (stmt_node parts k.here (TStmt-F.Expr e))
expression_follows {k} scene parts e runs = StmtPart-by (λ around Leaving from to stands a now s on.
    Proceeds-same (and_then-apart (value_of (parts.expr k.here) e) (λ v. gives tt) (λ x. gives Next) now)
    (Proceeds-value scene parts e runs stands.lies on (λ v then u n came is. Proceeds-next (Here-less 0 (omega arith) came))))

pub empty_follows : {k : Scene} (parts : StmtParts) → StmtPart k (λ around. nothing) (stmt_node parts k.here TStmt-F.Empty)
empty_follows parts = StmtPart-by (λ around Leaving from to stands a now s on.
    Proceeds-next (On-at (Standing-none stands) on))
