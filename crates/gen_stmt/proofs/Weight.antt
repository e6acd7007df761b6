-- How much there is of a statement: the measure of the functions that walk over it.
use Rattle.std.proofs.Common.{ℕ, ◌+◌, sum, Some, None}
use Rattle.c_type_base.specs.declared.statement.TItem.{TItem}
use Rattle.c_type_base.specs.declared.statement.TStmt.{TStmt}
use Rattle.c_type_base.specs.declared.statement.TItem.TheOpen.{TItem-F, TStmt-F}
use Rattle.c_type_base.specs.declared.statement.TItem.TheFolds.{fold-TItem, fold-TStmt}

abbrev pub item_layer : TItem-F ℕ ℕ → ℕ
item_layer (TItem-F.Local ds) = 1
item_layer (TItem-F.Stmt s) = s + 1

abbrev pub stmt_layer : TStmt-F ℕ ℕ → ℕ
stmt_layer (TStmt-F.Block is) = sum is + 1
stmt_layer (TStmt-F.Expr e) = 1
stmt_layer TStmt-F.Empty = 1
stmt_layer (TStmt-F.If e s None) = s + 1
stmt_layer (TStmt-F.If e s (Some o)) = s + o + 1
stmt_layer (TStmt-F.While e s) = s + 1
stmt_layer (TStmt-F.DoWhile s e) = s + 1
stmt_layer (TStmt-F.For ds a c n s) = s + 1
stmt_layer (TStmt-F.Return e span) = 1
stmt_layer (TStmt-F.Break span) = 1
stmt_layer (TStmt-F.Continue span) = 1

abbrev pub stmt_weight : TStmt → ℕ
stmt_weight = fold-TStmt ℕ ℕ item_layer stmt_layer

abbrev pub item_weight : TItem → ℕ
item_weight = fold-TItem ℕ ℕ item_layer stmt_layer
