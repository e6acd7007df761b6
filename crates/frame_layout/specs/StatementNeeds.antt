-- How many words for values in between a function needs: the most of its expressions and initialisers.
use Rattle.std.specs.Prelude.{ℕ, max, List, [], ◌∷◌, map, Option, Some, None}
use Rattle.c_type_base.specs.declared.expr.TExpr.{TExpr}
use Rattle.c_type_base.specs.declared.statement.TInit.{TInit}
use Rattle.c_type_base.specs.declared.statement.TInit.TheOpen.{TInit-F}
use Rattle.c_type_base.specs.declared.statement.TInit.TheFolds.{fold-TInit}
use Rattle.c_type_base.specs.declared.statement.TDecl.{TDecl}
use Rattle.c_type_base.specs.declared.statement.TItem.{TItem}
use Rattle.c_type_base.specs.declared.statement.TStmt.{TStmt}
use Rattle.c_type_base.specs.declared.statement.TItem.TheOpen.{TItem-F, TStmt-F}
use Rattle.c_type_base.specs.declared.statement.TItem.TheFolds.{fold-TItem, fold-TStmt}
use Rattle.frame_layout.specs.Needs.{need}

abbrev pub most : List ℕ → ℕ
most [] = 0
most (n ∷ ns) = max n (most ns)

abbrev pub maybe_need : Option TExpr → ℕ
maybe_need None = 0
maybe_need (Some e) = need e

abbrev pub init_step : TInit-F ℕ → ℕ
init_step (TInit-F.One e) = need e
init_step (TInit-F.List is span) = most is

abbrev pub init_need : TInit → ℕ
init_need = fold-TInit ℕ init_step

abbrev pub maybe_init_need : Option TInit → ℕ
maybe_init_need None = 0
maybe_init_need (Some i) = init_need i

abbrev pub decl_need : TDecl → ℕ
decl_need d = maybe_init_need d.init

abbrev pub item_step : TItem-F ℕ ℕ → ℕ
item_step (TItem-F.Local ds) = most (map decl_need ds)
item_step (TItem-F.Stmt s) = s

abbrev pub stmt_step : TStmt-F ℕ ℕ → ℕ
stmt_step (TStmt-F.Block is) = most is
stmt_step (TStmt-F.Expr e) = need e
stmt_step TStmt-F.Empty = 0
stmt_step (TStmt-F.If e s None) = max (need e) s
stmt_step (TStmt-F.If e s (Some o)) = max (need e) (max s o)
stmt_step (TStmt-F.While e s) = max (need e) s
stmt_step (TStmt-F.DoWhile s e) = max s (need e)
stmt_step (TStmt-F.For ds a c n s) =
    max (max (most (map decl_need ds)) (maybe_need a)) (max (max (maybe_need c) (maybe_need n)) s)
stmt_step (TStmt-F.Return e span) = maybe_need e
stmt_step (TStmt-F.Break span) = 0
stmt_step (TStmt-F.Continue span) = 0

-- the words that a statement needs
abbrev pub stmt_need : TStmt → ℕ
stmt_need = fold-TStmt ℕ ℕ item_step stmt_step

abbrev pub item_need : TItem → ℕ
item_need = fold-TItem ℕ ℕ item_step stmt_step
