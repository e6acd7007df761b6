-- Statements of which each expression passes a test (this project's own).
use Rattle.std.specs.Prelude.{Bool, true, ◌&&◌, List, [], ◌∷◌, Option, Some, None}
use Rattle.c_type_base.specs.declared.expr.TExpr.{TExpr}
use Rattle.c_type_base.specs.declared.statement.TDecl.{TDecl}
use Rattle.c_type_base.specs.declared.statement.TInit.{TInit}
use Rattle.c_type_base.specs.declared.statement.TInit.TheFolds.{fold-TInit}
use Rattle.c_type_base.specs.declared.statement.TInit.TheOpen.{TInit-F}
use Rattle.c_type_base.specs.declared.statement.TItem.{TItem, map-TItem}
use Rattle.c_type_base.specs.declared.statement.TItem.TheFolds.{fold-TItem, fold-TStmt}
use Rattle.c_type_base.specs.declared.statement.TItem.TheOpen.{TItem-F, TStmt-F}
use Rattle.c_type_base.specs.declared.statement.TStmt.{TStmt, map-TStmt}
use Rattle.block_meaning.specs.Statements.{StmtLayer, ItemLayer}

abbrev pub all_pass : List Bool → Bool
all_pass [] = true
all_pass (b ∷ bs) = b && all_pass bs

-- if it is there
abbrev pub passes_if : {A : Type 0} → (A → Bool) → Option A → Bool
passes_if test None = true
passes_if test (Some a) = test a

abbrev pub part_passes : Option Bool → Bool
part_passes None = true
part_passes (Some b) = b

module _ (test : TExpr → Bool) where
  abbrev pub init_passes : TInit-F Bool → Bool
  init_passes (TInit-F.One e) = test e
  init_passes (TInit-F.List is span) = all_pass is

  -- each expression of an initialiser
  abbrev pub each_in_init : TInit → Bool
  each_in_init = fold-TInit Bool init_passes

  abbrev pub each_in_decl : TDecl → Bool
  each_in_decl d = passes_if each_in_init d.init

  abbrev pub each_in_decls : List TDecl → Bool
  each_in_decls [] = true
  each_in_decls (d ∷ ds) = each_in_decl d && each_in_decls ds

  abbrev pub stmt_passes : TStmt-F Bool Bool → Bool
  stmt_passes (TStmt-F.Block is) = all_pass is
  stmt_passes (TStmt-F.Expr e) = test e
  stmt_passes TStmt-F.Empty = true
  stmt_passes (TStmt-F.If c s o) = test c && (s && part_passes o)
  stmt_passes (TStmt-F.While c s) = test c && s
  stmt_passes (TStmt-F.DoWhile s c) = s && test c
  stmt_passes (TStmt-F.For ds first c next s) =
      each_in_decls ds && (passes_if test first && (passes_if test c && (passes_if test next && s)))
  stmt_passes (TStmt-F.Return e span) = passes_if test e
  stmt_passes (TStmt-F.Break span) = true
  stmt_passes (TStmt-F.Continue span) = true

  abbrev pub item_passes : TItem-F Bool Bool → Bool
  item_passes (TItem-F.Local ds) = each_in_decls ds
  item_passes (TItem-F.Stmt s) = s

  -- each expression of a statement
  abbrev pub each_in : TStmt → Bool
  each_in = fold-TStmt Bool Bool item_passes stmt_passes

  abbrev pub each_in_item : TItem → Bool
  each_in_item = fold-TItem Bool Bool item_passes stmt_passes

  abbrev pub each_in_layer : StmtLayer → Bool
  each_in_layer l = stmt_passes (map-TStmt TItem TStmt Bool Bool each_in_item each_in l)

  abbrev pub each_in_item_layer : ItemLayer → Bool
  each_in_item_layer l = item_passes (map-TItem TItem TStmt Bool Bool each_in_item each_in l)
