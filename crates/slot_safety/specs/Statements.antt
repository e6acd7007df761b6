-- The locals with an occurrence in a statement that is not harmless: those of its expressions and initialisers. A declaration's own
-- initialiser is no occurrence of what it declares.
use Rattle.std.specs.Prelude.{ℕ, ◌++◌, List, [], flat_map, map, Option, Some, None}
use Rattle.c_type_base.specs.declared.expr.TExpr.{TExpr}
use Rattle.c_type_base.specs.declared.statement.TInit.{TInit}
use Rattle.c_type_base.specs.declared.statement.TInit.TheOpen.{TInit-F}
use Rattle.c_type_base.specs.declared.statement.TInit.TheFolds.{fold-TInit}
use Rattle.c_type_base.specs.declared.statement.TDecl.{TDecl}
use Rattle.c_type_base.specs.declared.statement.TItem.{TItem}
use Rattle.c_type_base.specs.declared.statement.TStmt.{TStmt}
use Rattle.c_type_base.specs.declared.statement.TItem.TheOpen.{TItem-F, TStmt-F}
use Rattle.c_type_base.specs.declared.statement.TItem.TheFolds.{fold-TItem, fold-TStmt}
use Rattle.c_type_base.specs.declared.typed.StructInfo.{StructInfo}
use Rattle.slot_safety.specs.Occurrences.{harmed_in}

-- all of some lists, in order
abbrev pub joined : List (List ℕ) → List ℕ
joined = flat_map (λ ks. ks)

abbrev pub init_step : List StructInfo → TInit-F (List ℕ) → List ℕ
init_step structs (TInit-F.One e) = harmed_in structs e
init_step structs (TInit-F.List is span) = joined is

abbrev pub init_harms : List StructInfo → TInit → List ℕ
init_harms structs = fold-TInit (List ℕ) (init_step structs)

abbrev pub maybe_init_harms : List StructInfo → Option TInit → List ℕ
maybe_init_harms structs None = []
maybe_init_harms structs (Some i) = init_harms structs i

abbrev pub decl_harms : List StructInfo → TDecl → List ℕ
decl_harms structs d = maybe_init_harms structs d.init

abbrev pub maybe_harms : List StructInfo → Option TExpr → List ℕ
maybe_harms structs None = []
maybe_harms structs (Some e) = harmed_in structs e

abbrev pub item_step : List StructInfo → TItem-F (List ℕ) (List ℕ) → List ℕ
item_step structs (TItem-F.Local ds) = joined (map (decl_harms structs) ds)
item_step structs (TItem-F.Stmt s) = s

abbrev pub stmt_step : List StructInfo → TStmt-F (List ℕ) (List ℕ) → List ℕ
stmt_step structs (TStmt-F.Block is) = joined is
stmt_step structs (TStmt-F.Expr e) = harmed_in structs e
stmt_step structs TStmt-F.Empty = []
stmt_step structs (TStmt-F.If e s None) = harmed_in structs e ++ s
stmt_step structs (TStmt-F.If e s (Some o)) = harmed_in structs e ++ (s ++ o)
stmt_step structs (TStmt-F.While e s) = harmed_in structs e ++ s
stmt_step structs (TStmt-F.DoWhile s e) = s ++ harmed_in structs e
stmt_step structs (TStmt-F.For ds a c n s) =
    joined (map (decl_harms structs) ds)
    ++ (maybe_harms structs a ++ (maybe_harms structs c ++ (maybe_harms structs n ++ s)))
stmt_step structs (TStmt-F.Return e span) = maybe_harms structs e
stmt_step structs (TStmt-F.Break span) = []
stmt_step structs (TStmt-F.Continue span) = []

abbrev pub stmt_harms : List StructInfo → TStmt → List ℕ
stmt_harms structs = fold-TStmt (List ℕ) (List ℕ) (item_step structs) (stmt_step structs)

abbrev pub item_harms : List StructInfo → TItem → List ℕ
item_harms structs = fold-TItem (List ℕ) (List ℕ) (item_step structs) (stmt_step structs)
