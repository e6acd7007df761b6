-- What is said of a function's body: each expression in it that is plain is covered (this project's own).
use Rattle.std.specs.Prelude.{Bool, not, ◌||◌}
use Rattle.c_type_base.specs.declared.expr.TExpr.{TExpr}
use Rattle.c_type_base.specs.declared.statement.TStmt.{TStmt}
use Rattle.code_follows.specs.Covered.{covered}
use Rattle.well_typed_covered.specs.Everywhere.{each_in}
use Rattle.well_typed_covered.specs.Plain.{is_plain}

abbrev pub covered_if_plain : TExpr → Bool
covered_if_plain e = not (is_plain e) || covered e

abbrev pub all_covered_in : TStmt → Bool
all_covered_in = each_in covered_if_plain
