use Rattle.std.proofs.Common.{sym}
use Rattle.c_type_stmt.specs.Declarations.{local}
use Rattle.c_type_expr.specs.Laws.EachLaws.{as_known, walked_next}
use Rattle.c_type_stmt.proofs.statements.locals.Goals as goal

pub loop-d-preserved : goal.loop-d-preserved
loop-d-preserved c =
    as_known _ _ _ _ _ (sym c.in_ok-declared.ensures)
    (walked_next local c.args.decls.now c.loop-d.d-index c.d-item.result _ _ _ _ _ c.loop-d-test.true c.loop-d.invariant
    (rw (← c.d-item.is) c.in_ok-known.ensures))
