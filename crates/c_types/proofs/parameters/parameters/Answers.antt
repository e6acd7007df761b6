use Rattle.std.proofs.Common.{sym}
use Rattle.c_type_expr.specs.Laws.EachLaws.{as_known, walked_next}
use Rattle.c_types.specs.Functions.{parameter}
use Rattle.c_types.proofs.parameters.parameters.Goals as goal

pub loop-d-preserved : goal.loop-d-preserved
loop-d-preserved c =
    as_known _ _ _ _ _ (sym c.in_ok-types.ensures)
    (walked_next (parameter c.args.defines) c.args.decls.now c.loop-d.d-index c.d-item.result _ _ _ _ _ c.loop-d-test.true
    c.loop-d.invariant (rw (← c.d-item.is) c.in_ok-known.ensures))
