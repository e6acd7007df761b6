use Rattle.std.proofs.Common.{sym, subst, ◌≡◌}
use Rattle.c_type_base.specs.Layout.{LaidOut}
use Rattle.gen_unit.proofs.Functions.{needs_few}
use Rattle.gen_unit.proofs.function.frame_of.Goals as goal

pub layout-requires-clause-laid_out : goal.layout-requires-clause-laid_out
layout-requires-clause-laid_out c = subst LaidOut (sym c.as_slice.ensures) c.requires.laid_out

pub returns-in-Ok-clause-need : goal.returns-in-Ok-clause-need
returns-in-Ok-clause-need c =
    let same : c.as_slice.result.now ≡ c.args.typed.now.structs = c.as_slice.ensures in
    needs_few c.as_slice.result.now c.args.function.now (subst LaidOut (sym same) c.requires.laid_out) c.in-Ok.ensures.laid.small
