use Rattle.c_types.proofs.RecallLaws.{stands}
use Rattle.c_types.proofs.redeclared.may_stand.Goals as goal

pub returns : goal.returns
returns c = λ ds recalls. stands c.args.names.now c.args.d.now c.args.earlier.now ds _ c.agrees.ensures recalls
