use Rattle.c_type_stmt.specs.Declarations.{declared_type}
use Rattle.c_types.specs.Laws.StandingLaws.{passed}
use Rattle.c_types.proofs.objects.object_type.Goals as goal

pub returns : goal.returns
returns c =
    passed (declared_type c.args.d.now) c.args.walk.now c.declared_type.new.walk c.leave.new.walk c.in_ok-t.t c.in_ok-t.ensures
    c.leave.ensures
