use Rattle.std.proofs.Common.{true}
use Rattle.c_type_stmt.specs.Declarations.{init_of, initialised}
use Rattle.c_types.specs.Laws.StandingLaws.{passed}
use Rattle.c_types.proofs.objects.object_init.Goals as goal

pub returns : goal.returns
returns c =
    passed (initialised true c.args.t.now (init_of c.args.d.now)) c.args.walk.now c.initialised.new.walk c.leave.new.walk
    c.in_ok-init.init (rw (c.as_ref.ensures.value, c.as_ref-2.ensures.value) at c.in_ok-init.ensures) c.leave.ensures
