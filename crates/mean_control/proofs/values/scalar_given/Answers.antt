use Rattle.std.proofs.Common.{refl}
use Rattle.block_meaning.specs.Memory.{write}
use Rattle.mean_machine.specs.Going.{finished}
use Rattle.mean_expressions.specs.Laws.Standing.{stands-then, stands-stop, stands-at}
use Rattle.mean_effects.specs.Objects.{object_of}
use Rattle.mean_control.proofs.values.scalar_given.Goals as goal

pub returns-in-Ok : goal.returns-in-Ok
returns-in-Ok c = λ w here k frames now of_here stacked of_now.
    stands-then (write here c.args.e.now.span (object_of c.args.o) c.args.v now) (finished here k) c.in-Ok.is
    (c.write.ensures here now of_here of_now) (λ after shown. stands-at k refl stacked shown)

pub returns-in-Err : goal.returns-in-Err
returns-in-Err c = λ w here k frames now of_here stacked of_now.
    stands-stop (write here c.args.e.now.span (object_of c.args.o) c.args.v now) (finished here k) c.in-Err.is
    (c.write.ensures here now of_here of_now)
