use Rattle.std.proofs.Common.{refl}
use Rattle.mean_machine.specs.Execution.{struct_filled}
use Rattle.mean_machine.specs.Going.{finished}
use Rattle.mean_expressions.specs.Laws.Standing.{stands-then, stands-stop, stands-at}
use Rattle.mean_effects.specs.Objects.{object_of}
use Rattle.mean_control.proofs.values.struct_given.Goals as goal

pub returns-in-Ok : goal.returns-in-Ok
returns-in-Ok c = λ w here k frames now of_here stacked of_now.
    stands-then (struct_filled here (object_of c.args.o) c.args.e.now c.args.v now) (finished here k) c.in-Ok.is
    (c.struct_copied.ensures here now of_here of_now) (λ after shown. stands-at k refl stacked shown)

pub returns-in-Err : goal.returns-in-Err
returns-in-Err c = λ w here k frames now of_here stacked of_now.
    stands-stop (struct_filled here (object_of c.args.o) c.args.e.now c.args.v now) (finished here k) c.in-Err.is
    (c.struct_copied.ensures here now of_here of_now)
