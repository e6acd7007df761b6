use Rattle.std.proofs.Common.{refl}
use Rattle.block_meaning.specs.Memory.{object, read}
use Rattle.mean_machine.specs.Going.{value}
use Rattle.mean_expressions.specs.Laws.Standing.{stands-then, stands-stop, stands-value}
use Rattle.mean_expressions.proofs.places.read_at.Goals as goal

pub returns-in-Ok : goal.returns-in-Ok
returns-in-Ok c = λ w here k frames now of_here stacked of_now.
    let s = c.args.selected in
    stands-then (read here s.around (object s.ty.now c.args.q) now) (value here k) c.in-Ok.is (c.read.ensures here now of_here of_now)
    (λ after shown. stands-value refl stacked shown)

pub returns-in-Err : goal.returns-in-Err
returns-in-Err c = λ w here k frames now of_here stacked of_now.
    let s = c.args.selected in
    stands-stop (read here s.around (object s.ty.now c.args.q) now) (value here k) c.in-Err.is (c.read.ensures here now of_here of_now)
