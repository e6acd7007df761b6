use Rattle.std.proofs.Common.{refl}
use Rattle.block_meaning.specs.Memory.{object, read}
use Rattle.mean_machine.specs.Going.{value}
use Rattle.mean_expressions.specs.Laws.Standing.{stands-then, stands-stop, stands-value}
use Rattle.mean_expressions.proofs.places.read_given.Goals as goal

pub returns-in-Ok : goal.returns-in-Ok
returns-in-Ok c = λ w here k frames now of_here stacked of_now.
    let e = c.args.e.now in
    stands-then (read here e.span (object e.ty c.args.p) now) (value here k) c.in-Ok.is (c.read.ensures here now of_here of_now)
    (λ after shown. stands-value refl stacked shown)

pub returns-in-Err : goal.returns-in-Err
returns-in-Err c = λ w here k frames now of_here stacked of_now.
    let e = c.args.e.now in
    stands-stop (read here e.span (object e.ty c.args.p) now) (value here k) c.in-Err.is (c.read.ensures here now of_here of_now)
