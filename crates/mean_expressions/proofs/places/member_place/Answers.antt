use Rattle.std.proofs.Common.{refl}
use Rattle.std.specs.Option.{option_copied}
use Rattle.block_meaning.specs.Expressions.{member_of}
use Rattle.mean_machine.specs.Going.{by, place}
use Rattle.mean_expressions.specs.Laws.Standing.{stands-then, stands-stop, stands-spent, stands-place}
use Rattle.mean_expressions.proofs.places.member_place.Goals as goal

pub returns-in-Ok-member_of : goal.returns-in-Ok-member_of
returns-in-Ok-member_of c = λ w here k frames now of_here stacked of_now.
    let run = member_of here (option_copied c.args.ty) c.args.member c.args.p in
    stands-spent (by run (place here k)) c.in-Ok.is (c.spend.ensures now of_now) (λ after shown.
    stands-then (run after) (place here k) c.in-Ok-member_of.is (c.member_of.ensures here c.spend.new.n after of_here shown)
    (λ last shown'. stands-place refl stacked shown'))

pub returns-in-Err-member_of : goal.returns-in-Err-member_of
returns-in-Err-member_of c = λ w here k frames now of_here stacked of_now.
    let run = member_of here (option_copied c.args.ty) c.args.member c.args.p in
    stands-spent (by run (place here k)) c.in-Ok.is (c.spend.ensures now of_now) (λ after shown.
    stands-stop (run after) (place here k) c.in-Err-member_of.is (c.member_of.ensures here c.spend.new.n after of_here shown))
