use Rattle.mean_expressions.proofs.Waiting.{as-place}
use Rattle.mean_expressions.proofs.places.place_given.Goals as goal

pub returns-in-Stepped : goal.returns-in-Stepped
returns-in-Stepped c = λ w here k now of_here stacked of_now.
    as-place k c.args.p c.in-Stepped.is (c.step_given.ensures w here k c.args.stack.now.items now of_here stacked of_now)

pub returns-in-MemberRead : goal.returns-in-MemberRead
returns-in-MemberRead c = λ w here k now of_here stacked of_now.
    as-place k c.args.p c.in-MemberRead.is (c.member_read.ensures w here k c.args.stack.now.items now of_here stacked of_now)
