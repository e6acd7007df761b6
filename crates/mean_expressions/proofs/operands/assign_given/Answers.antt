use Rattle.std.proofs.Common.{refl}
use Rattle.block_meaning.specs.Expressions.{assign_effect}
use Rattle.mean_machine.specs.Evaluation.{bare_site}
use Rattle.mean_machine.specs.Going.{by, value}
use Rattle.mean_expressions.specs.Laws.Standing.{stands-then, stands-stop, stands-spent, stands-unspent, stands-value}
use Rattle.mean_expressions.proofs.operands.assign_given.Goals as goal

pub returns-in-Ok-assign_effect : goal.returns-in-Ok-assign_effect
returns-in-Ok-assign_effect c = λ w here k frames now of_here stacked of_now.
    let a = c.args.a in
    let run = assign_effect (bare_site here a.span a.left.now.ty) a.operator a.left.now a.right.now a.at c.args.v in
    stands-spent (by run (value here k)) c.in-Ok.is (c.spend.ensures now of_now) (λ after shown.
    stands-then (run after) (value here k) c.in-Ok-assign_effect.is (c.assign_effect.ensures here after of_here shown) (λ last shown'.
    stands-value refl stacked shown'))

pub returns-in-Err-assign_effect : goal.returns-in-Err-assign_effect
returns-in-Err-assign_effect c = λ w here k frames now of_here stacked of_now.
    let a = c.args.a in
    let run = assign_effect (bare_site here a.span a.left.now.ty) a.operator a.left.now a.right.now a.at c.args.v in
    stands-spent (by run (value here k)) c.in-Ok.is (c.spend.ensures now of_now) (λ after shown.
    stands-stop (run after) (value here k) c.in-Err-assign_effect.is (c.assign_effect.ensures here after of_here shown))

pub returns-in-Err : goal.returns-in-Err
returns-in-Err c = λ w here k frames now of_here stacked of_now.
    let a = c.args.a in
    let run = assign_effect (bare_site here a.span a.left.now.ty) a.operator a.left.now a.right.now a.at c.args.v in
    stands-unspent (by run (value here k)) c.in-Err.is (c.spend.ensures now of_now)
