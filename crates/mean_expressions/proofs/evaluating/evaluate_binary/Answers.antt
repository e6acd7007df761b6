use Rattle.std.proofs.Common.{sym, ap}
use Rattle.mean_machine.specs.Evaluation.{evaluate_binary}
use Rattle.mean_expressions.proofs.Alike.{machine-is}
use Rattle.mean_expressions.proofs.First.{plain_binary}
use Rattle.mean_expressions.proofs.evaluating.evaluate_binary.Goals as goal

pub returns-in-And : goal.returns-in-And
returns-in-And c = λ n w here k now stacked of_now.
    machine-is (ap (λ o. evaluate_binary here k c.args.span o c.args.a.now c.args.b.now now) (sym c.in-And.is))
    (c.operand_first.ensures n w here k now stacked of_now)

pub returns-in-Or : goal.returns-in-Or
returns-in-Or c = λ n w here k now stacked of_now.
    machine-is (ap (λ o. evaluate_binary here k c.args.span o c.args.a.now c.args.b.now now) (sym c.in-Or.is))
    (c.operand_first-in-Or.ensures n w here k now stacked of_now)

pub returns-in_default : goal.returns-in_default
returns-in_default c = λ n w here k now stacked of_now.
    machine-is (sym (plain_binary here k c.args.span c.args.operator c.args.a.now c.args.b.now now c.in_default.not-And
    c.in_default.not-Or))
    (c.operand_first-in_default.ensures n w here k now stacked of_now)
