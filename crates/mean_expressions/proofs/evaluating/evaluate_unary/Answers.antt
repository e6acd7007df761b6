use Rattle.std.proofs.Common.{sym, ap}
use Rattle.mean_machine.specs.Evaluation.{evaluate_unary}
use Rattle.mean_expressions.specs.Laws.Standing.{stands-free}
use Rattle.mean_expressions.proofs.Alike.{machine-is}
use Rattle.mean_expressions.proofs.First.{plain_unary}
use Rattle.mean_expressions.proofs.evaluating.evaluate_unary.Goals as goal

pub returns-in-AddressOf : goal.returns-in-AddressOf
returns-in-AddressOf c = λ n w here k now stacked of_now.
    machine-is (ap (λ o. evaluate_unary here k o c.args.e.now now) (sym c.in-AddressOf.is))
    (c.place_first.ensures n w here k now stacked of_now)

pub returns-in-Dereference : goal.returns-in-Dereference
returns-in-Dereference c = λ n w here k now stacked of_now.
    stands-free n c.args.stack.now.items w here now _

pub returns-in_default : goal.returns-in_default
returns-in_default c = λ n w here k now stacked of_now.
    machine-is (sym (plain_unary here k c.args.operator c.args.e.now now c.in_default.not-AddressOf c.in_default.not-Dereference))
    (c.operand_first.ensures n w here k now stacked of_now)
