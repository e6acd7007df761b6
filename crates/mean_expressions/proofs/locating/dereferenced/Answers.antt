use Rattle.std.proofs.Common.{sym, subst}
use Rattle.c_type_base.specs.declared.expr.TNode.TheOpen.{TNode-F}
use Rattle.mean_machine.specs.Evaluation.{locate}
use Rattle.mean_expressions.specs.Laws.Standing.{stands-free}
use Rattle.mean_expressions.specs.Stacked.{Stands}
use Rattle.mean_expressions.proofs.locating.dereferenced.Goals as goal

pub returns-in-Dereference : goal.returns-in-Dereference
returns-in-Dereference c = λ n w here k e now stacked of_now.
    subst (λ o. Stands n c.operand_first.new.stack.items w here now c.operand_first.result
    (locate here k e (TNode-F.Unary o c.args.a.now) now))
    (sym c.in-Dereference.is) (c.operand_first.ensures n w here k now stacked of_now)

pub returns-in_default : goal.returns-in_default
returns-in_default c = λ n w here k e now stacked of_now. stands-free n c.args.stack.now.items w here now _
