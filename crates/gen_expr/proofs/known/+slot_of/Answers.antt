use Rattle.gen_expr.proofs.Operands.{slot-paren}
use Rattle.gen_expr.proofs.known.+slot_of.Goals as goal

pub returns-in-Paren-clause-is : goal.returns-in-Paren-clause-is
returns-in-Paren-clause-is t c =
    slot-paren c.args.expr.now c.in-Paren.inner _ c.get.ensures c.slot_of.result c.args.frame.now c.in-Paren.is c.slot_of.ensures.is
