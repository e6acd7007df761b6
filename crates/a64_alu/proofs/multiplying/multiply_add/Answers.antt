use Rattle.std.proofs.Common.{◌∙◌}
use Rattle.a64_alu.proofs.Narrow.{multiply_add_is}
use Rattle.a64_alu.proofs.multiplying.multiply_add.Goals as goal

pub returns-clause-value : goal.returns-clause-value
returns-clause-value c = c.of_width.ensures.value ∙ multiply_add_is c.args.wide c.args.x c.args.y c.args.a
