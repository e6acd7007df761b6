use Rattle.std.proofs.Common.{rules, arith}
use Rattle.std.proofs.lemmas.Grind.{common_steps}
use Rattle.c_ast.specs.Words.{punctuator_of}
use Rattle.c_ast.proofs.punctuator.punctuator_of.Goals as goal

pub returns : goal.returns
unfolding punctuator_of
returns c = first_of (search rules, grind (arith, common_steps))
