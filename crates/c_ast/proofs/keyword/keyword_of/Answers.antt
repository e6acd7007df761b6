use Rattle.std.proofs.Common.{rules, arith}
use Rattle.std.proofs.lemmas.Grind.{common_steps}
use Rattle.c_ast.specs.Words.{keyword_of}
use Rattle.c_ast.proofs.keyword.keyword_of.Goals as goal

pub returns : goal.returns
unfolding keyword_of
returns c = first_of (search rules, grind (arith, common_steps))
