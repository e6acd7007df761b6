use Rattle.std.proofs.Common.{rules}
use Rattle.c_ast.proofs.Numbered.{punctuator-found}
use Rattle.c_ast.proofs.punctuator.Punctuator.from_number.Goals as goal

pub returns-clause-some : goal.returns-clause-some
returns-clause-some c = let found = punctuator-found c.from.result c.get.result c.get.ensures.lookup in search rules
