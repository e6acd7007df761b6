use Rattle.block_meaning.specs.Memory.{structs_at}
use Rattle.mean_effects.proofs.writing.writing.Goals as goal

pub returns-in-Some-clause-is : goal.returns-in-Some-clause-is
returns-in-Some-clause-is c = λ here of_here. c.access_of.ensures.is here of_here (c.in-Some.ensures.is (structs_at here))
