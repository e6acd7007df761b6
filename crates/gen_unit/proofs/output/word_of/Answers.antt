use Rattle.std.proofs.Common.{refl}
use Rattle.gen_unit.proofs.output.word_of.Goals as goal

pub returns-in-Some : goal.returns-in-Some
returns-in-Some c = (c.in-Some.ensures.row c.in-Some.word).0 refl
