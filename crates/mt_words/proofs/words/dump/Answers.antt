use Rattle.std.proofs.Common.{refl}
use Rattle.mt_words.specs.Asks.{dump}
use Rattle.mt_words.proofs.Table.{no_dump}
use Rattle.mt_words.proofs.words.dump.Goals as goal

pub returns-in-Some : goal.returns-in-Some
returns-in-Some c =
    let found = c.in-Some.ensures.some in
    record { some = dump c.in-Some.file.now refl found.0 found.1; none = tt }

pub returns-in-None : goal.returns-in-None
returns-in-None c = record { some = tt; none = no_dump _ _ c.in-None.ensures.none }
