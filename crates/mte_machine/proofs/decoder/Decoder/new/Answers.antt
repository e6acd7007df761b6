use Rattle.std.proofs.lemmas.List.Elements.{All-replicate}
use Rattle.mte_machine.specs.Decoded.{IsDecoded}
use Rattle.mte_machine.proofs.decoder.Decoder.new.Goals as goal

pub invariant_of-result : goal.invariant_of-result
invariant_of-result c = record { decoded = All-replicate IsDecoded 256 c.of-zero.result c.of-zero.ensures.decoded }
