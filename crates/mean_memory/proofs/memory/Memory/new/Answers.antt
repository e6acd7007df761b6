use Rattle.std.proofs.Common.{refl}
use Rattle.mean_memory.specs.Laws.Holding.{holds_none, holds_as}
use Rattle.mean_memory.proofs.memory.Memory.new.Goals as goal

pub returns : goal.returns
returns c = holds_as c.new.ensures.items refl holds_none
