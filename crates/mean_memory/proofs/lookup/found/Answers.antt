use Rattle.std.proofs.Common.{◌∙◌}
use Rattle.mean_memory.specs.Laws.Slots.{stands_found}
use Rattle.mean_memory.proofs.lookup.found.Goals as goal

pub returns-in-Some : goal.returns-in-Some
returns-in-Some c =
    λ apart. c.at.ensures ∙ stands_found c.args.slots.now c.args.number c.in-Some.index c.in-Some.ensures apart
