use Rattle.std.proofs.Common.{◌-◌}
use Rattle.std.specs.List.{All}
use Rattle.tag_pages.specs.Parts.{extents, IsPart}
use Rattle.tag_pages.proofs.table.enter_region.Given as goal

-- what was entered is a part
abbrev pub invariant-loop-done : goal.invariant-loop-done
invariant-loop-done l = All (IsPart (extents l.regions) l.numbers) l.parts

abbrev pub decreases-loop-done : goal.decreases-loop-done
decreases-loop-done l = l.region.bytes - l.done
