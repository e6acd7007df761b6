use Rattle.std.specs.List.{All}
use Rattle.tag_pages.specs.Parts.{extents, IsPart}
use Rattle.tag_pages.proofs.table.table_of.Given as goal

-- what was entered is a part
abbrev pub invariant-loop-place : goal.invariant-loop-place
invariant-loop-place l = All (IsPart (extents l.regions) l.numbers) l.parts.items
