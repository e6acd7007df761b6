use Rattle.std.proofs.Common.{◌≡◌, drop}
use Rattle.std.specs.List.{list_any}
use Rattle.frame_layout.specs.WellFormed.{is_tagged_slot}
use Rattle.gen_stmt.proofs.scopes.any_tagged.Given as goal

-- one is tagged if one of those is that are left
abbrev pub invariant-loop-slot : goal.invariant-loop-slot
invariant-loop-slot l = list_any is_tagged_slot (drop l.slot-index l.slots) ≡ list_any is_tagged_slot l.slots
