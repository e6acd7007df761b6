use Rattle.std.proofs.Common.{flat_map, take}
use Rattle.mean_link.specs.Laws.NameLaws.{Adds}
use Rattle.mean_link.specs.Names.{object_name}
use Rattle.mean_link.proofs.names.add_objects.Given as goal

-- the names of those passed are added
abbrev pub invariant-loop-global : goal.invariant-loop-global
invariant-loop-global l = Adds l.initial.known l.known (flat_map object_name (take l.global-index l.globals))
