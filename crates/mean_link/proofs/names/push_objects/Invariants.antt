use Rattle.std.proofs.Common.{◌≡◌, ◌++◌, map, take}
use Rattle.std.specs.List.{filter}
use Rattle.mean_link.specs.Names.{is_among, name_of}
use Rattle.mean_link.proofs.names.push_objects.Given as goal

-- the known names of those passed are there
abbrev pub invariant-loop-d : goal.invariant-loop-d
invariant-loop-d l = l.names ≡ l.initial.names ++ filter (is_among l.known) (map name_of (take l.d-index l.decls))
