use Rattle.std.proofs.Common.{◌≡◌, flat_map, take}
use Rattle.std.specs.List.{filter}
use Rattle.mean_link.specs.Names.{is_among, declared_by}
use Rattle.mean_link.proofs.names.declared.Given as goal

-- the known names of the parts passed are there
abbrev pub invariant-loop-part : goal.invariant-loop-part
invariant-loop-part l = l.names ≡ filter (is_among l.known) (flat_map declared_by (take l.part-index l.parts))
