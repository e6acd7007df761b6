use Rattle.std.proofs.Common.{◌≡◌, [], take}
use Rattle.std.specs.Prelude.{flat_map}
use Rattle.mean_link.specs.Names as spec
use Rattle.unit_object.specs.Order.{each_once}
use Rattle.unit_object.proofs.names.names_of.Given as goal

-- the names are those of the parts passed
abbrev pub invariant-loop-part : goal.invariant-loop-part
invariant-loop-part l = l.names ≡ each_once [] (flat_map spec.declared_by (take l.part-index l.parts))
