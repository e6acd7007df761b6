use Rattle.std.proofs.Common.{◌≡◌, map, drop}
use Rattle.mean_link.specs.Names as spec
use Rattle.unit_object.specs.Order.{each_once}
use Rattle.unit_object.proofs.names.add_decls.Given as goal

-- those that are left follow
abbrev pub invariant-loop-d : goal.invariant-loop-d
invariant-loop-d l =
    each_once l.names (map spec.name_of (drop l.d-index l.decls)) ≡ each_once l.initial.names (map spec.name_of l.decls)
