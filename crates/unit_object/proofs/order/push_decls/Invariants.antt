use Rattle.std.proofs.Common.{◌≡◌, ◌++◌, map, drop}
use Rattle.mean_link.specs.Names.{name_of}
use Rattle.unit_object.specs.Numbered as spec
use Rattle.unit_object.proofs.order.push_decls.Given as goal

-- the numbers of those that are left follow
abbrev pub invariant-loop-d : goal.invariant-loop-d
invariant-loop-d l =
    l.numbers.items ++ spec.numbers_by l.filled l.globals l.names (map name_of (drop l.d-index l.decls))
    ≡ l.initial.numbers.items ++ spec.numbers_by l.filled l.globals l.names (map name_of l.decls)
