use Rattle.std.proofs.Common.{◌≡◌, ◌++◌, drop}
use Rattle.std.specs.Prelude.{flat_map}
use Rattle.unit_object.specs.Numbered as spec
use Rattle.unit_object.proofs.order.push_parts.Given as goal

-- the numbers of those that are left follow
abbrev pub invariant-loop-part : goal.invariant-loop-part
invariant-loop-part l =
    l.numbers.items ++ spec.numbers_by l.filled l.globals l.names (flat_map spec.defined_by (drop l.part-index l.parts))
    ≡ l.initial.numbers.items ++ spec.numbers_by l.filled l.globals l.names (flat_map spec.defined_by l.parts)
