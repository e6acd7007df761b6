use Rattle.std.proofs.Common.{◌≡◌, ◌++◌, drop}
use Rattle.unit_object.specs.Data as spec
use Rattle.unit_object.specs.Order.{chosen}
use Rattle.unit_object.proofs.objects.all_bytes.Given as goal

-- the bytes of those that are left follow
abbrev pub invariant-loop-number : goal.invariant-loop-number
invariant-loop-number l =
    l.out.items ++ spec.all_bytes l.structs (chosen l.globals (drop l.number-index l.numbers))
    ≡ spec.all_bytes l.structs (chosen l.globals l.numbers)
