use Rattle.std.proofs.Common.{◌≡◌, ◌+◌, drop}
use Rattle.unit_object.specs.Data as spec
use Rattle.unit_object.specs.Order.{chosen}
use Rattle.unit_object.proofs.objects.rooms.Given as goal

-- those that are left follow
abbrev pub invariant-loop-number : goal.invariant-loop-number
invariant-loop-number l =
    l.all + spec.rooms l.structs (chosen l.globals (drop l.number-index l.numbers)) ≡ spec.rooms l.structs (chosen l.globals l.numbers)
