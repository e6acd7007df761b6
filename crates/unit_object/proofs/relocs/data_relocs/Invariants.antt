use Rattle.std.proofs.Common.{◌≡◌, ◌++◌, drop}
use Rattle.unit_object.specs.Numbers as number
use Rattle.unit_object.specs.Order.{chosen}
use Rattle.unit_object.specs.Parts as spec
use Rattle.unit_object.proofs.relocs.data_relocs.Given as goal

-- those of what is left follow
abbrev pub invariant-loop-number : goal.invariant-loop-number
invariant-loop-number l =
    l.made.items ++ spec.data_relocs (number.data_number l.numbers) l.structs l.place (chosen l.globals (drop l.number-index l.order))
    ≡ spec.data_relocs (number.data_number l.numbers) l.structs 0 (chosen l.globals l.order)
