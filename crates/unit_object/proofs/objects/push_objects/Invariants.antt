use Rattle.std.proofs.Common.{◌≡◌, ◌++◌, drop}
use Rattle.unit_object.specs.Symbols as symbols
use Rattle.unit_object.specs.Order.{chosen}
use Rattle.unit_object.proofs.objects.push_objects.Given as goal

-- the symbols of those that are left follow
abbrev pub invariant-loop-number : goal.invariant-loop-number
invariant-loop-number l =
    l.made.items ++ symbols.object_symbols l.structs l.home l.place (chosen l.globals (drop l.number-index l.numbers))
    ≡ l.initial.made.items ++ symbols.object_symbols l.structs l.home 0 (chosen l.globals l.numbers)
