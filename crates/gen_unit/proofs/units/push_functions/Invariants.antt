use Rattle.gen_unit.proofs.Functions.{Built}
use Rattle.gen_unit.proofs.units.push_functions.Given as goal

abbrev pub invariant-loop-function : goal.invariant-loop-function
invariant-loop-function l =
    Built l.typed.structs l.functions l.function-index l.initial.out l.initial.places.items l.out l.places.items
