use Rattle.std.proofs.Common.{◌≡◌, ◌++◌}
use Rattle.unit_object.specs.Symbols as spec
use Rattle.unit_object.proofs.object.symbols.Given as goal

-- those passed are there
abbrev pub invariant-loop-symbol : goal.invariant-loop-symbol
invariant-loop-symbol l = l.made.items ≡ spec.text_symbols 0 l.texts ++ l.yielded
