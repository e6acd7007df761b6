use Rattle.std.proofs.Common.{◌≡◌, map, take}
use Rattle.unit_object.specs.Numbers as number
use Rattle.unit_object.specs.Parts as spec
use Rattle.unit_object.proofs.relocs.code_relocs.Given as goal

-- those passed are there
abbrev pub invariant-loop-reloc : goal.invariant-loop-reloc
invariant-loop-reloc l = l.made.items ≡ map (spec.code_reloc (number.code_number l.numbers)) (take l.reloc-index l.relocs)
