use Rattle.std.proofs.Common.{◌≡◌, drop}
use Rattle.elf_image.specs.Faults.{agrees}
use Rattle.elf_image.proofs.bytes.agrees.Given as goal

abbrev pub invariant-loop-i : goal.invariant-loop-i
invariant-loop-i l = agrees l.bytes l.wanted ≡ agrees (drop l.i l.bytes) (drop l.i l.wanted)
