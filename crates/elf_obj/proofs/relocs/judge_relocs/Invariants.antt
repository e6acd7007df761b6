use Rattle.std.proofs.Common.{◌≡◌, ◌+◌, ◌*◌, drop}
use Rattle.elf_base.specs.Conditions.{first_fault}
use Rattle.elf_obj.specs.Rules.{reloc_rule}
use Rattle.elf_obj.specs.ObjectFault.{reloc_conditions, reloc_spot}
use Rattle.elf_obj.proofs.relocs.judge_relocs.Given as goal

abbrev pub invariant-loop-index : goal.invariant-loop-index
invariant-loop-index l =
    first_fault (reloc_conditions l.file (reloc_rule l.code l.bytes l.count) (reloc_spot (l.at + 24 * l.index) l.least)
    (l.first + l.index) (drop l.index l.relocs))
    ≡ first_fault (reloc_conditions l.file (reloc_rule l.code l.bytes l.count) (reloc_spot l.at 0) l.first l.relocs)
