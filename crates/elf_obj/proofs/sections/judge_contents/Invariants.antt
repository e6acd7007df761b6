use Rattle.std.proofs.Common.{◌≡◌, ◌+◌, ◌≤◌, ◌^◌, drop}
use Rattle.elf_base.specs.Conditions.{first_fault}
use Rattle.elf_obj.specs.Sections.{sections}
use Rattle.elf_obj.specs.ObjectFault.{section_conditions, fixed_parts, contents_conditions}
use Rattle.elf_obj.proofs.sections.judge_contents.Given as goal

abbrev pub invariant-loop-index : goal.invariant-loop-index
invariant-loop-index l = record {
  low : l.end ≤ 2 ^ 63;
  rest : first_fault (section_conditions l.file l.end (l.index + 1) (drop l.index (sections l.sizes)) (drop l.index (fixed_parts l.file)))
      ≡ first_fault (contents_conditions l.file l.sizes);
}
