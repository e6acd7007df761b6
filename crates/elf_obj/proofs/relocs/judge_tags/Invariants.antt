use Rattle.std.proofs.Common.{◌≡◌, ◌+◌, ◌*◌, [], take, drop}
use Rattle.elf_base.specs.Conditions.{first_fault}
use Rattle.elf_obj.specs.declared.parts.Home.TheVariants.{Init, Zero}
use Rattle.elf_obj.specs.Apart.{first_shared}
use Rattle.elf_obj.specs.ObjectFault.{tag_conditions, tag_spot}
use Rattle.elf_obj.proofs.relocs.judge_tags.Given as goal

abbrev pub invariant-loop-index : goal.invariant-loop-index
invariant-loop-index l = record {
  init : first_shared Init l.symbols l.index (take l.index l.tagged) (drop l.index l.tagged) ≡ l.shared.init;
  zero : first_shared Zero l.symbols l.index (take l.index l.tagged) (drop l.index l.tagged) ≡ l.shared.zero;
  rest : first_fault (tag_conditions l.file l.symbols (tag_spot (l.at + 24 * l.index) (take l.index l.tagged) l.least)
      (l.first + l.index) (drop l.index l.tagged))
      ≡ first_fault (tag_conditions l.file l.symbols (tag_spot l.at [] 0) l.first l.tagged);
}
