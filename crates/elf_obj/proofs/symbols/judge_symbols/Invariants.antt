use Rattle.std.proofs.Common.{◌≡◌, ◌+◌, ◌*◌, [], take, drop}
use Rattle.std.specs.List.{list_all}
use Rattle.elf_base.specs.Conditions.{first_fault}
use Rattle.elf_obj.specs.Sections.{names_end}
use Rattle.elf_obj.specs.Repeats.{first_repeat}
use Rattle.elf_obj.specs.ObjectFault.{symbol_conditions, symbol_spot}
use Rattle.elf_obj.proofs.symbols.judge_symbols.Given as goal

abbrev pub invariant-loop-index : goal.invariant-loop-index
invariant-loop-index l = record {
  ends : names_end l.place (drop l.index l.symbols) ≡ names_end 1 l.symbols;
  repeat : first_repeat l.index (take l.index l.symbols) (drop l.index l.symbols) ≡ l.repeat;
  locals : l.all_local ≡ list_all (λ e. e.local) (take l.index l.symbols);
  rest : first_fault (symbol_conditions l.file l.sizes (symbol_spot (l.at + 24 * l.index) l.place (take l.index l.symbols)) (l.index + 1)
      (drop l.index l.symbols))
      ≡ first_fault (symbol_conditions l.file l.sizes (symbol_spot l.at 1 []) 1 l.symbols);
}
