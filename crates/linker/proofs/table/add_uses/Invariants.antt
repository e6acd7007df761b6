use Rattle.std.proofs.Common.{List, ◌++◌, take, filter_map}
use Rattle.elf_obj.specs.Object.{Object}
use Rattle.linker.specs.Names.{NumberedSymbol, all_numbered}
use Rattle.linker.specs.Got.{used_by}
use Rattle.linker.specs.Known.{Knows, HasWords}
use Rattle.linker.proofs.table.add_uses.Given as goal

abbrev pub invariant-loop-reloc : goal.invariant-loop-reloc
invariant-loop-reloc l =
    (objects : List Object) (uses : List NumberedSymbol) → Knows l.names (all_numbered objects) → HasWords l.fn.table uses
    → HasWords l.table (uses ++ filter_map (used_by objects l.object l.symbols) (take l.reloc-index l.relocs))
