use Rattle.std.specs.List.{AllByRecursion}
use Rattle.elf_obj.specs.ObjectFile.{IsValid}
use Rattle.linker.specs.Known.{objects_of}
use Rattle.link_rows.proofs.answer.answer.Given as goal

abbrev pub invariant-loop-name : goal.invariant-loop-name
invariant-loop-name l = AllByRecursion IsValid (objects_of l.objects.items)
