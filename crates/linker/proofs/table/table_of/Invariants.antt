use Rattle.std.proofs.Common.{take}
use Rattle.linker.specs.Got.{uses_from}
use Rattle.linker.specs.Known.{objects_of, HasWords}
use Rattle.linker.proofs.table.table_of.Given as goal

abbrev pub invariant-loop-object : goal.invariant-loop-object
invariant-loop-object l = HasWords l.table (uses_from (objects_of l.objects) 0 (take l.object (objects_of l.objects)))
