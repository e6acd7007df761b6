-- The objects passed have their blocks.
use Rattle.std.proofs.Common.{List, ◌++◌, take}
use Rattle.block_meaning.specs.Blocks.{Block}
use Rattle.block_meaning.specs.Opening.{objects_from}
use Rattle.block_meaning.specs.Running.{Program}
use Rattle.mean_memory.specs.Standing.{IsMemory}
use Rattle.mean_start.specs.Files.{IsFile}
use Rattle.mean_start.proofs.objects.open_objects.Given as goal

abbrev pub invariant-loop-number : goal.invariant-loop-number
invariant-loop-number l =
    (program : Program) (blocks : List Block) → IsFile l.file program l.unit → IsMemory l.fn.memory blocks →
    IsMemory l.memory (blocks ++ objects_from program.units l.unit l.file.typed.now.structs 0 (take l.number l.globals))
