-- The files passed have their blocks.
use Rattle.std.proofs.Common.{◌∷◌, take}
use Rattle.block_meaning.specs.Blocks.{null_block}
use Rattle.block_meaning.specs.Opening.{opening_from}
use Rattle.block_meaning.specs.Running.{Program}
use Rattle.mean_memory.specs.Standing.{IsMemory}
use Rattle.mean_start.specs.Files.{IsProgram}
use Rattle.mean_start.proofs.opening.opened.Given as goal

abbrev pub invariant-loop-unit : goal.invariant-loop-unit
invariant-loop-unit l = (program : Program) → IsProgram l.files program →
    IsMemory l.memory (null_block ∷ opening_from program.units 0 (take l.unit program.units))
