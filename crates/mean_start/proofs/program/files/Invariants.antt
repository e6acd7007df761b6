-- The files passed are there.
use Rattle.std.proofs.Common.{◌≡◌, ℕ, length, Some}
use Rattle.std.specs.Prelude.{slice_get}
use Rattle.block_meaning.specs.Running.{Program}
use Rattle.mean_start.specs.declared.file.File.{File}
use Rattle.mean_start.specs.Files.{IsFile, frames_in}
use Rattle.mean_start.proofs.program.files.Given as goal

abbrev pub invariant-loop-unit : goal.invariant-loop-unit
invariant-loop-unit l = record {
  count : length l.made.items ≡ l.unit;
  each : (program : Program) → program.units ≡ l.units → program.frames ≡ frames_in l.frames → (unit : ℕ) (f : File) →
      slice_get l.made.items unit ≡ Some f → IsFile f program unit;
}
