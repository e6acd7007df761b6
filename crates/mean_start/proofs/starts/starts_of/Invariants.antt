-- The files passed have theirs, and the next file's blocks begin where these end.
use Rattle.std.proofs.Common.{◌≡◌, ℕ, length, Some}
use Rattle.std.specs.Prelude.{slice_get}
use Rattle.block_meaning.specs.Linkage.{first_block}
use Rattle.mean_start.specs.declared.starts.Starts.{Starts}
use Rattle.mean_start.specs.Numbers.{IsStart}
use Rattle.mean_start.proofs.starts.starts_of.Given as goal

abbrev pub invariant-loop-typed : goal.invariant-loop-typed
invariant-loop-typed l = record {
  next : l.next ≡ first_block l.units l.typed-index;
  count : length l.made.items ≡ l.typed-index;
  each : (unit : ℕ) (s : Starts) → slice_get l.made.items unit ≡ Some s → IsStart s l.units unit;
}
