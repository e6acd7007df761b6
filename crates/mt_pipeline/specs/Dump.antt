-- What the command `dump` answers, and what it puts on the output (this project's own).
use Rattle.std.specs.Prelude.{◌≡◌, ◌⊎◌, List, ℕ, Some}
use Rattle.mt_outside.specs.Told.{Rose}
use Rattle.memtag_dump.specs.Lines.{HasText}
use Rattle.memtag_dump.specs.Refusal.{HasNoText, number_of, place_of}
use Rattle.memtag_dump.specs.declared.refusal.DumpRefusal.{DumpRefusal}
use Rattle.mt_answers.specs.Counted.{UncountedReads}
use Rattle.mt_answers.specs.Put.{FilesAndOutput, PutsAll, PutsPart, output_of, with_output}
use Rattle.mt_answers.specs.Read.{CauseOfNoBytes}
use Rattle.mt_answers.specs.Seen.{Seen, bytes_of, MayHold, ReadFailed, SameFiles}
use Rattle.mt_answers.specs.Status.{ends}
use Rattle.mt_answers.specs.declared.ended.Ended.{Ended}
use Rattle.mt_answers.specs.declared.ended.Why.{Why}
use Rattle.mt_answers.specs.declared.ended.Why.TheVariants.{Done, BadImage, NoMemory, OutputFault}

-- The answers, each by its cause.
pub data CauseOfDump {K : Type 0} (file : List ℕ) (before after : FilesAndOutput K) : Ended → Type 0 where
  -- what the file says of memory tagging was put
  put : (bytes text : List ℕ) → MayHold before.files file bytes → HasText bytes text → PutsAll text before.output after.output →
      CauseOfDump file before after (ends Done)
  -- or the output failed
  put_failed : (bytes text : List ℕ) → MayHold before.files file bytes → HasText bytes text → PutsPart text before.output after.output →
      CauseOfDump file before after (ends OutputFault)
  -- the file has no text, by its first fault
  refused : (bytes : List ℕ) (fault : DumpRefusal) → MayHold before.files file bytes → HasNoText bytes fault
      → after.output ≡ before.output →
      CauseOfDump file before after (ends (BadImage 0 (number_of fault) (place_of fault)))
  -- it was not read
  unread : {why : Why} → CauseOfNoBytes 0 file before.files after.files why → after.output ≡ before.output
      → CauseOfDump file before after (ends why)
  no_memory : after.output ≡ before.output → CauseOfDump file before after (ends NoMemory)

-- What `dump` of a file answers, and what it leaves of the files and on the output.
pub record Dumps {K : Type 0} (file : List ℕ) (before after : FilesAndOutput K) (ended : Ended) : Type 0 where
  -- Where the file has a text, and no read and no put failed, it is put, or memory is wanting.
  pub prints : (bytes text : List ℕ) → bytes_of before.files file ≡ Some bytes → HasText bytes text
      → ¬ ReadFailed before.files after.files →
      ¬ Rose before.output.faults after.output.faults
      → ((ended ≡ ends Done) × PutsAll text before.output after.output) ⊎ (ended ≡ ends NoMemory)
  -- Where it has a fault and no read failed, it is refused with it, or memory is wanting.
  pub refuses : (bytes : List ℕ) (fault : DumpRefusal) → bytes_of before.files file ≡ Some bytes → HasNoText bytes fault →
      ¬ ReadFailed before.files after.files → (ended ≡ ends (BadImage 0 (number_of fault) (place_of fault))) ⊎ (ended ≡ ends NoMemory)
  -- Each answer comes only by its cause.
  pub cause : CauseOfDump file before after ended
  -- No file changes.
  pub files : SameFiles before.files after.files
  -- No fault of a file is counted but the one that is answered, and none of a write.
  pub counts : UncountedReads before.files after.files ended.why

-- Nothing is taken from the input.
pub record DumpAnswers {S K : Type 0} (file : List ℕ) (before after : Seen S K) (ended : Ended) : Type 0 where
  pub dumps : Dumps file (with_output before.files (output_of before.streams)) (with_output after.files (output_of after.streams)) ended
  pub source : after.streams.source ≡ before.streams.source
  pub input : after.streams.input ≡ before.streams.input
  pub input_faults : after.streams.read_faults ≡ before.streams.read_faults
