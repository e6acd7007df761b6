-- What a call of the driver finds and leaves outside (this project's own).
use Rattle.std.specs.Prelude.{◌≡◌, ℕ, List, Option, Some, IfSome}
use Rattle.std.specs.Option.{option_and_then}
use Rattle.mt_outside.specs.Told.{Rose, WhereTold}
use Rattle.mt_outside.specs.Files.{Contents, OthersStay}
use Rattle.mt_outside.specs.declared.files.Files.{Ghosts as FilesGhosts}
use Rattle.mte_machine.specs.Objects.{Objects}

-- ---- the files

-- the files as far as they tell, and the counts of their faults
pub record FilesSeen : Type 0 where
  pub told : Option Contents
  pub read_faults : ℕ
  pub write_faults : ℕ

abbrev pub files_seen : {F : Type 0} → FilesGhosts F → F → FilesSeen
files_seen show files = record {
  told = show.told files;
  read_faults = show.read_faults files;
  write_faults = show.write_faults files;
}

-- the bytes of a file, where they are told and there is such a file
abbrev pub bytes_of : FilesSeen → List ℕ → Option (List ℕ)
bytes_of seen file = option_and_then (λ files. files file) seen.told

-- where the files are told, this one holds these bytes
abbrev pub MayHold : FilesSeen → List ℕ → List ℕ → Type 0
MayHold seen file bytes = IfSome seen.told (λ files. files file ≡ Some bytes)

-- the files tell what they hold
pub record IsTold (seen : FilesSeen) : Type 0 where
  pub contents : Contents
  pub is : seen.told ≡ Some contents

-- a read has failed in the call
abbrev pub ReadFailed : FilesSeen → FilesSeen → Type 0
ReadFailed before after = Rose before.read_faults after.read_faults

-- a write has failed in the call
abbrev pub WriteFailed : FilesSeen → FilesSeen → Type 0
WriteFailed before after = Rose before.write_faults after.write_faults

-- every file holds what it held
abbrev pub SameFiles : FilesSeen → FilesSeen → Type 0
SameFiles before after = WhereTold before.told after.told (λ old new. (file : List ℕ) → new file ≡ old file)

-- the file `out` holds these bytes, and all others what they held
abbrev pub Writes : List ℕ → List ℕ → FilesSeen → FilesSeen → Type 0
Writes out bytes before after = WhereTold before.told after.told (λ old new. (new out ≡ Some bytes) × OthersStay out old new)

-- ---- all of it

-- The files, and the input and the output: each of the two with what it tells and the count of its faults.
pub record Seen (S K : Type 0) : Type 0 where
  pub files : FilesSeen
  pub streams : Objects S K

abbrev pub seen : {S K : Type 0} → FilesSeen → Objects S K → Seen S K
seen files streams = record { files = files; streams = streams }

-- no input was taken, nothing was put on the output, and no fault of the two was counted
abbrev pub IsSilent : {S K : Type 0} → Seen S K → Seen S K → Type 0
IsSilent before after = after.streams ≡ before.streams
