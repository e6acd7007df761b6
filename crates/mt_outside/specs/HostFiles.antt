-- What reads and writes of the host's files say, and their counts. A file of the host is one that the runtime opened: which one
-- a name opens, and what it then holds, is the host's own.
use Rattle.std.specs.Prelude.{ℕ, ◌≡◌, ◌≤◌, List, length, Option, IfSome}
use Rattle.std.specs.Io.KnownBytes.{Appends}
use Rattle.mt_outside.specs.declared.host_files.HostFiles.{HostFiles}
use Rattle.mt_outside.specs.declared.files.ReadAnswer.{ReadAnswer}
use Rattle.mt_outside.specs.declared.files.ReadAnswer.TheVariants.{Got, Absent, Failed, NoMemory}
use Rattle.mt_outside.specs.declared.files.WriteAnswer.{WriteAnswer}
use Rattle.mt_outside.specs.declared.files.WriteAnswer.TheVariants.{Done, Failed as WriteFailed, NoMemory as WriteNoMemory}

-- how many reads have failed
abbrev pub host_read_faults : {R : Type 0} → HostFiles R → ℕ
host_read_faults files = files.read_faults

-- how many writes have failed
abbrev pub host_write_faults : {R : Type 0} → HostFiles R → ℕ
host_write_faults files = files.write_faults

-- What a read gives are all the bytes that a file had left, where the file tells them.
abbrev pub GotWhole : {F : Type 0} → (F → Option (List ℕ)) → ReadAnswer → Type 0
GotWhole {F = F} remaining (Got bytes) = (file : F) × IfSome (remaining file) (λ left. bytes.items ≡ left)
GotWhole remaining Absent = Unit {0}
GotWhole remaining Failed = Unit {0}
GotWhole remaining NoMemory = Unit {0}

-- what a read gives has at most so many bytes
abbrev pub IsWithin : ℕ → ReadAnswer → Type 0
IsWithin most (Got bytes) = length bytes.items ≤ most
IsWithin most Absent = Unit {0}
IsWithin most Failed = Unit {0}
IsWithin most NoMemory = Unit {0}

-- A file took all these bytes, where it tells what it holds.
abbrev pub TookWhole : {F : Type 0} → (F → Option (List ℕ)) → List ℕ → Type 0
TookWhole {F = F} contents bytes = (before : F) × (after : F) × Appends (contents before) (contents after) bytes

-- A write that is done was taken whole.
abbrev pub WroteWhole : {F : Type 0} → (F → Option (List ℕ)) → List ℕ → WriteAnswer → Type 0
WroteWhole contents bytes Done = TookWhole contents bytes
WroteWhole contents bytes WriteFailed = Unit {0}
WroteWhole contents bytes WriteNoMemory = Unit {0}
