-- What a source that reads from a reader shows: the known bytes left, and its count of faults.
use Rattle.std.specs.Prelude.{ℕ, ◌-◌, List, [], ◌∷◌, take, drop, Option}
use Rattle.std.specs.Io.KnownBytes.{prepend_known, Consumes, Keeps, IsAtEnd}
use Rattle.mt_outside.specs.declared.source.NextAnswer.{NextAnswer}
use Rattle.mt_outside.specs.declared.source.NextAnswer.TheVariants.{Byte, End, Failed}
use Rattle.mt_outside.specs.declared.std_source.StdSource.{StdSource}

-- the bytes that were read and not yet taken
abbrev pub std_source_unread : {R : Type 0} → StdSource R → List ℕ
std_source_unread source = take (source.end - source.start) (drop source.start source.buffer)

-- the bytes left, those and then the reader's, where the reader tells them
abbrev pub std_source_left : {R : Type 0} → (R → Option (List ℕ)) → StdSource R → Option (List ℕ)
std_source_left remaining source = prepend_known (std_source_unread source) (remaining source.reader)

-- how many reads have failed
abbrev pub std_source_faults : {R : Type 0} → StdSource R → ℕ
std_source_faults source = source.faults

-- what an answer leaves of known bytes
abbrev pub NextKnown : Option (List ℕ) → Option (List ℕ) → NextAnswer → Type 0
NextKnown before after (Byte byte) = Consumes before after (byte ∷ [])
NextKnown before after End = Keeps before after × IsAtEnd after
NextKnown before after Failed = Keeps before after
