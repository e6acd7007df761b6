-- What a sink that writes to a writer shows: the writer, and its count of faults.
use Rattle.std.specs.Prelude.{ℕ, ◌≤◌, List, Option, length, take}
use Rattle.std.specs.Io.KnownBytes.{Appends}
use Rattle.mt_outside.specs.declared.std_sink.StdSink.{StdSink}

-- the writer
abbrev pub std_sink_writer : {W : Type 0} → StdSink W → W
std_sink_writer sink = sink.writer

-- how many writes have failed
abbrev pub std_sink_faults : {W : Type 0} → StdSink W → ℕ
std_sink_faults sink = sink.faults

-- known bytes grow by some prefix of these bytes
abbrev pub AppendsPart : Option (List ℕ) → Option (List ℕ) → List ℕ → Type 0
AppendsPart old new bytes = (count : ℕ) × (count ≤ length bytes) × Appends old new (take count bytes)
