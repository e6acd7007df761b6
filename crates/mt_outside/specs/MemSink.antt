-- What a sink in memory shows: the bytes taken, its capacity, its numbered calls and its count of faults.
use Rattle.std.specs.Prelude.{ℕ, List}
use Rattle.mt_outside.specs.declared.mem_sink.MemSink.{MemSink}

-- the bytes taken
abbrev pub sink_taken : MemSink → List ℕ
sink_taken sink = sink.taken.items

-- how many bytes it can take
abbrev pub sink_capacity : MemSink → ℕ
sink_capacity sink = sink.capacity

-- the number of the next call
abbrev pub sink_calls : MemSink → ℕ
sink_calls sink = sink.calls.made

-- the numbers of the calls that fail
abbrev pub sink_failing : MemSink → List ℕ
sink_failing sink = sink.calls.failing.items

-- how many writes have failed
abbrev pub sink_faults : MemSink → ℕ
sink_faults sink = sink.faults
