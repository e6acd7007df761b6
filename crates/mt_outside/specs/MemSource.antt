-- What a source in memory shows: the bytes left, its numbered calls and its count of faults.
use Rattle.std.specs.Prelude.{ℕ, List, drop}
use Rattle.mt_outside.specs.declared.mem_source.MemSource.{MemSource}

-- the bytes left
abbrev pub source_left : MemSource → List ℕ
source_left source = drop source.taken source.bytes.items

-- the number of the next call
abbrev pub source_calls : MemSource → ℕ
source_calls source = source.calls.made

-- the numbers of the calls that fail
abbrev pub source_failing : MemSource → List ℕ
source_failing source = source.calls.failing.items

-- how many reads have failed
abbrev pub source_faults : MemSource → ℕ
source_faults source = source.faults
