use Rattle.std.proofs.Common.{drop}
use Rattle.memtag_desc.proofs.Spelling.{IsWritten}
use Rattle.memtag_desc.proofs.writing.encode.Given as goal

abbrev pub invariant-loop-interval : goal.invariant-loop-interval
invariant-loop-interval l = IsWritten l.intervals (drop l.interval-index l.intervals) l.end l.out.items
