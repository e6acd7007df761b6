use Rattle.std.proofs.Common.{◌-◌, length}
use Rattle.memtag_desc.proofs.Loop.{IsRead}
use Rattle.memtag_desc.proofs.reading.decode.Given as goal

abbrev pub invariant-loop-place : goal.invariant-loop-place
invariant-loop-place l = IsRead l.bytes l.intervals.items l.end l.place

abbrev pub decreases-loop-place : goal.decreases-loop-place
decreases-loop-place l = length l.bytes - l.place
