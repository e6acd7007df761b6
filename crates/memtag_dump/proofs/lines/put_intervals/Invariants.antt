use Rattle.std.proofs.Common.{◌≡◌, ◌++◌, flat_map, take}
use Rattle.std.specs.String.{string_bytes}
use Rattle.memtag_dump.specs.Lines.{global_line}
use Rattle.memtag_dump.proofs.lines.put_intervals.Given as goal

abbrev pub invariant-loop-interval : goal.invariant-loop-interval
invariant-loop-interval l =
    string_bytes l.text ≡ string_bytes l.initial.text ++ flat_map global_line (take l.interval-index l.intervals)
