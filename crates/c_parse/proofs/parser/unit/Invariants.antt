use Rattle.std.proofs.Common.{◌≡◌, ◌+◌, ◌≤◌, length}
use Rattle.c_parse_base.specs.Laws.LoopLaws.{left}
use Rattle.c_parse.specs.Reading.Externals.{unit}
use Rattle.c_parse.specs.Laws.Code.{further_external}
use Rattle.c_parse.proofs.parser.unit.Given as goal

-- the external declarations that are left are read from here on
abbrev pub invariant-loop-alloc : goal.invariant-loop-alloc
invariant-loop-alloc l = record {
  reads : unit l.fn.depth l.fn.cursor ≡ left (further_external l.depth) l.read l.cursor;
  low : l.read.height ≤ l.depth + 2;
}

abbrev pub decreases-loop-alloc : goal.decreases-loop-alloc
decreases-loop-alloc l = length l.cursor
