use Rattle.std.proofs.Common.{◌≡◌, ◌≤◌, length}
use Rattle.c_parse_base.specs.Laws.TypeCode.{more_stars}
use Rattle.c_parse_base.proofs.type_names.more_stars.Given as goal

-- the stars that are left are read from here on
abbrev pub invariant-loop-place : goal.invariant-loop-place
invariant-loop-place l = record {
  reads : more_stars l.depth l.fn.read l.fn.cursor ≡ more_stars l.depth l.read l.cursor;
  low : l.read.height ≤ l.depth;
}

abbrev pub decreases-loop-place : goal.decreases-loop-place
decreases-loop-place l = length l.cursor
