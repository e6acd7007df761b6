use Rattle.std.proofs.Common.{◌≡◌, ◌≤◌, length}
use Rattle.c_parse_decl.specs.Reading.Objects.{ended, one_object}
use Rattle.c_parse_decl.specs.Laws.Objects.Code.{rest_objects}
use Rattle.c_parse_decl.proofs.objects.parser.ended.Given as goal

-- the objects that are left are read from here on
abbrev pub invariant-loop-alloc : goal.invariant-loop-alloc
invariant-loop-alloc l = record {
  reads : ended l.fn.depth l.fn.base (one_object l.fn.first) l.fn.cursor ≡ rest_objects l.depth l.base l.read l.cursor;
  low : l.read.height ≤ l.depth;
}

abbrev pub decreases-loop-alloc : goal.decreases-loop-alloc
decreases-loop-alloc l = length l.cursor
