use Rattle.std.proofs.Common.{◌≡◌, ◌≤◌, suc, length}
use Rattle.c_parse_base.specs.Laws.LoopLaws.{left}
use Rattle.c_parse_decl.specs.Reading.Parameters.{list}
use Rattle.c_parse_decl.specs.Laws.Parameters.Code.{further_parameter}
use Rattle.c_parse_decl.proofs.parameter_list.parser.list.Given as goal

-- the parameters that are left are read from here on
abbrev pub invariant-loop-alloc : goal.invariant-loop-alloc
invariant-loop-alloc l = record {
  reads : list l.depth l.fn.cursor ≡ left (further_parameter l.depth) l.read l.cursor;
  low : l.read.height ≤ suc l.depth;
}

abbrev pub decreases-loop-alloc : goal.decreases-loop-alloc
decreases-loop-alloc l = length l.cursor
