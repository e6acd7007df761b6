use Rattle.std.proofs.Common.{◌≡◌, ◌≤◌, length}
use Rattle.c_parse_base.specs.Laws.LoopLaws.{left}
use Rattle.c_parse_decl.specs.Reading.Declarators.{pairs}
use Rattle.c_parse_decl.specs.Laws.Declarators.Code.{further_pair}
use Rattle.c_parse_decl.proofs.declarators.brackets.pairs.Given as goal

-- the pairs that are left are read from here on
abbrev pub invariant-loop-alloc : goal.invariant-loop-alloc
invariant-loop-alloc l = record {
  reads : pairs l.depth l.fn.before l.fn.cursor ≡ left (further_pair l.depth) l.read l.cursor;
  level : l.read.level ≤ l.depth;
  low : l.read.height ≤ l.depth;
}

abbrev pub decreases-loop-alloc : goal.decreases-loop-alloc
decreases-loop-alloc l = length l.cursor
