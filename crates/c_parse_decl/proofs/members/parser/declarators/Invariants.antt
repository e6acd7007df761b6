use Rattle.std.proofs.Common.{◌≡◌, ◌≤◌, length}
use Rattle.c_parse_base.specs.Laws.LoopLaws.{left}
use Rattle.c_parse_decl.specs.Reading.Members as spec
use Rattle.c_parse_decl.specs.Laws.Members.Code.{further_declarator}
use Rattle.c_parse_decl.proofs.members.parser.declarators.Given as goal

-- the declarators that are left are read from here on
abbrev pub invariant-loop-alloc : goal.invariant-loop-alloc
invariant-loop-alloc l = record {
  reads : spec.declarators l.fn.depth l.fn.of l.fn.before l.fn.cursor ≡ left (further_declarator l.depth l.of) l.read l.cursor;
  low : l.read.height ≤ l.depth;
}

abbrev pub decreases-loop-alloc : goal.decreases-loop-alloc
decreases-loop-alloc l = length l.cursor
