use Rattle.std.proofs.Common.{◌≡◌, ◌≤◌, ◌+◌, ◌*◌, length}
use Rattle.c_parse_base.specs.Laws.LoopLaws.{left}
use Rattle.c_parse_decl.specs.Reading.Initializers.{items, under}
use Rattle.c_parse_decl.specs.Laws.Initializers.Code.{further_turn}
use Rattle.c_parse_decl.proofs.initializers.parser.+initializer.Given as goal

abbrev pub decreases-turn : goal.decreases-turn
decreases-turn l = 64 * l.depth

abbrev pub decreases-items : goal.decreases-items
decreases-items l = 64 * l.depth + 1

abbrev pub decreases-closed : goal.decreases-closed
decreases-closed l = 64 * l.depth + 2

abbrev pub decreases-initial : goal.decreases-initial
decreases-initial l = 64 * l.depth + 3

-- what is left of the list is read from here on
abbrev pub invariant-items-loop-alloc : goal.invariant-items-loop-alloc
invariant-items-loop-alloc l = record {
  reads : items (under l.fn.depth) l.fn.cursor ≡ left (further_turn l.depth) l.read l.cursor;
  low : l.read.height ≤ l.depth;
}

abbrev pub decreases-items-loop-alloc : goal.decreases-items-loop-alloc
decreases-items-loop-alloc l = length l.cursor
