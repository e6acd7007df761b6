use Rattle.std.proofs.Common.{◌≡◌, ◌≤◌, ◌+◌, ◌*◌, ◌-◌, length}
use Rattle.c_parse_stmt.specs.Reading.Statements.{placed, items, under}
use Rattle.c_parse_base.specs.Laws.LoopLaws.{left}
use Rattle.c_parse_stmt.specs.Laws.Code.{further_item}
use Rattle.c_parse_stmt.proofs.parser.+statement.Given as goal

abbrev pub decreases-headed : goal.decreases-headed
decreases-headed l = 64 * l.depth

abbrev pub decreases-if_statement : goal.decreases-if_statement
decreases-if_statement l = 64 * l.depth + 1

abbrev pub decreases-while_loop : goal.decreases-while_loop
decreases-while_loop l = 64 * l.depth + 1

abbrev pub decreases-do_loop : goal.decreases-do_loop
decreases-do_loop l = 64 * l.depth + 1

abbrev pub decreases-for_loop : goal.decreases-for_loop
decreases-for_loop l = 64 * l.depth + 1

abbrev pub decreases-item : goal.decreases-item
decreases-item l = 64 * l.depth

abbrev pub decreases-items : goal.decreases-items
decreases-items l = 64 * l.depth + 1

abbrev pub decreases-block_in : goal.decreases-block_in
decreases-block_in l = 64 * l.depth + 2

abbrev pub decreases-compound : goal.decreases-compound
decreases-compound l = 64 * l.depth + 3

abbrev pub decreases-loop_or : goal.decreases-loop_or
decreases-loop_or l = 64 * l.depth + 2

abbrev pub decreases-statement : goal.decreases-statement
decreases-statement l = 64 * l.depth + 4

-- the parts of the block that are left are read from here on
abbrev pub invariant-items-loop-alloc : goal.invariant-items-loop-alloc
invariant-items-loop-alloc l = record {
  reads : items l.fn.depth (under l.fn.depth) (placed l.fn.in_loop) l.fn.cursor ≡
      left (further_item l.depth (placed l.in_loop)) l.read l.cursor;
  low : l.read.height ≤ l.depth;
}

abbrev pub decreases-items-loop-alloc : goal.decreases-items-loop-alloc
decreases-items-loop-alloc l = length l.cursor
