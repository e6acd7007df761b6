use Rattle.std.proofs.Common.{◌≡◌, length}
use Rattle.c_parse_expr.specs.Reading.Expressions.{texts}
use Rattle.c_parse_expr.specs.Laws.WordCode.{text_run}
use Rattle.c_parse_expr.proofs.plain.texts.Given as goal

-- the texts that are left are read from here on
abbrev pub invariant-loop-next : goal.invariant-loop-next
invariant-loop-next l = texts l.fn.cursor ≡ text_run (l.bytes.items, l.place) l.cursor

abbrev pub decreases-loop-next : goal.decreases-loop-next
decreases-loop-next l = length l.cursor
