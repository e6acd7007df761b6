use Rattle.std.proofs.Common.{◌≡◌, ◌<◌, ◌≤◌, ◌+◌, ◌*◌, ◌-◌, length}
use Rattle.c_parse_expr.specs.Reading.Expressions.{arguments, tier, under}
use Rattle.c_parse_base.specs.Laws.LoopLaws.{left}
use Rattle.c_parse_expr.specs.Laws.Code.{further_argument, more_suffixes, further_operation}
use Rattle.c_parse_expr.proofs.parser.+expression.Given as goal

abbrev pub decreases-operation : goal.decreases-operation
decreases-operation l = 64 * l.depth

abbrev pub decreases-arguments : goal.decreases-arguments
decreases-arguments l = 64 * l.depth

abbrev pub decreases-called : goal.decreases-called
decreases-called l = 64 * l.depth + 1

abbrev pub decreases-behind : goal.decreases-behind
decreases-behind l = 64 * l.depth + 2

abbrev pub decreases-suffixes : goal.decreases-suffixes
decreases-suffixes l = 64 * l.depth + 3

abbrev pub decreases-grouped : goal.decreases-grouped
decreases-grouped l = 64 * l.depth + 4

abbrev pub decreases-binary : goal.decreases-binary
decreases-binary l = 64 * l.depth + l.tier + 7

-- the arguments that are left are read from here on
abbrev pub invariant-arguments-loop-alloc : goal.invariant-arguments-loop-alloc
invariant-arguments-loop-alloc l = record {
  reads : arguments l.fn.depth (under l.fn.depth) l.fn.cursor ≡ left (further_argument l.depth) l.read l.cursor;
  low : l.read.height < l.depth;
}

abbrev pub decreases-arguments-loop-alloc : goal.decreases-arguments-loop-alloc
decreases-arguments-loop-alloc l = length l.cursor

-- the suffixes that are left are read from here on
abbrev pub invariant-suffixes-loop-alloc : goal.invariant-suffixes-loop-alloc
invariant-suffixes-loop-alloc l = record {
  reads : more_suffixes l.fn.depth l.fn.operand l.fn.cursor ≡ more_suffixes l.depth l.read l.cursor;
  low : l.read.height ≤ l.depth;
}

abbrev pub decreases-suffixes-loop-alloc : goal.decreases-suffixes-loop-alloc
decreases-suffixes-loop-alloc l = length l.cursor

-- what is left of the tier is read from here on
abbrev pub invariant-binary-loop-operator : goal.invariant-binary-loop-operator
invariant-binary-loop-operator l = record {
  reads : tier l.fn.depth (under l.fn.depth) l.fn.tier l.fn.cursor ≡ left (further_operation l.depth (l.tier - 1)) l.left l.cursor;
  low : l.left.height ≤ l.depth;
}

abbrev pub decreases-binary-loop-operator : goal.decreases-binary-loop-operator
decreases-binary-loop-operator l = length l.cursor

abbrev pub decreases-stepped : goal.decreases-stepped
decreases-stepped l = 64 * l.depth

abbrev pub decreases-operated : goal.decreases-operated
decreases-operated l = 64 * l.depth

abbrev pub decreases-size_opened : goal.decreases-size_opened
decreases-size_opened l = 64 * l.depth

abbrev pub decreases-sized : goal.decreases-sized
decreases-sized l = 64 * l.depth + 1

abbrev pub decreases-bare : goal.decreases-bare
decreases-bare l = 64 * l.depth + 4

abbrev pub decreases-unary : goal.decreases-unary
decreases-unary l = 64 * l.depth + 5

abbrev pub decreases-casted : goal.decreases-casted
decreases-casted l = 64 * l.depth

abbrev pub decreases-operand : goal.decreases-operand
decreases-operand l = 64 * l.depth + 6

abbrev pub decreases-branches : goal.decreases-branches
decreases-branches l = 64 * l.depth

abbrev pub decreases-conditional : goal.decreases-conditional
decreases-conditional l = 64 * l.depth + 20

abbrev pub decreases-assignment : goal.decreases-assignment
decreases-assignment l = 64 * l.depth + 21
