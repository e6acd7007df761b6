use Rattle.std.proofs.Common.{◌≡◌, ◌++◌, length}
use Rattle.c_type_expr.specs.Postfix.{passed}
use Rattle.c_type_expr.proofs.rows.call.passed.Given as goal

-- the arguments passed are in the list, and the rest follows
abbrev pub invariant-loop-argument : goal.invariant-loop-argument
invariant-loop-argument l = record {
  follows : passed l.params l.fn.arguments.items ≡ l.passed ++ passed l.left l.argument-iterator.rest.items;
  count : length l.argument-iterator.rest.items ≡ l.argument-iterator.rest.len;
}
