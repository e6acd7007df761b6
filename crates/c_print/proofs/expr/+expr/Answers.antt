use Rattle.std.proofs.Common.{arith}
use Rattle.c_print.specs.Expressions.{lexemes_of}
use Rattle.c_print.proofs.Lists.{comma_kept}
use Rattle.c_print.proofs.expr.+expr.Goals as goal

pub print_exprs-loop-index-preserved : goal.print_exprs-loop-index-preserved
print_exprs-loop-index-preserved t c =
    comma_kept lexemes_of c.args.exprs.now c.loop-index.index c.index-exprs-index.result c.args.out.now.items c.loop-index.out.items
    c.print_separator.new.out.items
    c.print_expr.new.out.items (omega arith) c.index-exprs-index.is c.loop-index.invariant c.in_ok-print_separator.ensures
    c.in_ok-print_expr.ensures
