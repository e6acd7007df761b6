use Rattle.std.proofs.Common.{arith}
use Rattle.c_print.specs.Declarations.{init_of}
use Rattle.c_print.proofs.Lists.{comma_kept}
use Rattle.c_print.proofs.declaration.+init.Goals as goal

pub print_inits-loop-index-preserved : goal.print_inits-loop-index-preserved
print_inits-loop-index-preserved t c =
    comma_kept init_of c.args.inits.now c.loop-index.index c.index-inits-index.result c.args.out.now.items c.loop-index.out.items
    c.print_separator.new.out.items
    c.print_init.new.out.items (omega arith) c.index-inits-index.is c.loop-index.invariant c.in_ok-print_separator.ensures
    c.in_ok-print_init.ensures
