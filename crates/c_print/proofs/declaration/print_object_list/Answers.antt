use Rattle.std.proofs.Common.{arith}
use Rattle.c_print.specs.Declarations.{object_of}
use Rattle.c_print.proofs.Lists.{comma_kept}
use Rattle.c_print.proofs.declaration.print_object_list.Goals as goal

pub loop-index-preserved : goal.loop-index-preserved
loop-index-preserved c =
    comma_kept object_of c.args.decls.now c.loop-index.index c.index-decls-index.result c.args.out.now.items c.loop-index.out.items
    c.print_separator.new.out.items
    c.print_object.new.out.items (omega arith) c.index-decls-index.is c.loop-index.invariant c.in_ok-print_separator.ensures
    c.in_ok-print_object.ensures
