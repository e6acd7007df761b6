use Rattle.std.proofs.Common.{◌%◌}
use Rattle.a64_alu.specs.Width.{width, of_width}
use Rattle.a64_alu.proofs.Narrow.{placed_is}
use Rattle.a64_alu.proofs.bitfield.signed_bitfield.Goals as goal

pub returns-else-immr-imms-clause-value : goal.returns-else-immr-imms-clause-value
returns-else-immr-imms-clause-value c =
    rw (c.of_width-else-immr-imms.ensures.value, c.sext-else-immr-imms.ensures, c.of_width-x.ensures.value, c.width-width.ensures)
    (placed_is c.args.wide (c.args.immr % width c.args.wide) (c.args.imms % width c.args.wide) (of_width c.args.wide c.args.x)
    (rw c.width-width.ensures at c.if-immr-imms.false))
