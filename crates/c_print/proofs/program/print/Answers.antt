use Rattle.std.proofs.Common.{◌≡◌}
use Rattle.c_print.specs.Program.{external_of, lexemes_of_program}
use Rattle.c_print.proofs.Lists.{all_printed}
use Rattle.c_print.proofs.ProgramSpelled.{printed_program}
use Rattle.c_print.proofs.program.print.Goals as goal

pub returns-clause-spelled : goal.returns-clause-spelled
returns-clause-spelled c tokens depth spells =
    let words : c.loop-external.out.items ≡ lexemes_of_program c.args.program.now =
    all_printed external_of c.args.program.now.items c.as_slice-external-items.result.now c.loop-external.external-index
    c.loop-external.out.items
    c.loop-external.invariant c.as_slice-external-items.ensures c.loop-external-test.false in
    printed_program c.args.program.now tokens depth c.loop-external.out.items words spells
