use Rattle.linker.specs.Laws.Spelled.{one_small, one_large}
use Rattle.std.proofs.Common.{arith}
use Rattle.linker.proofs.descriptors.descriptor_len.Goals as goal

pub returns-then-size-le7-clause-len : goal.returns-then-size-le7-clause-len
returns-then-size-le7-clause-len c =
    one_small c.args.distance c.args.size c.number_len.result c.requires.some c.if-size-le7.true c.number_len.ensures.len

pub returns-else-size-le7-clause-len : goal.returns-else-size-le7-clause-len
returns-else-size-le7-clause-len c =
    let many = c.if-size-le7.false in
    one_large c.args.distance c.args.size c.number_len-else-size-le7.result c.number_len-else-size-le7-2.result (omega arith)
    c.number_len-else-size-le7.ensures.len c.number_len-else-size-le7-2.ensures.len
