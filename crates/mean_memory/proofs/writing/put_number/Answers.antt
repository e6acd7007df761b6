use Rattle.std.proofs.Common.{◌<◌, length, arith}
use Rattle.mean_memory.proofs.Numbers.{number_kept}
use Rattle.mean_memory.proofs.writing.put_number.Goals as goal

pub loop-i-preserved : goal.loop-i-preserved
loop-i-preserved c =
    let same = c.loop-i.auto.cells in
    let test = c.loop-i-test.true in
    let within : c.loop-i.i < length c.loop-i.cells = omega arith in
    number_kept c.loop-i.cells c.loop-i.i c.args.n c.loop-i.rest within c.loop-i.invariant
