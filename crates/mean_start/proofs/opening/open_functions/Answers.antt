use Rattle.std.proofs.Common.{ℕ, ◌++◌, ◌<◌, take, length, arith}
use Rattle.block_meaning.specs.Opening.{codes_from}
use Rattle.mean_start.proofs.Blocks.{pushed_code}
use Rattle.mean_start.proofs.opening.open_functions.Goals as goal

pub loop-number-preserved : goal.loop-number-preserved
loop-number-preserved c = λ blocks holds.
    let fs = c.args.file.now.typed.now.functions in
    let i : ℕ = c.loop-number.number in
    let test = c.loop-number-test.true in
    let end = c.len-number-end.ensures in
    let within : i < length fs = omega arith in
    pushed_code c.push.new.self c.args.unit blocks fs i c.in_ok-small.field-0 c.new.result.items within c.in_ok-small.ensures
    c.new.ensures.items
    ((c.in_ok-push.ensures (blocks ++ codes_from c.args.unit 0 (take i fs)) (c.loop-number.invariant blocks holds)).1)
