use Rattle.std.proofs.Common.{ℕ, ◌++◌, take}
use Rattle.block_meaning.specs.Opening.{texts_from}
use Rattle.mean_start.proofs.Blocks.{pushed_text}
use Rattle.mean_start.proofs.opening.open_texts.Goals as goal

pub loop-number-preserved : goal.loop-number-preserved
loop-number-preserved c = λ blocks holds.
    let ts = c.as_slice-texts.result.now in
    let i : ℕ = c.loop-number.number in
    pushed_text c.push.new.self c.args.unit blocks ts i c.in_ok-small.field-0 c.index-texts-number.result c.as_slice.result.now
    c.in_ok-cells.cells.items c.loop-number-test.true c.index-texts-number.is c.in_ok-small.ensures c.as_slice.ensures
    c.in_ok-cells.ensures
    ((c.in_ok-push.ensures (blocks ++ texts_from c.args.unit 0 (take i ts)) (c.loop-number.invariant blocks holds)).1)
