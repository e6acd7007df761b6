use Rattle.std.proofs.Common.{ℕ, ◌++◌, take}
use Rattle.block_meaning.specs.Opening.{objects_from}
use Rattle.mean_start.proofs.Blocks.{pushed_object}
use Rattle.mean_start.proofs.objects.open_objects.Goals as goal

pub loop-number-preserved : goal.loop-number-preserved
loop-number-preserved c = λ program blocks is holds.
    let gs = c.as_slice-globals.result.now in
    let structs = c.args.file.now.typed.now.structs in
    let unit : ℕ = c.args.unit in
    let i : ℕ = c.loop-number.number in
    pushed_object c.open_object.new.memory program.units unit structs blocks gs i c.in_ok-small.field-0 c.index-globals-number.result
    c.loop-number-test.true c.index-globals-number.is c.in_ok-small.ensures
    (c.in_ok-open_object.ensures program unit (blocks ++ objects_from program.units unit structs 0 (take i gs)) is
    (c.loop-number.invariant program blocks is holds))
