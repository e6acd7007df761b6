use Rattle.block_meaning.specs.Linkage.{object_block}
use Rattle.mean_start.specs.Laws.Looking.{object_is}
use Rattle.mean_expressions.proofs.Blocks.{file_here, sum-is}
use Rattle.mean_expressions.proofs.locating.object_block.Goals as goal

pub returns-in-Some : goal.returns-in-Some
returns-in-Some c = λ here of_here.
    sum-is c.checked_add.result _ _ (object_block here.program.units here.unit c.args.number) c.checked_add.ensures
    (object_is (file_here of_here c.at.result c.in-Some.file c.at.ensures c.in-Some.is) c.args.number)
