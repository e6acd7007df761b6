use Rattle.block_meaning.specs.Linkage.{text_block}
use Rattle.mean_start.specs.Laws.Looking.{text_is}
use Rattle.mean_expressions.proofs.Blocks.{file_here, sum-is}
use Rattle.mean_expressions.proofs.locating.text_block.Goals as goal

pub returns-in-Some : goal.returns-in-Some
returns-in-Some c = λ here of_here.
    sum-is c.checked_add.result _ _ (text_block here.program.units here.unit c.args.number) c.checked_add.ensures
    (text_is (file_here of_here c.at.result c.in-Some.file c.at.ensures c.in-Some.is) c.args.number)
