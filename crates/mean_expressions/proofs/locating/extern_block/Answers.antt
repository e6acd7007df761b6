use Rattle.std.proofs.Common.{◌≡◌, sym, ap, ◌∙◌, option_copied, slice_get}
use Rattle.block_meaning.specs.Linkage.{extern_block}
use Rattle.mean_start.specs.Laws.Looking.{block_in, extern_is}
use Rattle.mean_expressions.proofs.Alike.{if-some}
use Rattle.mean_expressions.proofs.Blocks.{file_here}
use Rattle.mean_expressions.proofs.locating.extern_block.Goals as goal

pub returns-in-Some-at : goal.returns-in-Some-at
returns-in-Some-at c = λ here of_here.
    let file = file_here of_here c.at.result c.in-Some.file c.at.ensures c.in-Some.is in
    if-some (λ o. extern_block here.program.units here.unit c.args.number ≡ o) c.in-Some-at.x.now.block
    (extern_is file c.args.number ∙ ap (λ es. block_in (slice_get es c.args.number)) (sym c.as_slice.ensures.value)
    ∙ ap block_in (sym c.at-in-Some.ensures ∙ ap option_copied c.in-Some-at.is))
