use Rattle.std.proofs.Common.{◌≡◌, sym, ap, ◌∙◌, option_copied, slice_get}
use Rattle.mean_expressions.proofs.Alike.{if-some}
use Rattle.mean_expressions.proofs.Blocks.{sum-of}
use Rattle.mean_effects.specs.Shown.{block_at}
use Rattle.mean_expressions.proofs.locating.local_block.Goals as goal

pub returns-in-Some-at : goal.returns-in-Some-at
returns-in-Some-at c = λ here of_window.
    if-some (λ o. here.local c.args.number ≡ o) c.in-Some-at.block.now
    (of_window.each c.args.number ∙ ap (λ i. block_at (slice_get c.args.locals.now i)) (sym (sum-of _ c.in-Some.is c.checked_add.ensures))
    ∙ ap block_at (sym c.at.ensures ∙ ap option_copied c.in-Some-at.is))
