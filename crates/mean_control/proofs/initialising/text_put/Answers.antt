use Rattle.std.proofs.Common.{ap, subst, sym, ◌∙◌, map, take, Some}
use Rattle.block_meaning.specs.declared.cell.Cell.TheVariants.{Byte}
use Rattle.block_meaning.specs.Blocks.{stored}
use Rattle.block_meaning.specs.Running.{with_blocks, with_some}
use Rattle.mean_effects.specs.Shown.{Gives}
use Rattle.mean_control.proofs.initialising.text_put.Goals as goal

pub returns-in-Some : goal.returns-in-Some
returns-in-Some c = λ here now of_here of_now.
    let chars = c.args.chars in
    subst (λ text. Gives c.fill_text.new.n now c.fill_text.result
    (with_some text (λ bytes. with_blocks (stored chars.at (map Byte (take chars.count bytes)))) now))
    (sym (c.in-Some.ensures here of_here ∙ ap Some (sym c.as_slice.ensures))) (c.fill_text.ensures now of_now)
