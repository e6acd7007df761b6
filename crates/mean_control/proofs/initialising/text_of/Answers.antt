use Rattle.std.proofs.Common.{ap, sym, ◌∙◌, slice_get, option_copied}
use Rattle.mean_control.proofs.Texts.{text-there}
use Rattle.mean_control.proofs.initialising.text_of.Goals as goal

pub returns-in-Some-at : goal.returns-in-Some-at
returns-in-Some-at c = λ here of_here. text-there here c.args.number (c.in-Some.ensures here of_here)
    (ap (λ texts. slice_get texts c.args.number) (sym c.as_slice.ensures) ∙ sym c.at.ensures ∙ ap option_copied c.in-Some-at.is)
