use Rattle.std.proofs.Common.{ap, sym, ◌∙◌, option_copied}
use Rattle.mean_control.proofs.Texts.{file-there}
use Rattle.mean_control.proofs.initialising.file_here.Goals as goal

pub returns-in-Some : goal.returns-in-Some
returns-in-Some c = λ here of_here. file-there of_here (sym c.at.ensures ∙ ap option_copied c.in-Some.is)
