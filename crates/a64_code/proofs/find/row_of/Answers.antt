use Rattle.std.proofs.Common.{sym, ap, ◌∙◌}
use Rattle.std.specs.Option.{option_copied}
use Rattle.a64_code.proofs.Listing.{first-found}
use Rattle.a64_code.proofs.find.row_of.Goals as goal

pub returns-in-Some : goal.returns-in-Some
returns-in-Some c = first-found c.args.word c.min-start.result c.in-Some.row.now (sym c.first_from.ensures ∙ ap option_copied c.in-Some.is)
