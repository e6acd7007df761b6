use Rattle.std.proofs.Common.{◌≡◌, codes}
use Rattle.clap.specs.Matches.{found_of}
use Rattle.mt_words.proofs.Parsing.{option_row}
use Rattle.mt_words.proofs.given.given_of.Goals as goal

pub returns : goal.returns
returns c =
    let command = option_row (found_of c.args.matches.now) (codes "COMMAND") c.get_str-command.result c.get_str-command.ensures in
    λ i. record { command = command i; files = c.in_ok-files.ensures i; options = c.options_of-options.ensures i }
