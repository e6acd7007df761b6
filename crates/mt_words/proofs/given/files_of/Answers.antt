use Rattle.std.proofs.Common.{◌≡◌, ◌∙◌, ap, codes, rules, ◌++◌, []}
use Rattle.clap.specs.Matches.{found_of}
use Rattle.mt_words.specs.Model.{texts}
use Rattle.mt_words.proofs.Parsing.{files_row, no_files_row}
use Rattle.mt_words.proofs.given.files_of.Goals as goal

pub returns-in_ok-extend_from_slice-in-Some : goal.returns-in_ok-extend_from_slice-in-Some
returns-in_ok-extend_from_slice-in-Some c =
    ap texts (c.in_ok-extend_from_slice-in-Some.ensures.items ∙ ap (λ xs. xs ++ c.in-Some.values.now) c.new-files.ensures.items)
    ∙ files_row (found_of c.args.matches.now) (codes "FILE") c.in-Some.values.now c.in-Some.ensures

pub returns-in-None : goal.returns-in-None
returns-in-None c =
    ap texts c.new-files.ensures.items ∙ no_files_row (found_of c.args.matches.now) (codes "FILE") c.in-None.ensures
