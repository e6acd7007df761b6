use Rattle.std.proofs.Common.{◌≡◌, codes}
use Rattle.clap.specs.Matches.{found_of}
use Rattle.clap.specs.Walk.{rows_of}
use Rattle.mt_words.specs.Held.{options_are}
use Rattle.mt_words.specs.Reading.{Options, options_in}
use Rattle.mt_words.proofs.Parsing.{option_row}
use Rattle.mt_words.proofs.given.options_of.Goals as goal

pub returns : goal.returns
returns c =
    let found = found_of c.args.matches.now in
    let out = option_row found (codes "out") c.get_str-out.result c.get_str-out.ensures in
    let tags = option_row found (codes "tags") c.get_str-tags.result c.get_str-tags.ensures in
    let steps = option_row found (codes "steps") c.get_str-steps.result c.get_str-steps.ensures in
    let stack = option_row found (codes "stack") c.get_str-stack.result c.get_str-stack.ensures in
    let work = option_row found (codes "work") c.get_str-work.result c.get_str-work.ensures in
    λ i. record { out = out i; tags = tags i; steps = steps i; stack = stack i; work = work i }
