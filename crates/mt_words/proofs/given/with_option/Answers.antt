use Rattle.std.proofs.Common.{◌≡◌, ◌∙◌, ap, rules}
use Rattle.std.proofs.lemmas.Result.{IfOk-weaker}
use Rattle.clap.specs.Simple.{app_of, with_rule}
use Rattle.clap.specs.Walk.{rule_of}
use Rattle.mt_words.specs.Reading.{option_argument}
use Rattle.mt_words.proofs.given.with_option.Goals as goal

pub returns : goal.returns
returns c =
    let rule : rule_of c.long.result ≡ option_argument c.args.name.now = search rules in
    IfOk-weaker c.arg.result _ _ (λ more adds. adds.shape (search rules) ∙ ap (with_rule (app_of c.args.command)) rule) c.arg.ensures
