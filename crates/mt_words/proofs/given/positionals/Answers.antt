use Rattle.std.proofs.Common.{◌≡◌, ◌∙◌, ap, ap₂, codes, rules, true}
use Rattle.std.proofs.lemmas.Result.{IfOk-weaker}
use Rattle.clap.specs.Simple.{app_of, app_of_fields, new_rule, on_top, with_rule}
use Rattle.clap.specs.Walk.{rule_of}
use Rattle.mt_words.specs.Reading.{command_argument, file_argument, nameless}
use Rattle.mt_words.proofs.Parsing.{several}
use Rattle.mt_words.proofs.given.positionals.Goals as goal

pub returns : goal.returns
returns c =
    let named : app_of c.no_binary_name-command.result ≡ nameless =
    ap app_of_fields c.no_binary_name-command.ensures ∙ ap (on_top (λ shape. record shape { no_binary_name = true })) c.new.ensures.app in
    let command : rule_of c.required.result ≡ command_argument = search rules in
    let first : app_of c.in_ok-command.command ≡ with_rule nameless command_argument =
    c.in_ok-command.ensures.shape (search rules) ∙ ap₂ with_rule named command in
    let file : rule_of c.num_args.result ≡ file_argument =
    several c.new-3.result c.num_args.result c.num_args.ensures.0 c.num_args.ensures.1 c.new-3.ensures.rule in
    IfOk-weaker c.arg-2.result _ _ (λ both adds. adds.shape (search rules) ∙ ap₂ with_rule first file) c.arg-2.ensures
