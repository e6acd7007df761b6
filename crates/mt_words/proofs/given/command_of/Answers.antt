use Rattle.std.proofs.Common.{◌≡◌, ◌∙◌, ap, codes, List, ℕ}
use Rattle.std.proofs.lemmas.Result.{IfOk-weaker}
use Rattle.clap.specs.Simple.{App, app_of, with_rule}
use Rattle.mt_words.specs.Reading.{mtcc, option_argument, with_positionals, with_run_options}
use Rattle.mt_words.proofs.given.command_of.Goals as goal

with_option : List ℕ → App → App
with_option name a = with_rule a (option_argument name)

whole : (run out all : App) → run ≡ with_run_options → out ≡ with_option (codes "out") run → all ≡ with_option (codes "work") out → all
    ≡ mtcc
unfolding mtcc with_option
whole run out all first second third = third ∙ ap (with_option (codes "work")) (second ∙ ap (with_option (codes "out")) first)

for_runs : (none tags steps all : App) → none ≡ with_positionals → tags ≡ with_option (codes "tags") none →
    steps ≡ with_option (codes "steps") tags → all ≡ with_option (codes "stack") steps → all ≡ with_run_options
unfolding with_option
for_runs none tags steps all first second third fourth =
    fourth ∙ ap (with_option (codes "stack")) (third ∙ ap (with_option (codes "steps")) (second ∙ ap (with_option (codes "tags")) first))

pub returns : goal.returns
unfolding with_option
returns c =
    let run : app_of c.in_ok-command-3.command ≡ with_run_options =
    for_runs _ _ _ _ c.in_ok-positionals.ensures c.in_ok-command.ensures c.in_ok-command-2.ensures c.in_ok-command-3.ensures in
    IfOk-weaker c.with_option-5.result _ _ (λ all adds. whole _ _ _ run c.in_ok-command-4.ensures adds) c.with_option-5.ensures
