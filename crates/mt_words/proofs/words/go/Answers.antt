use Rattle.std.proofs.Common.{refl, arith, length, ◌≤◌, ◌≡◌, ◌∙◌, sym, subst, Some, None}
use Rattle.mt_words.specs.Asks.{go}
use Rattle.mt_words.specs.Found.{FindsRun}
use Rattle.mt_words.specs.Held.{options_are}
use Rattle.mt_words.specs.Model.{run_options}
use Rattle.mt_words.proofs.Clauses.{nothing_to_go, some_texts}
use Rattle.mt_words.proofs.Table.{no_go}
use Rattle.mt_words.proofs.words.go.Goals as goal

pub returns-then-count-eq0 : goal.returns-then-count-eq0
returns-then-count-eq0 c = nothing_to_go c.args.files.items c.args.options (sym c.file_count-count.ensures ∙ c.if-count-eq0.true)

pub returns-in-Some : goal.returns-in-Some
returns-in-Some c =
    let least : 1 ≤ length c.args.files.items = omega (arith, c.file_count-count.ensures, c.if-count-eq0.false) in
    let found : FindsRun (options_are c.args.options) (Some c.in-Some.options) =
    subst (FindsRun (options_are c.args.options)) c.in-Some.is c.in_ok-found.ensures in
    record { some = go (run_options c.in-Some.options) refl (some_texts c.args.files.items least) found.some; none = tt }

pub returns : goal.returns
returns c =
    let found : FindsRun (options_are c.args.options) None =
    subst (FindsRun (options_are c.args.options)) c.in-None.is c.in_ok-found.ensures in
    record { some = tt; none = no_go _ _ (λ how some asks. found.none how asks) }
