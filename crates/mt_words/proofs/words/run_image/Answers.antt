use Rattle.std.proofs.Common.{refl, ◌≡◌, subst, Some, None}
use Rattle.mt_words.specs.Asks.{run}
use Rattle.mt_words.specs.Found.{FindsRun}
use Rattle.mt_words.specs.Held.{options_are}
use Rattle.mt_words.specs.Model.{run_options}
use Rattle.mt_words.proofs.Table.{no_run}
use Rattle.mt_words.proofs.words.run_image.Goals as goal

pub returns-in-Some : goal.returns-in-Some
returns-in-Some c =
    let found : FindsRun (options_are c.args.options) (Some c.in-Some.options) =
    subst (FindsRun (options_are c.args.options)) c.in-Some.is c.in_ok-found.ensures in
    record { some = run c.args.image.now (run_options c.in-Some.options) refl refl found.some; none = tt }

pub returns-in-None : goal.returns-in-None
returns-in-None c =
    let found : FindsRun (options_are c.args.options) None =
    subst (FindsRun (options_are c.args.options)) c.in-None.is c.in_ok-found.ensures in
    record { some = tt; none = no_run _ _ (λ image how one asks. found.none how asks) }
