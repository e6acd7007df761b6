use Rattle.std.proofs.Common.{◌≡◌, sym, subst, codes, IfOk}
use Rattle.mt_words.specs.Found.{Finds}
use Rattle.mt_words.specs.Held.{options_are}
use Rattle.mt_words.specs.Reading.{Given}
use Rattle.mt_words.proofs.Clauses.{run_given}
use Rattle.mt_words.proofs.Table.{no_run}
use Rattle.mt_words.proofs.words.run.Goals as goal

pub returns-in-Some : goal.returns-in-Some
returns-in-Some c =
    subst (λ given. IfOk c.run_image.result (Finds given))
    (sym (run_given c.args.files.items c.in-Some.image.now c.args.options c.in-Some.ensures.some))
    c.run_image.ensures

pub returns-in-None : goal.returns-in-None
returns-in-None c = record { some = tt; none = no_run _ _ (λ image how one asks. c.in-None.ensures.none image one) }
