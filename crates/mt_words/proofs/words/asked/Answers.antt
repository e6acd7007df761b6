use Rattle.std.proofs.Common.{ℕ, List, Option, IfOk, subst, sym}
use Rattle.std.specs.Borrow.{Bor}
use Rattle.mt_words.specs.Asks.{Asks}
use Rattle.mt_words.specs.Found.{Finds}
use Rattle.mt_words.specs.Held.{options_are, text_is}
use Rattle.mt_words.specs.Model.{texts}
use Rattle.mt_words.specs.Reading.{Given}
use Rattle.mt_words.specs.declared.given.Given.{Given as GivenValue}
use Rattle.mt_words.proofs.Table.{no_command}
use Rattle.mt_words.proofs.words.asked.Goals as goal

-- what is given, with another command
under : GivenValue → Option (Bor (List ℕ)) → Given
under given command = record { command = text_is command; files = texts given.files.items; options = options_are given.options }

pub returns-in-Some : goal.returns-in-Some
unfolding under
returns-in-Some c = subst (λ command. IfOk c.named.result (Finds (under c.args.given command))) (sym c.in-Some.is) c.named.ensures

pub returns : goal.returns
unfolding under
returns c = record {
  some = tt;
  none = λ job asks. no_command _ _ job
      (subst (λ command. Asks (under c.args.given command) job) c.in-None.is asks);
}
