-- What the code holds of the words.
use Rattle.std.specs.Prelude.{ℕ, List, Option, option_map}
use Rattle.std.specs.Borrow.{Bor}
use Rattle.mt_words.specs.declared.given.Options.{Options as OptionsValue}
use Rattle.mt_words.specs.declared.given.Given.{Given as GivenValue}
use Rattle.mt_words.specs.Reading.{Given, Options}
use Rattle.mt_words.specs.Model.{texts}

abbrev pub text_is : Option (Bor (List ℕ)) → Option (List ℕ)
text_is = option_map (λ text. text.now)

abbrev pub options_are : OptionsValue → Options
options_are options = record {
  out = text_is options.out;
  tags = text_is options.tags;
  steps = text_is options.steps;
  stack = text_is options.stack;
  work = text_is options.work;
}

abbrev pub given_is : GivenValue → Given
given_is given = record { command = text_is given.command; files = texts given.files.items; options = options_are given.options }
