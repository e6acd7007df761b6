use Rattle.std.proofs.Common.{◌≡◌, ◌∙◌, None, Some, ap, sym}
use Rattle.mt_words.specs.Asks.{none_given}
use Rattle.mt_words.specs.Held.{options_are}
use Rattle.mt_words.specs.Reading.{Options}
use Rattle.mt_words.proofs.Clauses.{file_from, is_given, no_others, not_given, some_other}
use Rattle.mt_words.proofs.words.file_alone.Goals as goal

pub returns-then-is_some : goal.returns-then-is_some
returns-then-is_some c =
    record {
      some = tt;
      none = λ file one same. is_given c.args.options.out (sym c.is_some.ensures ∙ c.if-is_some.true) (ap (λ (o : Options). o.out) same);
    }

pub returns-then-is_any_given : goal.returns-then-is_any_given
returns-then-is_any_given c =
    record { some = tt; none = λ file one same. some_other c.args.options None (sym c.is_any_given.ensures ∙ c.if-is_any_given.true) same }

pub returns : goal.returns
returns c =
    let bare : options_are c.args.options ≡ none_given =
    no_others c.args.options (sym c.is_any_given.ensures ∙ c.if-is_any_given.false)
    ∙ ap (λ out. record none_given { out = out }) (not_given c.args.options.out (sym c.is_some.ensures ∙ c.if-is_some.false)) in
    file_from _ _ c.one_file.result bare c.one_file.ensures
