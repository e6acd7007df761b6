use Rattle.std.proofs.Common.{refl, arith, length, ◌≤◌, ◌≡◌, ◌∙◌, sym}
use Rattle.mt_words.specs.Asks.{mean}
use Rattle.mt_words.specs.Model.{mean_options}
use Rattle.mt_words.proofs.Clauses.{nothing_to_mean, some_texts}
use Rattle.mt_words.proofs.Table.{no_mean}
use Rattle.mt_words.proofs.words.mean.Goals as goal

pub returns-then-count-eq0 : goal.returns-then-count-eq0
returns-then-count-eq0 c = nothing_to_mean c.args.files.items c.args.options (sym c.file_count-count.ensures ∙ c.if-count-eq0.true)

pub returns-in-Some : goal.returns-in-Some
returns-in-Some c =
    let least : 1 ≤ length c.args.files.items = omega (arith, c.file_count-count.ensures, c.if-count-eq0.false) in
    record { some = mean (mean_options c.in-Some.options) refl (some_texts c.args.files.items least) c.in-Some.ensures.some; none = tt }

pub returns : goal.returns
returns c = record { some = tt; none = no_mean _ _ (λ how some asks. c.in-None.ensures.none how asks) }
