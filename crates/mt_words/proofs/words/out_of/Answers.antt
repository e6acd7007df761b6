use Rattle.std.proofs.Common.{◌≡◌, ◌∙◌, ◌≤◌, Some, sym, arith}
use Rattle.mt_words.proofs.Clauses.{some_other, out_from}
use Rattle.mt_words.proofs.words.out_of.Goals as goal

pub returns-then-files-eq0 : goal.returns-then-files-eq0
returns-then-files-eq0 c = record { some = tt; none = λ out least same. omega (arith, c.if-files-eq0.true) }

pub returns-then-is_any_given : goal.returns-then-is_any_given
returns-then-is_any_given c =
    record {
      some = tt;
      none = λ out least same. some_other c.args.options (Some out)
          (sym c.is_any_given.ensures ∙ c.if-is_any_given.true) same;
    }

pub returns : goal.returns
returns c =
    let least : 1 ≤ c.args.files = omega (arith, c.if-files-eq0.false) in
    out_from c.args.files c.args.options least (sym c.is_any_given.ensures ∙ c.if-is_any_given.false)
