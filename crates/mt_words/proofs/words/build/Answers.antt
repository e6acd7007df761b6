use Rattle.std.proofs.Common.{refl, subst, arith, length, ◌≤◌, sym}
use Rattle.mt_words.specs.Asks.{build}
use Rattle.mt_words.proofs.Clauses.{some_texts, texts_some}
use Rattle.mt_words.proofs.Table.{no_build}
use Rattle.mt_words.proofs.words.build.Goals as goal

pub returns-in-Some : goal.returns-in-Some
returns-in-Some c =
    let found = c.in-Some.ensures.some in
    let least : 1 ≤ length c.args.files.items = omega (arith, c.file_count-count.ensures, found.0) in
    record { some = build c.in-Some.out.now refl (some_texts c.args.files.items least) found.1; none = tt }

pub returns : goal.returns
returns c =
    record {
      some = tt;
      none = no_build _ _ (λ out some same.
          c.in-None.ensures.none out
          (let least : 1 ≤ c.file_count-count.result =
          omega (arith, c.file_count-count.ensures, texts_some c.args.files.items some) in least)
          same);
    }
