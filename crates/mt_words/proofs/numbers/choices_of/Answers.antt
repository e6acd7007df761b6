use Rattle.std.proofs.Common.{refl, ◌≡◌, ◌∙◌, ◌+◌, [], ◌∷◌, ◌++◌, get_or, map, take, arith}
use Rattle.std.specs.Char.{digit_value}
use Rattle.std.proofs.lemmas.Int.Digits.{digits_more}
use Rattle.std.proofs.lemmas.List.{map-append, take_more}
use Rattle.mt_words.proofs.Digits.{hex_digit_at}
use Rattle.mt_words.proofs.numbers.choices_of.Goals as goal

pub returns-in-None-clause-none : goal.returns-in-None-clause-none
returns-in-None-clause-none c choices are =
    absurd (omega (arith, c.in-None.ensures.none, hex_digit_at c.args.digits.now c.loop-byte.byte-index are.all c.loop-byte-test.true))

pub loop-byte-preserved : goal.loop-byte-preserved
loop-byte-preserved c =
    let digits = c.args.digits.now in
    let i = c.loop-byte.byte-index in
    let more : take (i + 1) digits ≡ take i digits ++ get_or digits i 0 ∷ [] = take_more digits i 0 c.loop-byte-test.true in
    record {
      all = digits_more 16 digits i c.loop-byte-test.true c.loop-byte.invariant.all c.in-Some.ensures.digit;
      values = c.in_ok-push-in-Some.ensures.items ∙ rw (more, map-append, ← c.loop-byte.invariant.values, c.in-Some.ensures.some) refl;
    }
