use Rattle.std.proofs.Common.{◌≡◌, ◌+◌, ◌*◌, drop, get_or, fold, arith, sym, ◌∙◌}
use Rattle.std.specs.Char.{digit_value}
use Rattle.std.proofs.lemmas.List.{at_drop_more, at_drop_all}
use Rattle.c_lex.specs.Scan.Digits.{value_of}
use Rattle.c_lex.proofs.DigitLaws.{fold-grows}
use Rattle.c_lex.proofs.digits.value_of.Goals as goal

-- the digit passes the limit, and further digits make the number no smaller
pub returns-in-None : goal.returns-in-None
returns-in-None c = λ small.
    let radix = c.args.radix in
    let digits = c.args.digits.now in
    let at = c.loop-b.b-index in
    let with = c.loop-b.value * radix + digit_value (get_or digits at 0) in
    let whole : fold (λ v b. v * radix + digit_value b) with (drop (at + 1) digits) ≡ value_of radix digits =
    sym (at_drop_more (fold (λ v b. v * radix + digit_value b) c.loop-b.value) digits at 0 c.loop-b-test.true)
    ∙ c.loop-b.invariant.goes_on in
    c.in-None.ensures (omega (arith, fold-grows radix with (drop (at + 1) digits) c.requires, whole))

pub returns : goal.returns
returns c =
    let radix = c.args.radix in
    let whole = sym (at_drop_all (fold (λ v b.
    v * radix + digit_value b) c.loop-b.value) c.args.digits.now c.loop-b.b-index c.loop-b-test.false) ∙ c.loop-b.invariant.goes_on in
    (omega (arith, whole, c.loop-b.invariant.in_range), whole)
