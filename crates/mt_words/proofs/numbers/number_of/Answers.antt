use Rattle.std.proofs.Common.{◌≡◌, arith, take}
use Rattle.std.proofs.lemmas.Int.Digits.{digits_more, digits_value_more}
use Rattle.std.proofs.lemmas.List.{take_all}
use Rattle.mt_words.proofs.numbers.number_of.Goals as goal

pub loop-byte-preserved : goal.loop-byte-preserved
loop-byte-preserved c = record { all = grind (arith, digits_more); value = grind (arith, digits_value_more); in_range = omega arith }

pub returns-clause-some : goal.returns-clause-some
returns-clause-some c =
    let whole : take c.loop-byte.byte-index c.args.digits.now ≡ c.args.digits.now =
    take_all c.loop-byte.byte-index c.args.digits.now c.loop-byte-test.false in
    record {
      all = rw whole at c.loop-byte.invariant.all;
      value = rw whole at c.loop-byte.invariant.value;
      in_range = c.loop-byte.invariant.in_range;
    }
