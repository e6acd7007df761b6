use Rattle.std.specs.Prelude.{◌≡◌, map, take}
use Rattle.std.specs.Char.{digit_value}
use Rattle.std.specs.Str.Parse.{AllDigits}
use Rattle.mt_words.proofs.numbers.choices_of.Given as goal

-- The digits so far are digits, and the choices are theirs.
abbrev pub invariant-loop-byte : goal.invariant-loop-byte
invariant-loop-byte l = record {
  all : AllDigits 16 (take l.byte-index l.digits);
  values : l.choices.items ≡ map digit_value (take l.byte-index l.digits);
}
