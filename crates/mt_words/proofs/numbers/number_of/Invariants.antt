use Rattle.std.specs.Prelude.{◌≡◌, ◌≤◌, take}
use Rattle.std.specs.Str.Parse.{AllDigits, digits_value}
use Rattle.mt_words.proofs.numbers.number_of.Given as goal

-- The digits so far are digits, and write the number.
abbrev pub invariant-loop-byte : goal.invariant-loop-byte
invariant-loop-byte l = record {
  all : AllDigits 10 (take l.byte-index l.digits);
  value : digits_value 10 (take l.byte-index l.digits) ≡ l.number;
  in_range : l.number ≤ l.most;
}
