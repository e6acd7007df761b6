use Rattle.std.proofs.Common.{◌≡◌, ◌+◌, ◌*◌, ◌<◌, ◌^◌, drop, fold}
use Rattle.std.specs.Char.{digit_value}
use Rattle.c_lex.specs.Scan.Digits.{value_of}
use Rattle.c_lex.proofs.digits.value_of.Given as goal

-- the digits left go on from the value so far
abbrev pub invariant-loop-b : goal.invariant-loop-b
invariant-loop-b l = record {
  goes_on : fold (λ value b. value * l.radix + digit_value b) l.value (drop l.b-index l.digits) ≡ value_of l.radix l.digits;
  in_range : l.value < 2 ^ 64;
}
