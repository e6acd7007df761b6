-- The digits of a numeral, and of what stands in front of one of them.
use Rattle.std.proofs.Common.{ℕ, ◌≡◌, ◌+◌, ◌*◌, ◌<◌, ◌≤◌, List, [], ◌∷◌, length, get_or, take, zero, suc, lit≤, arith}
use Rattle.std.specs.Char.{digit_value}
use Rattle.std.specs.Str.Parse.{AllDigits, digits_value}
use Rattle.std.proofs.lemmas.Int.Digits.{digits_value_more}
use Rattle.std.proofs.lemmas.Str.Parse.{digits_value-take-le}

-- each one is a digit
pub digit_at : (ds : List ℕ) (i : ℕ) → AllDigits 10 ds → i < length ds → digit_value (get_or ds i 0) < 10
digit_at [] i all inside = absurd (omega arith)
digit_at (d ∷ ds) zero all inside = all.0
digit_at (d ∷ ds) (suc i) all inside = digit_at ds i all.1 (omega arith)

pub hex_digit_at : (ds : List ℕ) (i : ℕ) → AllDigits 16 ds → i < length ds → digit_value (get_or ds i 0) < 16
hex_digit_at [] i all inside = absurd (omega arith)
hex_digit_at (d ∷ ds) zero all inside = all.0
hex_digit_at (d ∷ ds) (suc i) all inside = hex_digit_at ds i all.1 (omega arith)

-- the digits as far as one of them spell at most what all spell
pub digits_value_so_far : (ds : List ℕ) (i : ℕ) → i < length ds →
    digits_value 10 (take i ds) * 10 + digit_value (get_or ds i 0) ≤ digits_value 10 ds
digits_value_so_far ds i inside = omega (arith, digits_value_more 10 ds i inside, digits_value-take-le 10 ds (i + 1) (lit≤ tt))
