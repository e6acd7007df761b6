-- Digits, and the number that they write.
use Rattle.std.specs.Prelude.{ℕ, ◌+◌, ◌*◌, ◌^◌, Bool, List, [], ◌∷◌, length}
use Rattle.std.specs.List.{list_all}
use Rattle.std.specs.Char.{is_digit, digit_value}

-- the byte is a digit of the radix: 8, 10 or 16
abbrev pub is_digit_of : ℕ → ℕ → Bool
is_digit_of radix b = is_digit b radix

-- each of the bytes is one
abbrev pub are_digits : ℕ → List ℕ → Bool
are_digits radix bytes = list_all (is_digit_of radix) bytes

-- The number that digits write in a radix: the sum of the digits, each times the radix to the power of the number of
-- digits behind it (C11 6.4.4.1 paragraph 4).
abbrev pub number_of : ℕ → List ℕ → ℕ
number_of radix [] = 0
number_of radix (b ∷ behind) = digit_value b * radix ^ length behind + number_of radix behind
