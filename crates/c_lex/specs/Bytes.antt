-- The kinds of bytes that the rules on tokens speak of.
use Rattle.std.specs.Prelude.{ℕ, Bool, true, ◌||◌, ◌&&◌, not, ◌==◌, nat_le, List, [], ◌∷◌}
use Rattle.std.specs.Char.{is_ascii_alphabetic, is_ascii_digit}

-- a letter or `_`: what a name begins with (C11 6.4.2.1, nondigit)
abbrev pub is_letter : ℕ → Bool
is_letter b = is_ascii_alphabetic b || b == 95

-- what a name goes on with: a letter, `_` or a digit
abbrev pub is_word : ℕ → Bool
is_word b = is_letter b || is_ascii_digit b

-- what a number goes on over: a letter, `_`, a digit or `.`
abbrev pub is_numeral_byte : ℕ → Bool
is_numeral_byte b = is_word b || b == 46

-- space, horizontal tab, newline, vertical tab, form feed or carriage return (C11 6.4 paragraph 3)
abbrev pub is_white : ℕ → Bool
is_white b = b == 32 || (nat_le 9 b && nat_le b 13)

-- space or horizontal tab, which alone may stand in a directive (C11 6.10 paragraph 5)
abbrev pub is_blank : ℕ → Bool
is_blank b = b == 32 || b == 9

-- any byte but the newline
abbrev pub is_in_line : ℕ → Bool
is_in_line b = not (b == 10)

-- a newline or the end stands at the front
abbrev pub is_cut_off : List ℕ → Bool
is_cut_off [] = true
is_cut_off (b ∷ rest) = b == 10
