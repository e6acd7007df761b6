-- How the scanner reads one byte of a character or a string. What such bytes mean is stated in Written.
use Rattle.std.specs.Prelude.{ℕ, ◌+◌, min, if◌then◌else◌, ◌==◌, nat_le, nat_lt, List, [], ◌∷◌, take, drop, slice_index}
use Rattle.std.specs.Prelude.{Option, Some, None}
use Rattle.std.specs.List.{prefix_len}
use Rattle.c_lex.specs.declared.fault.Fault.TheVariants.{BadByte, NumberTooLarge}
use Rattle.c_lex.specs.declared.escape.Item.{Item}
use Rattle.c_lex.specs.declared.escape.Item.TheVariants.{Byte, Close, Wrong, Cut}
use Rattle.c_lex.specs.Bytes.{is_cut_off}
use Rattle.c_lex.specs.Digits.{is_digit_of}
use Rattle.c_lex.specs.Scan.Digits.{value_of}
use Rattle.c_lex.specs.Escape.{simple_escape, is_plain}

-- an escape that gives its value by digits; over 255 it is in no character type (C11 6.4.4.4 paragraph 9)
abbrev pub numeric_escape : ℕ → ℕ → Item
numeric_escape value bytes = if nat_le value 255 then Byte value bytes else Wrong NumberTooLarge

-- one to three octal digits after the backslash, as many as follow
abbrev pub octal_count : List ℕ → ℕ
octal_count rest = min 3 (prefix_len (is_digit_of 8) rest)

-- hexadecimal digits after `\x`, as many as follow
abbrev pub hex_count : List ℕ → ℕ
hex_count rest = prefix_len (is_digit_of 16) rest

-- where the next byte of an escape is missing: a newline or the end cuts it off, and any other byte makes it wrong
abbrev pub no_escape : List ℕ → Item
no_escape rest = if is_cut_off rest then Cut else Wrong BadByte

-- hexadecimal digits; the list begins behind the `x`
abbrev pub hex_digits : List ℕ → Item
hex_digits rest =
    if nat_lt 0 (hex_count rest) then numeric_escape (value_of 16 (take (hex_count rest) rest)) (2 + hex_count rest) else no_escape rest

-- `x` and hexadecimal digits; the list begins behind the backslash
abbrev pub hexadecimal_escape : List ℕ → Item
hexadecimal_escape rest = if slice_index rest 0 == 120 then hex_digits (drop 1 rest) else no_escape rest

-- an escape by digits, or none
abbrev pub digits_escape : List ℕ → Item
digits_escape rest =
    if nat_lt 0 (octal_count rest) then numeric_escape (value_of 8 (take (octal_count rest) rest)) (1 + octal_count rest)
    else hexadecimal_escape rest

-- the simple escape, or the other one where there is none
abbrev pub simple_or : Option ℕ → Item → Item
simple_or None other = other
simple_or (Some value) other = Byte value 2

-- the escape whose backslash stands before the list
unfoldable pub escape : List ℕ → Item
escape rest = simple_or (simple_escape (slice_index rest 0)) (digits_escape rest)

-- what stands at the front between quotes: a byte as it is written, the closing quote, something that may not stand
-- there, or a newline or the end
unfoldable pub item_at : ℕ → List ℕ → Item
item_at quote [] = Cut
item_at quote (b ∷ rest) =
    if b == 10 then Cut else (if b == quote then Close else (if b == 92 then escape rest
    else (if is_plain quote b then Byte b 1 else Wrong BadByte)))
