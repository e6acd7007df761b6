-- Words of the scanner, for the contracts of its private functions alone.
use Rattle.std.specs.Prelude.{ℕ, ◌≤◌, Bool, ◌||◌, if◌then◌else◌, ◌==◌}
use Rattle.c_lex.specs.declared.bytes.Kind.{Kind}
use Rattle.c_lex.specs.declared.bytes.Kind.TheVariants.{Word, Numeral, Blank, InLine}
use Rattle.c_lex.specs.declared.escape.Item.{Item}
use Rattle.c_lex.specs.declared.escape.Item.TheVariants.{Byte, Close}
use Rattle.c_lex.specs.declared.reading.Line.{Line}
use Rattle.c_lex.specs.declared.reading.Line.TheVariants.{Clear, Spaced, Used}
use Rattle.c_lex.specs.Bytes.{is_word, is_numeral_byte, is_blank, is_in_line}

-- the bytes of each kind
abbrev pub is_of : Kind → ℕ → Bool
is_of Word b = is_word b
is_of Numeral b = is_numeral_byte b
is_of Blank b = is_blank b
is_of InLine b = is_in_line b

-- the item takes at least one byte, and no more than these
abbrev pub ItemFits : Item → ℕ → Type 0
ItemFits (Byte value bytes) limit = (1 ≤ bytes) × (bytes ≤ limit)
ItemFits Close limit = 1 ≤ limit
ItemFits _ limit = Unit {0}

-- a byte that stands second in some punctuator
abbrev pub is_second_of_punctuator : ℕ → Bool
is_second_of_punctuator b = b == 61 || b == 43 || b == 45 || b == 60 || b == 62 || b == 38 || b == 124

-- something that is no space or tab stands on the line now, and it is no token
abbrev pub spaced : Line → Line
spaced Used = Used
spaced _ = Spaced

-- what stands on the line behind a gap that begins with this byte, where this stood before it
abbrev pub line_behind : Line → ℕ → Line
line_behind line b = if b == 10 then Clear else (if is_blank b then line else spaced line)
