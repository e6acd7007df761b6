-- The faults of a text by what the scanner finds: the rules of Faults, over items between quotes and the parts of numbers.
use Rattle.std.specs.Prelude.{◌≡◌, ◌≢◌, ℕ, ◌+◌, ◌<◌, ◌≤◌, Bool, true, false, ◌||◌, ◌&&◌, ◌==◌, nat_lt, List, length, take, drop}
use Rattle.std.specs.Prelude.{slice_index, None}
use Rattle.std.specs.Char.{is_ascii_digit}
use Rattle.c_ast.specs.Words.{punctuator_of}
use Rattle.c_lex.specs.declared.fault.Fault.{Fault}
use Rattle.c_lex.specs.declared.fault.Fault.TheVariants.{BadByte, UnclosedText, UnclosedComment, NumberTooLarge}
use Rattle.c_lex.specs.declared.escape.Item.TheVariants.{Byte}
use Rattle.c_lex.specs.Bytes.{is_cut_off}
use Rattle.c_lex.specs.Scan.Digits.{value_of}
use Rattle.c_lex.specs.Scan.Numeral.{numeral_at, is_numeral, fitting_bytes, numeral_type}
use Rattle.c_lex.specs.Escape.{simple_escape, is_plain}
use Rattle.c_lex.specs.Scan.Escape.{octal_count, hex_count, item_at}
use Rattle.c_lex.specs.Gap.{begins_line_comment, begins_block_comment, block_comment}
use Rattle.c_lex.specs.Faults.{cuts_escape, is_cut, begins_other}

-- `x` and a hexadecimal digit, which follow the backslash of a hexadecimal escape
abbrev pub begins_hexadecimal : List ℕ → Bool
begins_hexadecimal rest = slice_index rest 0 == 120 && nat_lt 0 (hex_count (drop 1 rest))

-- What may not stand at the front between quotes of this kind: a byte that does not stand for itself, a backslash
-- that begins no escape of C11 6.4.4.4, or an octal or hexadecimal escape over 255.
pub data IsWrong (quote : ℕ) (rest : List ℕ) : Fault → Type 0 where
  byte : is_cut_off rest ≡ false → slice_index rest 0 ≢ quote → slice_index rest 0 ≢ 92 → is_plain quote (slice_index rest 0) ≡ false
      → IsWrong quote rest BadByte
  escape : slice_index rest 0 ≡ 92 → simple_escape (slice_index rest 1) ≡ None → octal_count (drop 1 rest) ≡ 0
      → begins_hexadecimal (drop 1 rest) ≡ false →
      cuts_escape (drop 1 rest) ≡ false → IsWrong quote rest BadByte
  octal : slice_index rest 0 ≡ 92 → 0 < octal_count (drop 1 rest) → 255 < value_of 8 (take (octal_count (drop 1 rest)) (drop 1 rest)) →
      IsWrong quote rest NumberTooLarge
  hexadecimal : slice_index rest 0 ≡ 92 → begins_hexadecimal (drop 1 rest) ≡ true
      → 255 < value_of 16 (take (hex_count (drop 2 rest)) (drop 2 rest)) →
      IsWrong quote rest NumberTooLarge

-- the first bytes are items in turn, each a byte as it is written between quotes of this kind
pub data AreItems (quote : ℕ) (rest : List ℕ) : ℕ → Type 0 where
  none : AreItems quote rest 0
  more : {place : ℕ} (value bytes : ℕ) → AreItems quote rest place → item_at quote (drop place rest) ≡ Byte value bytes
      → AreItems quote rest (place + bytes)

-- The bytes from a place on are this fault, at the byte of this number.
pub data FaultAt (rest : List ℕ) : Fault → ℕ → Type 0 where
  -- a byte that begins nothing
  stray : 0 < length rest → begins_other (slice_index rest 0) ≡ false → (begins_line_comment rest || begins_block_comment rest) ≡ false →
      ((bytes : ℕ) → bytes ≤ length rest → punctuator_of (take bytes rest) ≡ None) → FaultAt rest BadByte 0
  -- `/*` and no `*/` behind it
  unclosed_comment : begins_block_comment rest ≡ true → block_comment rest ≡ None → FaultAt rest UnclosedComment 0
  -- a number, at its first byte that does not fit, which is the place behind `0x` where no digit follows
  unfit_number : is_ascii_digit (slice_index rest 0) ≡ true → is_numeral (numeral_at rest) ≡ false
      → FaultAt rest BadByte (fitting_bytes (numeral_at rest))
  -- a number that no type of its list holds
  large_number : is_ascii_digit (slice_index rest 0) ≡ true → is_numeral (numeral_at rest) ≡ true → numeral_type (numeral_at rest) ≡ None →
      FaultAt rest NumberTooLarge 0
  -- a string, at the first place behind its items that holds what may not stand there
  wrong_in_text : {what : Fault} {place : ℕ} → slice_index rest 0 ≡ 34 → AreItems 34 (drop 1 rest) place
      → IsWrong 34 (drop (1 + place) rest) what →
      FaultAt rest what (1 + place)
  -- a string that a newline or the end cuts off behind its items
  unclosed_text : {place : ℕ} → slice_index rest 0 ≡ 34 → AreItems 34 (drop 1 rest) place → is_cut (drop (1 + place) rest) ≡ true →
      FaultAt rest UnclosedText 0
  -- a character with no item
  empty_character : slice_index rest 0 ≡ 39 → slice_index rest 1 ≡ 39 → FaultAt rest BadByte 1
  -- a character whose item may not stand there
  wrong_in_character : {what : Fault} → slice_index rest 0 ≡ 39 → IsWrong 39 (drop 1 rest) what → FaultAt rest what 1
  -- a character of more than one item, at the second
  long_character : {value bytes : ℕ} → slice_index rest 0 ≡ 39 → item_at 39 (drop 1 rest) ≡ Byte value bytes
      → slice_index rest (1 + bytes) ≢ 39 →
      is_cut_off (drop (1 + bytes) rest) ≡ false → FaultAt rest BadByte (1 + bytes)
  -- a character that a newline or the end cuts off before its item, or behind it
  unclosed_quote : slice_index rest 0 ≡ 39 → is_cut (drop 1 rest) ≡ true → FaultAt rest UnclosedText 0
  unclosed_character : {value bytes : ℕ} → slice_index rest 0 ≡ 39 → item_at 39 (drop 1 rest) ≡ Byte value bytes
      → is_cut_off (drop (1 + bytes) rest) ≡ true →
      FaultAt rest UnclosedText 0
