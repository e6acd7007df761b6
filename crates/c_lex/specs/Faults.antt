-- The faults of a text, one rule for each: what stands where neither a gap nor a token begins, and at which byte.
use Rattle.std.specs.Prelude.{◌≡◌, ◌≢◌, ℕ, IsTrue, ◌+◌, ◌<◌, ◌≤◌, Bool, true, false, ◌||◌, ◌&&◌, ◌==◌, List, length, take, drop}
use Rattle.std.specs.Prelude.{slice_index, None}
use Rattle.std.specs.Char.{is_ascii_digit}
use Rattle.c_ast.specs.Seen.{Seen}
use Rattle.c_ast.specs.declared.int_type.IntType.{IntType}
use Rattle.c_ast.specs.Words.{punctuator_of}
use Rattle.c_lex.specs.declared.fault.Fault.{Fault}
use Rattle.c_lex.specs.declared.fault.Fault.TheVariants.{BadByte, UnclosedText, UnclosedComment, NumberTooLarge, BadDirective}
use Rattle.c_lex.specs.Bytes.{is_white, is_letter, is_cut_off}
use Rattle.c_lex.specs.Constant.{IsInteger, IsConstant}
use Rattle.c_lex.specs.Number.{NumberAt, FitsTo}
use Rattle.c_lex.specs.Written.{WrittenAt, IsUnwritten}
use Rattle.c_lex.specs.Directive.{is_include_line}
use Rattle.c_lex.specs.Gap.{begins_line_comment, begins_block_comment, block_comment}
use Rattle.c_lex.specs.Lines.{IsFirstOnLine, IsBehindBlanks}

-- A newline or the end stands behind a backslash, in the place of the byte that makes the escape, or behind its `x`.
abbrev pub cuts_escape : List ℕ → Bool
cuts_escape rest = is_cut_off rest || (slice_index rest 0 == 120 && is_cut_off (drop 1 rest))

-- a newline or the end stands here, or within the escape that begins here
abbrev pub is_cut : List ℕ → Bool
is_cut rest = is_cut_off rest || (slice_index rest 0 == 92 && cuts_escape (drop 1 rest))

-- What may not stand at the front between quotes of this kind.
pub data IsWrong (quote : ℕ) (rest : List ℕ) : Fault → Type 0 where
  -- no byte is written there, and neither the closing quote nor a newline or the end stands there
  unwritten : IsUnwritten quote rest → slice_index rest 0 ≢ quote → is_cut rest ≡ false → IsWrong quote rest BadByte
  -- an escape over 255, which is in no character type (C11 6.4.4.4 paragraph 9)
  large : {value bytes : ℕ} → WrittenAt quote rest value bytes → 255 < value → IsWrong quote rest NumberTooLarge

-- the first bytes are bytes as they are written between quotes of this kind, in turn
pub data AreItems (quote : ℕ) (rest : List ℕ) : ℕ → Type 0 where
  none : AreItems quote rest 0
  more : {place : ℕ} (value bytes : ℕ) → AreItems quote rest place → WrittenAt quote (drop place rest) value bytes → value ≤ 255 →
      AreItems quote rest (place + bytes)

-- a byte that white space, a name, a number, a character, a string or a `#` begins with
abbrev pub begins_other : ℕ → Bool
begins_other b = is_white b || (is_letter b || (is_ascii_digit b || (b == 39 || (b == 34 || b == 35))))

-- The bytes from a place on are this fault, at the byte of this number.
pub data FaultAt (rest : List ℕ) : Fault → ℕ → Type 0 where
  -- a byte that begins nothing
  stray : 0 < length rest → begins_other (slice_index rest 0) ≡ false → (begins_line_comment rest || begins_block_comment rest) ≡ false →
      ((bytes : ℕ) → bytes ≤ length rest → punctuator_of (take bytes rest) ≡ None) → FaultAt rest BadByte 0
  -- `/*` and no `*/` behind it
  unclosed_comment : begins_block_comment rest ≡ true → block_comment rest ≡ None → FaultAt rest UnclosedComment 0
  -- a number that is no integer constant, behind the bytes with which one may begin: behind `0x`, where no digit follows
  unfit_number : {bytes place : ℕ} → NumberAt rest bytes → ¬ IsInteger (take bytes rest) → FitsTo (take bytes rest) place →
      FaultAt rest BadByte place
  -- an integer constant whose value no type of its list holds
  large_number : {bytes : ℕ} → NumberAt rest bytes → IsInteger (take bytes rest) →
      ((value : ℕ) (ty : IntType) → ¬ IsConstant value ty (take bytes rest)) → FaultAt rest NumberTooLarge 0
  -- a string, at the first place behind its items that holds what may not stand there
  wrong_in_text : {what : Fault} {place : ℕ} → slice_index rest 0 ≡ 34 → AreItems 34 (drop 1 rest) place
      → IsWrong 34 (drop (1 + place) rest) what →
      FaultAt rest what (1 + place)
  -- a string that a newline or the end cuts off behind its items
  unclosed_text : {place : ℕ} → slice_index rest 0 ≡ 34 → AreItems 34 (drop 1 rest) place → is_cut (drop (1 + place) rest) ≡ true →
      FaultAt rest UnclosedText 0
  -- a character with no item
  empty_character : slice_index rest 0 ≡ 39 → slice_index rest 1 ≡ 39 → FaultAt rest BadByte 1
  -- a character whose item may not stand there
  wrong_in_character : {what : Fault} → slice_index rest 0 ≡ 39 → IsWrong 39 (drop 1 rest) what → FaultAt rest what 1
  -- a character of more than one item, at the second
  long_character : {value bytes : ℕ} → slice_index rest 0 ≡ 39 → WrittenAt 39 (drop 1 rest) value bytes → value ≤ 255
      → slice_index rest (1 + bytes) ≢ 39 →
      is_cut_off (drop (1 + bytes) rest) ≡ false → FaultAt rest BadByte (1 + bytes)
  -- a character that a newline or the end cuts off before its item, or behind it
  unclosed_quote : slice_index rest 0 ≡ 39 → is_cut (drop 1 rest) ≡ true → FaultAt rest UnclosedText 0
  unclosed_character : {value bytes : ℕ} → slice_index rest 0 ≡ 39 → WrittenAt 39 (drop 1 rest) value bytes → value ≤ 255
      → is_cut_off (drop (1 + bytes) rest) ≡ true →
      FaultAt rest UnclosedText 0

-- the line with a `#` at this place, behind these tokens, is the directive
abbrev pub IsDirective : List ℕ → List Seen → ℕ → Type 0
IsDirective text tokens place = IsBehindBlanks text tokens place × IsTrue (is_include_line (drop place text))

-- At this place of a text, behind these tokens, stands this fault, so many bytes behind the place.
pub data Faulty (text : List ℕ) (tokens : List Seen) (place : ℕ) : Fault → ℕ → Type 0 where
  -- what the bytes from the place on say
  by_bytes : {what : Fault} {offset : ℕ} → FaultAt (drop place text) what offset → Faulty text tokens place what offset
  -- a `#` that is the first token of its line, where the line is not the directive
  not_directive : slice_index (drop place text) 0 ≡ 35 → IsFirstOnLine text tokens place → ¬ IsDirective text tokens place
      → Faulty text tokens place BadDirective 0
  -- a `#` behind a token of its line
  late_hash : slice_index (drop place text) 0 ≡ 35 → ¬ IsFirstOnLine text tokens place → Faulty text tokens place BadByte 0
