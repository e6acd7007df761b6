-- How the scanner finds what stands at a place of a text, from the bytes there. The contracts of private functions
-- alone cite this: what tokens and faults are is stated in Spelling and Faults, and proved to be what is found here.
use Rattle.std.specs.Prelude.{ℕ, ◌+◌, if◌then◌else◌, ◌==◌, nat_le, List, length, take, drop, slice_index, Option, Some, None}
use Rattle.std.specs.List.{prefix_len}
use Rattle.std.specs.Char.{is_ascii_digit}
use Rattle.c_ast.specs.declared.int_type.IntType.{IntType}
use Rattle.c_ast.specs.declared.token.Lexeme.{Lexeme}
use Rattle.c_ast.specs.declared.token.Lexeme.TheVariants as lexeme
use Rattle.c_ast.specs.Words.{keyword_of, punctuator_of}
use Rattle.c_lex.specs.declared.fault.Fault.TheVariants.{BadByte, UnclosedText, UnclosedComment, NumberTooLarge, BadDirective}
use Rattle.c_lex.specs.declared.escape.Item.{Item}
use Rattle.c_lex.specs.declared.escape.Item.TheVariants.{Byte, Close, Wrong, Cut}
use Rattle.c_lex.specs.declared.reading.Line.{Line}
use Rattle.c_lex.specs.declared.reading.Line.TheVariants.{Clear, Spaced, Used}
use Rattle.c_lex.specs.declared.reading.Reading.{Reading}
use Rattle.c_lex.specs.declared.reading.Reading.TheVariants.{Gap, Token, Fault}
use Rattle.c_lex.specs.Bytes.{is_letter, is_word, is_white, is_in_line, is_cut_off}
use Rattle.c_lex.specs.Scan.Numeral.{numeral_at, is_numeral, fitting_bytes, numeral_value, numeral_type}
use Rattle.c_lex.specs.Scan.Escape.{item_at}
use Rattle.c_lex.specs.Scan.Quoted.{Body, closed, wrong, cut, body}
use Rattle.c_lex.specs.Directive.{include_line}
use Rattle.c_lex.specs.Gap.{begins_line_comment, begins_block_comment, block_comment}

-- a word that is no keyword is a name
abbrev pub keyword_or_name : Option ℕ → List ℕ → Lexeme
keyword_or_name None word = lexeme.Name word
keyword_or_name (Some number) word = lexeme.Keyword number

-- the longest word at the front
abbrev pub word_at : List ℕ → List ℕ
word_at rest = take (prefix_len is_word rest) rest

-- the keyword or name at the front
unfoldable pub read_word : List ℕ → Reading
read_word rest = Token (keyword_or_name (keyword_of (word_at rest)) (word_at rest)) (prefix_len is_word rest)

-- a number of a type of its list, or one that is too large
abbrev pub typed_number : ℕ → Option IntType → ℕ → Reading
typed_number value None bytes = Fault NumberTooLarge 0
typed_number value (Some ty) bytes = Token (lexeme.Number value ty) bytes

-- The first byte that does not fit is bad, or the place behind `0x` where no digit follows. A number that no type of
-- its list holds is too large.
unfoldable pub read_number : List ℕ → Reading
read_number rest =
    let bytes = numeral_at rest in
    if is_numeral bytes then typed_number (numeral_value bytes) (numeral_type bytes) (length bytes)
    else Fault BadByte (fitting_bytes bytes)

-- what stands at the place of the closing quote makes of a character
abbrev pub closing_quote : ℕ → ℕ → List ℕ → Reading
closing_quote value place rest =
    if is_cut_off rest then Fault UnclosedText 0
    else (if slice_index rest 0 == 39 then Token (lexeme.Character value) (place + 1) else Fault BadByte place)

-- what the first item makes of a character
abbrev pub character_from : Item → List ℕ → Reading
character_from (Byte value bytes) rest = closing_quote value (1 + bytes) (drop (1 + bytes) rest)
character_from Close rest = Fault BadByte 1
character_from (Wrong fault) rest = Fault fault 1
character_from Cut rest = Fault UnclosedText 0

-- a quote, one item, a quote; a newline or the end before the closing quote is a fault of the opening one
unfoldable pub read_character : List ℕ → Reading
read_character rest = character_from (item_at 39 (drop 1 rest)) rest

-- what a body makes of a string
abbrev pub text_from : Body → Reading
text_from (closed values place) = Token (lexeme.Text values) (1 + place)
text_from (wrong fault place) = Fault fault (1 + place)
text_from cut = Fault UnclosedText 0

-- the string whose opening quote stands at the front
unfoldable pub read_text : List ℕ → Reading
read_text rest = text_from (body (drop 1 rest))

-- the directive, or a bad line where there is none
abbrev pub include_or : Option ℕ → Reading
include_or None = Fault BadDirective 0
include_or (Some bytes) = Token lexeme.Include bytes

-- A `#` that is the first token of its line begins a directive, and any other `#` is a bad byte. Before the `#` only
-- spaces and tabs may stand on the line.
unfoldable pub read_directive : Line → List ℕ → Reading
read_directive Used rest = Fault BadByte 0
read_directive Spaced rest = Fault BadDirective 0
read_directive Clear rest = include_or (include_line rest)

-- the punctuator, or the other reading where there is none
abbrev pub punctuator_or : Option ℕ → ℕ → Reading → Reading
punctuator_or None bytes other = other
punctuator_or (Some number) bytes other = Token (lexeme.Punct number) bytes

-- the punctuator of this many bytes at the front, if there is one
abbrev pub punctuator_at : ℕ → List ℕ → Option ℕ
punctuator_at bytes rest = if nat_le bytes (length rest) then punctuator_of (take bytes rest) else None

-- the punctuator of one byte at the front, and a bad byte where there is none
abbrev pub read_single : List ℕ → Reading
read_single rest = punctuator_or (punctuator_at 1 rest) 1 (Fault BadByte 0)

-- the longest punctuator at the front, and a bad byte where there is none
unfoldable pub read_punctuator : List ℕ → Reading
read_punctuator rest = punctuator_or (punctuator_at 3 rest) 3 (punctuator_or (punctuator_at 2 rest) 2 (read_single rest))

-- where no gap begins: what the first byte says that it is
unfoldable pub read_token : Line → ℕ → List ℕ → Reading
read_token line b rest =
    if is_letter b then read_word rest
    else (if is_ascii_digit b then read_number rest
    else (if b == 39 then read_character rest
    else (if b == 34 then read_text rest
    else (if b == 35 then read_directive line rest else read_punctuator rest))))

-- the comment, or a fault where it has no end
abbrev pub comment_or : Option ℕ → Reading
comment_or None = Fault UnclosedComment 0
comment_or (Some bytes) = Gap bytes

-- what stands at the front of a text that is not empty, on a line where this stands before it
unfoldable pub read : Line → List ℕ → Reading
read line rest =
    if is_white (slice_index rest 0) then Gap 1
    else (if begins_line_comment rest then Gap (prefix_len is_in_line rest)
    else (if begins_block_comment rest then comment_or (block_comment rest)
    else read_token line (slice_index rest 0) rest))
