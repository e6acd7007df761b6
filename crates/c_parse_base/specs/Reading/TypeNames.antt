-- The parser of type names (ISO C11 6.7.2, 6.7.7), by the number of stars that may stand in one.
use Rattle.std.specs.Prelude.{ℕ, suc, Bool, true, nat_lt, ◌||◌, Option, is_some}
use Rattle.c_ast.specs.declared.token.Span.{Span}
use Rattle.c_ast.specs.Seen.{Seen as Token}
use Rattle.c_ast.specs.declared.expr.CType.TheVariants as type
use Rattle.c_ast.specs.declared.keyword.Keyword.TheVariants as key
use Rattle.c_ast.specs.declared.punctuator.Punctuator.TheVariants as mark
use Rattle.c_grammar.specs.Words.{word_of, keyword, punctuator}
use Rattle.c_parse_base.specs.declared.words.Named.{Named}
use Rattle.c_parse_base.specs.Reading.Answer.{Parser, word, thens, makes, either, chain, optional}
use Rattle.c_parse_base.specs.Reading.Words as read
use Rattle.c_parse_base.specs.Reading.Words.{is, punct, pick_word}
use Rattle.c_parse_base.specs.declared.type_words.TypeWords.{TypeWords}
use Rattle.c_parse_base.specs.declared.type_read.TypeRead.{TypeRead}
use Rattle.c_parse_base.specs.Reading.TypeWords.{first_at, pick_first, pick_size, is_size, first_of, sized_of, int_of}

abbrev pub Reader : Type 0
Reader = Parser Token TypeRead

abbrev pub WordReader : Type 0
WordReader = Parser Token TypeWords

-- there is always room for a word
abbrev pub free : TypeWords → Bool
free a = true

abbrev pub takes_size : TypeWords → Bool
takes_size a = a.takes_size

abbrev pub takes_int : TypeWords → Bool
takes_int a = a.takes_int

-- the first word of an integer type
unfoldable pub first_word : WordReader
first_word = makes first_of (word pick_first)

-- "char", "short" or "long" behind `signed` or `unsigned`
unfoldable pub size_word : TypeWords → WordReader
size_word a = makes (sized_of a) (word pick_size)

-- "int" behind other words
unfoldable pub int_word : TypeWords → WordReader
int_word a = makes (int_of a) (read.key key.Int)

-- a first word, and perhaps a size
unfoldable pub sized : WordReader
sized = optional is_size takes_size free first_word size_word

-- likewise, and perhaps "int"
unfoldable pub type_words : WordReader
type_words = optional (is (keyword key.Int)) takes_int free sized int_word

abbrev pub integer_of : TypeWords → TypeRead
integer_of a = record { ty = type.Int a.ty; height = 0; end = a.end }

abbrev pub void_of : Span → TypeRead
void_of place = record { ty = type.Void; height = 0; end = place.end }

abbrev pub tagged : Named → TypeRead
tagged tag = record { ty = type.Struct tag.name; height = 0; end = tag.place.end }

abbrev pub struct_of : Span × Named → TypeRead
struct_of c = tagged c.1

-- the type words of an integer type, all of them
unfoldable pub integer : Reader
integer = makes integer_of type_words

unfoldable pub void_type : Reader
void_type = makes void_of (read.key key.Void)

-- "struct" NAME
unfoldable pub struct_type : Reader
struct_type = makes struct_of (thens (read.key key.Struct) (λ _. read.name))

unfoldable pub void_or_integer : Reader
void_or_integer = either (is (keyword key.Void)) true void_type integer

unfoldable pub base : Reader
base = either (is (keyword key.Struct)) true struct_type void_or_integer

-- the words with which a type begins
abbrev pub begins_integer : ℕ → Bool
begins_integer w = is_some (first_at w)

abbrev pub begins_type : Token → Bool
begins_type t = is (keyword key.Struct) t || (is (keyword key.Void) t || begins_integer (word_of t))

-- a star is one level
abbrev pub has_room : ℕ → TypeRead → Bool
has_room d a = nat_lt a.height d

abbrev pub star_of : TypeRead → Span → TypeRead
star_of a place = record { ty = type.Pointer a.ty; height = suc a.height; end = place.end }

abbrev pub pick_star : Token → Option Span
pick_star = pick_word (punctuator mark.Star)

-- "*" behind a type
unfoldable pub star : TypeRead → Reader
star a = makes (star_of a) (punct mark.Star)

-- a base, and then stars
unfoldable pub type_name : ℕ → Reader
type_name d = chain (is (punctuator mark.Star)) (has_room d) base star

-- stars behind a type, at least one
unfoldable pub stars : ℕ → TypeRead → Reader
stars d a = chain (is (punctuator mark.Star)) (has_room d) (star a) star
