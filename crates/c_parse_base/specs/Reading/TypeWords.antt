-- The words of an integer type (ISO C11 6.7.2), one after the other.
use Rattle.std.specs.Prelude.{ℕ, Bool, true, false, if◌then◌else◌, ◌==◌, List, [], ◌∷◌, Option, Some, None, is_some}
use Rattle.c_ast.specs.declared.token.Span.{Span}
use Rattle.c_ast.specs.Seen.{Seen as Token}
use Rattle.c_ast.specs.declared.int_type.IntType.{IntType}
use Rattle.c_ast.specs.declared.int_type.IntType.TheVariants as integer
use Rattle.c_ast.specs.declared.keyword.Keyword.{Keyword}
use Rattle.c_ast.specs.declared.keyword.Keyword.TheVariants as key
use Rattle.c_grammar.specs.Words.{word_of, keyword, end_of}
use Rattle.c_parse_base.specs.declared.type_words.FirstWord.{FirstWord}
use Rattle.c_parse_base.specs.declared.type_words.FirstWord.TheVariants as first
use Rattle.c_parse_base.specs.declared.type_words.SizeWord.{SizeWord}
use Rattle.c_parse_base.specs.declared.type_words.SizeWord.TheVariants as size
use Rattle.c_parse_base.specs.declared.type_words.TypeWords.{TypeWords}

abbrev pub first_keyword : FirstWord → Keyword
first_keyword first.Signed = key.Signed
first_keyword first.Unsigned = key.Unsigned
first_keyword first.Int = key.Int
first_keyword first.Char = key.Char
first_keyword first.Short = key.Short
first_keyword first.Long = key.Long

abbrev pub size_keyword : SizeWord → Keyword
size_keyword size.Char = key.Char
size_keyword size.Short = key.Short
size_keyword size.Long = key.Long

-- the value of a list whose keyword is this word
abbrev pub among : {V : Type 0} → (V → Keyword) → List V → ℕ → Option V
among spelled [] w = None
among spelled (v ∷ vs) w = if w == keyword (spelled v) then Some v else among spelled vs w

-- the first word of an integer type that a word is
unfoldable pub first_at : ℕ → Option FirstWord
first_at = among first_keyword (first.Signed ∷ first.Unsigned ∷ first.Int ∷ first.Char ∷ first.Short ∷ first.Long ∷ [])

-- the word for a size that a word is
unfoldable pub size_at : ℕ → Option SizeWord
size_at = among size_keyword (size.Char ∷ size.Short ∷ size.Long ∷ [])

-- a value, and where its token ends
abbrev pub ending : {V : Type 0} → ℕ → Option V → Option (V × ℕ)
ending end None = None
ending end (Some v) = Some (v, end)

abbrev pub pick_first : Token → Option (FirstWord × ℕ)
pick_first t = ending (end_of t) (first_at (word_of t))

abbrev pub pick_size : Token → Option (SizeWord × ℕ)
pick_size t = ending (end_of t) (size_at (word_of t))

abbrev pub is_size : Token → Bool
is_size t = is_some (size_at (word_of t))

abbrev words : IntType → Bool → Bool → Bool → ℕ → TypeWords
words ty unsigned takes_size takes_int end = record {
  ty = ty;
  unsigned = unsigned;
  takes_size = takes_size;
  takes_int = takes_int;
  end = end;
}

-- the type that a first word is, and what may stand behind it
abbrev pub first_words : FirstWord → ℕ → TypeWords
first_words first.Signed = words integer.Int false true true
first_words first.Unsigned = words integer.UInt true true true
first_words first.Int = words integer.Int false false false
first_words first.Char = words integer.Char false false false
first_words first.Short = words integer.Short false false true
first_words first.Long = words integer.Long false false true

-- likewise, of a size behind `signed` or `unsigned`
abbrev pub sized_words : Bool → SizeWord → ℕ → TypeWords
sized_words false size.Char = words integer.SignedChar false false false
sized_words true size.Char = words integer.UnsignedChar true false false
sized_words false size.Short = words integer.Short false false true
sized_words true size.Short = words integer.UShort true false true
sized_words false size.Long = words integer.Long false false true
sized_words true size.Long = words integer.ULong true false true

abbrev pub first_of : FirstWord × ℕ → TypeWords
first_of c = first_words c.0 c.1

abbrev pub sized_of : TypeWords → SizeWord × ℕ → TypeWords
sized_of a c = sized_words a.unsigned c.0 c.1

-- `int` behind other words is their type
abbrev pub int_of : TypeWords → Span → TypeWords
int_of a place = words a.ty a.unsigned false false place.end
