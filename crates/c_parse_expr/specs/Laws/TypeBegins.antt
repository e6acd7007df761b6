-- With which tokens type names begin and go on, beside those of expressions.
use Rattle.std.specs.Prelude.{◌≡◌, ℕ, Bool, true, false, ◌==◌, ◌||◌, List, [], ◌∷◌, Option, Some, None, is_some, refl}
use Rattle.std.proofs.Common.{subst}
use Rattle.c_ast.specs.Seen.{Seen as Token}
use Rattle.c_ast.specs.declared.token.Lexeme.TheVariants as lexeme
use Rattle.c_ast.specs.declared.int_type.IntType.{IntType}
use Rattle.c_ast.specs.declared.int_type.IntType.TheVariants as integer
use Rattle.c_ast.specs.declared.expr.CType.{CType}
use Rattle.c_ast.specs.declared.expr.CType.TheVariants as type
use Rattle.c_ast.specs.declared.keyword.Keyword.{Keyword}
use Rattle.c_ast.specs.declared.keyword.Keyword.TheVariants as key
use Rattle.c_ast.specs.declared.punctuator.Punctuator.TheVariants as mark
use Rattle.c_grammar.specs.Words.{word_of, keyword, punctuator, span_of}
use Rattle.c_grammar.specs.Types as grammar
use Rattle.c_grammar.specs.Types.{TypeName}
use Rattle.c_parse_base.specs.Reading.Good.{Begins}
use Rattle.c_parse_base.specs.Reading.Words.{is, token_of, none_passes}
use Rattle.c_parse_base.specs.Laws.WordGood.{equal_is}
use Rattle.c_parse_base.specs.declared.type_read.TypeRead.{TypeRead}
use Rattle.c_parse_base.specs.declared.type_words.FirstWord.{FirstWord}
use Rattle.c_parse_base.specs.declared.type_words.FirstWord.TheVariants as first
use Rattle.c_parse_base.specs.Reading.TypeWords.{first_keyword, first_at, size_at}
use Rattle.c_parse_base.specs.Reading.TypeNames.{begins_type}
use Rattle.c_parse_base.specs.Laws.TypeWordLaws.{first_is, no_word}
use Rattle.c_parse_base.specs.Laws.TypeNameLaws.{TypeWord, goes_on_type}
use Rattle.c_parse_base.specs.Laws.WordListLaws.{fails_test, not_listed}
use Rattle.c_parse_expr.specs.Reading.Levels.{begin_words, begins}

-- the words with which a type begins
abbrev type_word : ℕ → Bool
type_word w = (w == keyword key.Struct) || ((w == keyword key.Void) || is_some (first_at w))

none_both : none_passes type_word begin_words ≡ true
unfolding first_at
none_both = refl

-- no type begins as an expression does
pub no_type : (t : Token) → begins t ≡ true → begins_type t ≡ false
no_type t h = fails_test type_word begin_words none_both (word_of t) h

-- and no expression as a type does
pub no_expression : (t : Token) → begins_type t ≡ true → begins t ≡ false
no_expression t h = not_listed type_word begin_words none_both (word_of t) h

-- the words that go on behind a type name
abbrev type_on : ℕ → Bool
type_on w = (is_some (size_at w) || (w == keyword key.Int)) || (w == punctuator mark.Star)

close_word : type_on (punctuator mark.RightParen) ≡ false
unfolding size_at
close_word = refl

-- a ")" does not go on behind a type name
pub close_type : (a : TypeRead) (t : Token) → is (punctuator mark.RightParen) t ≡ true → goes_on_type a t ≡ false
close_type a t e = no_word type_on (punctuator mark.RightParen) (word_of t) close_word e

-- ---- a type name for each first token

type_of : (ty : CType) (w : List Token) → TypeName 0 ty w → (t : Token) (more : List Token) → w ≡ t ∷ more → Begins TypeWord (t ∷ [])
type_of ty w m t more e = record {
  value = record { ty = ty; height = 0; end = (span_of (t ∷ more)).end };
  more = more;
  whole = record { name = subst (λ w. TypeName 0 ty w) e m; end = refl };
}

abbrev tag_token : Token
tag_token = token_of (lexeme.Name [])

struct_at : (t : Token) → word_of t ≡ keyword key.Struct → Begins TypeWord (t ∷ [])
struct_at t e = type_of (type.Struct []) (t ∷ tag_token ∷ []) (grammar.type_name (grammar.struct t tag_token e refl) grammar.none) t
    (tag_token ∷ []) refl

void_at : (t : Token) → word_of t ≡ keyword key.Void → Begins TypeWord (t ∷ [])
void_at t e = type_of type.Void (t ∷ []) (grammar.type_name (grammar.void t e) grammar.none) t [] refl

one_keyword : (t : Token) (k : Keyword) (ty : IntType) → grammar.TypeWords ty (k ∷ []) → word_of t ≡ keyword k → Begins TypeWord (t ∷ [])
one_keyword t k ty m e = type_of (type.Int ty) (t ∷ []) (grammar.type_name
    (grammar.words m (grammar.word t e grammar.none)) grammar.none) t [] refl

first_word_at : (t : Token) (f : FirstWord) → word_of t ≡ keyword (first_keyword f) → Begins TypeWord (t ∷ [])
first_word_at t first.Signed e = one_keyword t key.Signed integer.Int grammar.signed e
first_word_at t first.Unsigned e = one_keyword t key.Unsigned integer.UInt grammar.unsigned e
first_word_at t first.Int e = one_keyword t key.Int integer.Int grammar.int e
first_word_at t first.Char e = one_keyword t key.Char integer.Char grammar.char e
first_word_at t first.Short e = one_keyword t key.Short integer.Short grammar.short e
first_word_at t first.Long e = one_keyword t key.Long integer.Long grammar.long e

integer_at : (t : Token) (o : Option FirstWord) → first_at (word_of t) ≡ o → is_some o ≡ true → Begins TypeWord (t ∷ [])
integer_at t None e h = cc
integer_at t (Some f) e h = first_word_at t f (first_is (word_of t) f e)

-- for each token with which a type begins there is a type name that begins with it
pub type_begins_at : (t : Token) → begins_type t ≡ true → Begins TypeWord (t ∷ [])
type_begins_at t h = by_struct (is (keyword key.Struct) t) refl h
  where
    by_void : (x : Bool) → is (keyword key.Void) t ≡ x → (x || is_some (first_at (word_of t))) ≡ true → Begins TypeWord (t ∷ [])
    by_void true e h = void_at t (equal_is (word_of t) (keyword key.Void) e)
    by_void false e h = integer_at t (first_at (word_of t)) refl h

    by_struct : (x : Bool) → is (keyword key.Struct) t ≡ x → (x || (is (keyword key.Void) t || is_some (first_at (word_of t)))) ≡ true →
        Begins TypeWord (t ∷ [])
    by_struct true e h = struct_at t (equal_is (word_of t) (keyword key.Struct) e)
    by_struct false e h = by_void (is (keyword key.Void) t) refl h
