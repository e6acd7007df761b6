-- How bases begin.
use Rattle.std.specs.Prelude.{◌≡◌, Bool, true, false, ◌||◌, [], ◌∷◌, Option, Some, None, is_some, refl}
use Rattle.std.proofs.Common.{ap}
use Rattle.c_ast.specs.Seen.{Seen as Token}
use Rattle.c_ast.specs.declared.token.Lexeme.TheVariants as lexeme
use Rattle.c_ast.specs.declared.keyword.Keyword.TheVariants as key
use Rattle.c_grammar.specs.Words.{word_of, keyword, end_of}
use Rattle.c_grammar.specs.Types as grammar
use Rattle.c_parse_base.specs.Reading.Good.{Begins}
use Rattle.c_parse_base.specs.Reading.Languages.{alone, word_of as one_word_of}
use Rattle.c_parse_base.specs.Reading.Words.{is, place_of, token_of}
use Rattle.c_parse_base.specs.Laws.WordGood.{equal_is}
use Rattle.c_parse_base.specs.declared.type_words.FirstWord.{FirstWord}
use Rattle.c_parse_base.specs.Reading.TypeWords.{first_at, ending, first_of}
use Rattle.c_parse_base.specs.Reading.TypeNames.{begins_type, integer_of, void_of, tagged}
use Rattle.c_parse_base.specs.Laws.TypeOrders.{BaseWord, integer_into}

integer_begins : (t : Token) (o : Option FirstWord) → first_at (word_of t) ≡ o → is_some o ≡ true → Begins BaseWord (t ∷ [])
integer_begins t None e h = cc
integer_begins t (Some f) e h =
    let words = first_of (f, end_of t) in
    record {
      value = integer_of words;
      more = [];
      whole = integer_into (integer_of words) (t ∷ []) (record {
        source = words;
        is = refl;
        word = alone (alone (record { source = (f, end_of t); is = refl; word = one_word_of (ap (ending (end_of t)) e) }));
      });
    }

void_begins : (t : Token) → is (keyword key.Void) t ≡ true → Begins BaseWord (t ∷ [])
void_begins t e = record {
  value = void_of (place_of t);
  more = [];
  whole = record { base = grammar.void t (equal_is (word_of t) (keyword key.Void) e); height = refl; end = refl };
}

struct_begins : (t : Token) → is (keyword key.Struct) t ≡ true → Begins BaseWord (t ∷ [])
struct_begins t e =
    let n = token_of (lexeme.Name []) in
    record {
      value = tagged (record { name = []; place = place_of n });
      more = n ∷ [];
      whole = record { base = grammar.struct t n (equal_is (word_of t) (keyword key.Struct) e) refl; height = refl; end = refl };
    }

-- some base begins with each token that begins a type
pub base_begins_at : (t : Token) → begins_type t ≡ true → Begins BaseWord (t ∷ [])
base_begins_at t h = by_struct (is (keyword key.Struct) t) refl h
  where
    by_void : (b : Bool) → is (keyword key.Void) t ≡ b → (b || is_some (first_at (word_of t))) ≡ true → Begins BaseWord (t ∷ [])
    by_void true e h = void_begins t e
    by_void false e h = integer_begins t (first_at (word_of t)) refl h

    by_struct : (b : Bool) → is (keyword key.Struct) t ≡ b → (b || (is (keyword key.Void) t || is_some (first_at (word_of t)))) ≡ true →
        Begins BaseWord (t ∷ [])
    by_struct true e h = struct_begins t e
    by_struct false e h = by_void (is (keyword key.Void) t) refl h
