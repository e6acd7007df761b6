-- The parsers of single words.
use Rattle.std.specs.Prelude.{ℕ, Bool, false, ◌==◌, ◌||◌, if◌then◌else◌, List, [], ◌∷◌, Option, Some, None, ◌≡◌, true}
use Rattle.c_ast.specs.declared.token.Span.{Span}
use Rattle.c_ast.specs.Seen.{Seen as Token}
use Rattle.c_ast.specs.declared.token.Lexeme.{Lexeme}
use Rattle.c_ast.specs.declared.token.Lexeme.TheVariants as lexeme
use Rattle.c_ast.specs.declared.keyword.Keyword.{Keyword}
use Rattle.c_ast.specs.declared.punctuator.Punctuator.{Punctuator}
use Rattle.c_grammar.specs.Words.{word_of, keyword, punctuator, end_of}
use Rattle.c_parse_base.specs.declared.words.Named.{Named}
use Rattle.c_parse_base.specs.Reading.Answer.{Parser, word}

-- where a token stands
abbrev pub place_of : Token → Span
place_of t = record { start = t.start; end = end_of t }

-- the token is this word
abbrev pub is : ℕ → Token → Bool
is w t = word_of t == w

-- the token is one of these words
abbrev pub one_of : List ℕ → Token → Bool
one_of [] t = false
one_of (w ∷ ws) t = is w t || one_of ws t

-- the place of a token that is this word
abbrev pub pick_word : ℕ → Token → Option Span
pick_word w t = if is w t then Some (place_of t) else None

-- whatever token comes next, and where it stands
unfoldable pub any : Parser Token Span
any = word (λ t. Some (place_of t))

-- this punctuator, and where it stands
unfoldable pub punct : Punctuator → Parser Token Span
punct p = word (pick_word (punctuator p))

-- this keyword, and where it stands
unfoldable pub key : Keyword → Parser Token Span
key k = word (pick_word (keyword k))

-- the name that a lexeme is
abbrev pub named_at : Span → Lexeme → Option Named
named_at place (lexeme.Name n) = Some (record { name = n; place = place })
named_at place _ = None

abbrev pub pick_name : Token → Option Named
pick_name t = named_at (place_of t) t.kind

-- a name, and where it stands
unfoldable pub name : Parser Token Named
name = word pick_name

-- a token of this lexeme, for examples
abbrev pub token_of : Lexeme → Token
token_of kind = record { kind = kind; bytes = []; start = 0 }

-- one token that is this word, by its place
pub data Spot (w : ℕ) : Span → List Token → Type 0 where
  spot : (t : Token) → word_of t ≡ w → Spot w (place_of t) (t ∷ [])

-- one token that is a name
pub data Naming : Named → List Token → Type 0 where
  naming : {n : List ℕ} (t : Token) → t.kind ≡ lexeme.Name n → Naming (record { name = n; place = place_of t }) (t ∷ [])

-- the word is one of these
abbrev pub one_word : List ℕ → ℕ → Bool
one_word [] w = false
one_word (v ∷ vs) w = (w == v) || one_word vs w

-- the token is one of these words
abbrev pub among : List ℕ → Token → Bool
among ws t = one_word ws (word_of t)

-- none of these words is one of those
abbrev pub apart_from : List ℕ → List ℕ → Bool
apart_from [] ws = true
apart_from (v ∷ vs) ws = if one_word ws v then false else apart_from vs ws

-- each of these words is one of those
abbrev pub within : List ℕ → List ℕ → Bool
within [] ws = true
within (v ∷ vs) ws = if one_word ws v then within vs ws else false

-- none of these words passes the test
abbrev pub none_passes : (ℕ → Bool) → List ℕ → Bool
none_passes test [] = true
none_passes test (v ∷ vs) = if test v then false else none_passes test vs
