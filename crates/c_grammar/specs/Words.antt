-- Tokens as the words of the grammar, and where they stand. A token is here its lexeme, its bytes and its place in the text, wherever
-- these bytes stand in memory.
use Rattle.std.specs.Prelude.{◌≡◌, ℕ, ◌+◌, ◌*◌, ◌-◌, ◌^◌, min, List, [], ◌∷◌, length}
use Rattle.c_ast.specs.declared.token.Span.{Span}
use Rattle.c_ast.specs.Seen.{Seen as Token}
use Rattle.c_ast.specs.declared.token.Lexeme.{Lexeme}
use Rattle.c_ast.specs.declared.token.Lexeme.TheVariants as lexeme
use Rattle.c_ast.specs.declared.keyword.Keyword.{Keyword}
use Rattle.c_ast.specs.declared.punctuator.Punctuator.{Punctuator}
use Rattle.c_ast.specs.Words.{keyword_number, punctuator_number}

-- a number for each kind of word: each keyword and each punctuator is a kind of its own
abbrev pub an_include : ℕ
an_include = 0

abbrev pub a_name : ℕ
a_name = 1

abbrev pub a_number : ℕ
a_number = 2

abbrev pub a_character : ℕ
a_character = 3

abbrev pub a_text : ℕ
a_text = 4

-- the keyword of this number
abbrev pub a_keyword : ℕ → ℕ
a_keyword number = 5 + 2 * number

-- the punctuator of this number
abbrev pub a_punctuator : ℕ → ℕ
a_punctuator number = 6 + 2 * number

abbrev pub lexeme_word : Lexeme → ℕ
lexeme_word lexeme.Include = an_include
lexeme_word (lexeme.Name n) = a_name
lexeme_word (lexeme.Number v ty) = a_number
lexeme_word (lexeme.Character c) = a_character
lexeme_word (lexeme.Text b) = a_text
lexeme_word (lexeme.Keyword k) = a_keyword k
lexeme_word (lexeme.Punct p) = a_punctuator p

abbrev pub word_of : Token → ℕ
word_of t = lexeme_word t.kind

abbrev pub keyword : Keyword → ℕ
keyword k = a_keyword (keyword_number k)

abbrev pub punctuator : Punctuator → ℕ
punctuator p = a_punctuator (punctuator_number p)

-- the token is this keyword
abbrev pub IsKeyword : Keyword → Token → Type 0
IsKeyword k t = word_of t ≡ keyword k

-- the token is this punctuator
abbrev pub IsPunct : Punctuator → Token → Type 0
IsPunct p t = word_of t ≡ punctuator p

-- the token is this name
abbrev pub IsName : List ℕ → Token → Type 0
IsName n t = t.kind ≡ lexeme.Name n

-- the number of the byte behind a token, as far as 32 bits tell it
abbrev pub end_of : Token → ℕ
end_of t = min (t.start + length t.bytes) (2 ^ 32 - 1)

-- where the last of these tokens ends
abbrev pub last_end : Token → List Token → ℕ
last_end t [] = end_of t
last_end t (u ∷ ts) = last_end u ts

-- from the start of the first token to the end of the last one
abbrev pub span_of : List Token → Span
span_of [] = record { start = 0; end = 0 }
span_of (t ∷ ts) = record { start = t.start; end = last_end t ts }
