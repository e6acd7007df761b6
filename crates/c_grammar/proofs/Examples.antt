-- Tokens for worked examples.
use Rattle.std.specs.Prelude.{ℕ, ◌+◌, List, [], ◌∷◌}
use Rattle.c_ast.specs.declared.token.Span.{Span}
use Rattle.c_ast.specs.Seen.{Seen as Token}
use Rattle.c_ast.specs.declared.token.Lexeme.{Lexeme}
use Rattle.c_ast.specs.declared.token.Lexeme.TheVariants as lexeme
use Rattle.c_ast.specs.declared.int_type.IntType.TheVariants as integer
use Rattle.c_ast.specs.declared.keyword.Keyword.{Keyword}
use Rattle.c_ast.specs.declared.punctuator.Punctuator.{Punctuator}
use Rattle.c_ast.specs.Words.{keyword_number, spelling_of, punctuator_number, spelling_of_punctuator}

abbrev pub token_of : Lexeme → List ℕ → ℕ → Token
token_of kind bytes start = record { kind = kind; bytes = bytes; start = start }

abbrev pub key_at : Keyword → ℕ → Token
key_at k = token_of (lexeme.Keyword (keyword_number k)) (spelling_of k)

abbrev pub mark_at : Punctuator → ℕ → Token
mark_at p = token_of (lexeme.Punct (punctuator_number p)) (spelling_of_punctuator p)

abbrev pub name_at : List ℕ → ℕ → Token
name_at name = token_of (lexeme.Name name) name

-- a decimal digit
abbrev pub digit_at : ℕ → ℕ → Token
digit_at value = token_of (lexeme.Number value integer.Int) ((48 + value) ∷ [])

abbrev pub span : ℕ → ℕ → Span
span start end = record { start = start; end = end }
