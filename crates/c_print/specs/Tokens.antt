-- Tokens that have nothing but their lexemes.
use Rattle.std.specs.Prelude.{List, [], map}
use Rattle.c_ast.specs.declared.token.Lexeme.{Lexeme}
use Rattle.c_ast.specs.declared.token.Token.{Token}

-- a token of this lexeme, without a text and at the place 0, so that the span of such tokens is that from 0 to 0
abbrev pub token_of : Lexeme → Token
token_of kind = record { kind = kind; text = record { ref_ptr = (0, 0); now = [] }; start = 0 }

abbrev pub tokens_of : List Lexeme → List Token
tokens_of = map token_of

-- the lexemes of tokens
abbrev pub kinds : List Token → List Lexeme
kinds = map (λ t. t.kind)
