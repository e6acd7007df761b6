-- Tokens that have nothing but their lexemes, as contracts see tokens.
use Rattle.std.specs.Prelude.{◌≡◌, List, [], ◌∷◌, map, refl}
use Rattle.std.proofs.Common.{ap}
use Rattle.c_ast.specs.Seen.{Seen, all_seen}
use Rattle.c_ast.specs.declared.token.Lexeme.{Lexeme}
use Rattle.c_ast.specs.declared.token.Token.{Token}
use Rattle.c_print.specs.Tokens as given

abbrev pub token_of : Lexeme → Seen
token_of kind = record { kind = kind; bytes = []; start = 0 }

abbrev pub tokens_of : List Lexeme → List Seen
tokens_of = map token_of

-- the lexemes of tokens
abbrev pub kinds : List Seen → List Lexeme
kinds = map (λ t. t.kind)

pub seen-tokens : (ls : List Lexeme) → all_seen (given.tokens_of ls) ≡ tokens_of ls
seen-tokens [] = refl
seen-tokens (l ∷ ls) = ap (λ ts. token_of l ∷ ts) (seen-tokens ls)

pub seen-kinds : (ts : List Token) → kinds (all_seen ts) ≡ given.kinds ts
seen-kinds [] = refl
seen-kinds (t ∷ ts) = ap (λ ls. t.kind ∷ ls) (seen-kinds ts)
