-- What a contract sees of a token.
use Rattle.std.specs.Prelude.{ℕ, List, map}
use Rattle.c_ast.specs.declared.token.Lexeme.{Lexeme}
use Rattle.c_ast.specs.declared.token.Token.{Token}

-- a token by its lexeme, the bytes that spell it and the number of its first byte
pub record Seen : Type 0 where
  pub kind : Lexeme
  pub bytes : List ℕ
  pub start : ℕ

-- a token without the place of its bytes in memory
abbrev pub seen : Token → Seen
seen t = record { kind = t.kind; bytes = t.text.now; start = t.start }

-- the tokens of a list, likewise
abbrev pub all_seen : List Token → List Seen
all_seen = map seen
