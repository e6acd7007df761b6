-- Where words that follow one another stand.
use Rattle.std.specs.Prelude.{◌≡◌, List, [], ◌∷◌, ℕ}
use Rattle.c_ast.specs.declared.token.Span.{Span}
use Rattle.c_ast.specs.Seen.{Seen as Token}
use Rattle.c_grammar.specs.Words.{span_of}
use Rattle.c_parse_base.specs.Reading.Good.{Language}
use Rattle.c_parse_base.specs.Reading.Answer.{Parser, Read, and_then}

-- from the start of the one to the end of the other
abbrev pub join_spans : Span → Span → Span
join_spans a b = record { start = a.start; end = b.end }

abbrev pub start_of : List Token → ℕ
start_of [] = 0
start_of (t ∷ ts) = t.start

-- what is read, behind the place where it starts
abbrev pub starting : {A : Type 0} → Parser Token A → Parser Token (ℕ × A)
starting p ts = and_then (p ts) (λ a us. Read (start_of ts, a) us)

-- a word, behind the place where it starts
pub record Starting {A : Type 0} (L : Language Token A) (c : ℕ × A) (w : List Token) : Type 0 where
  pub word : L c.1 w
  pub start : c.0 ≡ (span_of w).start
