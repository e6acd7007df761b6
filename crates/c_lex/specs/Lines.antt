-- The line on which a `#` stands, for the directive (C11 6.10 paragraph 2: a `#` begins one where it is the first
-- character of the text, or follows white space with a newline, other white space aside).
use Rattle.std.specs.Prelude.{◌≡◌, ℕ, suc, IsTrue, ◌+◌, ◌<◌, ◌≤◌, List, [], length, drop, slice_index, Some, fold}
use Rattle.c_ast.specs.Seen.{Seen}
use Rattle.c_lex.specs.Bytes.{is_blank}
use Rattle.c_lex.specs.Gap.{gap_bytes}

-- the place behind the last of these tokens, and the text's first place where there is none
abbrev pub end_of : List Seen → ℕ
end_of = fold (λ end token. token.start + length token.bytes) 0

-- from a place up to the end named first, the text is gaps in turn
pub data AreGaps (text : List ℕ) (end : ℕ) : ℕ → Type 0 where
  none : AreGaps text end end
  more : {place : ℕ} (bytes : ℕ) → gap_bytes (drop place text) ≡ Some bytes → AreGaps text end (place + bytes) → AreGaps text end place

-- A line starts at a place behind these tokens and before further ones: at the text's first byte, or behind a newline
-- that stands between tokens. A newline in a comment is none: a comment stands for one space (C11 5.1.1.2, phase 3).
pub data LineStarts (text : List ℕ) (tokens : List Seen) : ℕ → Type 0 where
  first : tokens ≡ [] → LineStarts text tokens 0
  newline : {place : ℕ} → AreGaps text place (end_of tokens) → slice_index text place ≡ 10 → LineStarts text tokens (suc place)

-- a token at this place, the next one behind these tokens, is the first token of its line
pub record IsFirstOnLine (text : List ℕ) (tokens : List Seen) (place : ℕ) : Type 0 where
  pub from : ℕ
  pub starts : LineStarts text tokens from
  pub before : from ≤ place

-- and nothing but spaces and tabs stands before it on the line
pub record IsBehindBlanks (text : List ℕ) (tokens : List Seen) (place : ℕ) : Type 0 where
  pub from : ℕ
  pub starts : LineStarts text tokens from
  pub before : from ≤ place
  pub blank : (at : ℕ) → from ≤ at → at < place → IsTrue (is_blank (slice_index text at))
