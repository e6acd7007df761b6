-- The tokens of a text, and its first fault.
use Rattle.std.specs.Prelude.{◌≡◌, ℕ, IsTrue, ◌+◌, ◌<◌, ◌≤◌, false, ◌||◌, ◌⊎◌, List, [], ◌∷◌, ◌++◌, length, take, drop, Some}
use Rattle.c_ast.specs.declared.token.Lexeme.{Lexeme}
use Rattle.c_ast.specs.declared.token.Lexeme.TheVariants as lexeme
use Rattle.c_ast.specs.Seen.{Seen}
use Rattle.c_lex.specs.declared.fault.Fault.{Fault}
use Rattle.c_lex.specs.Gap.{begins_line_comment, begins_block_comment, gap_bytes}
use Rattle.c_lex.specs.ConstantTypes.{greatest, is_constant_type}
use Rattle.c_lex.specs.Spelling.{Spells}
use Rattle.c_lex.specs.Faults.{Faulty}

-- the first bytes of a text are a token: they spell it, no longer slice from the same start is a token, and no comment
-- begins there
pub record TokenAt (rest : List ℕ) (kind : Lexeme) (bytes : ℕ) : Type 0 where
  pub some : 0 < bytes
  pub within : bytes ≤ length rest
  pub spells : Spells kind (take bytes rest)
  pub longest : (more : ℕ) (other : Lexeme) → bytes < more → more ≤ length rest → ¬ Spells other (take more rest)
  pub apart : (begins_line_comment rest || begins_block_comment rest) ≡ false

-- no fault stands at this place, behind these tokens
abbrev pub IsSound : List ℕ → List Seen → ℕ → Type 0
IsSound text tokens place = (what : Fault) (offset : ℕ) → ¬ Faulty text tokens place what offset

-- the text before a place is gaps and these tokens in turn, and no fault stands where a token starts
pub data Reaches (text : List ℕ) : ℕ → List Seen → Type 0 where
  start : Reaches text 0 []
  gap : {place : ℕ} {tokens : List Seen} (bytes : ℕ) → Reaches text place tokens → gap_bytes (drop place text) ≡ Some bytes
      → Reaches text (place + bytes) tokens
  token : {place : ℕ} {tokens : List Seen} (kind : Lexeme) (bytes : ℕ) →
      Reaches text place tokens → TokenAt (drop place text) kind bytes → IsSound text tokens place →
      Reaches text (place + bytes) (tokens ++ record { kind = kind; bytes = take bytes (drop place text); start = place } ∷ [])

-- the whole text is gaps and these tokens in turn
abbrev pub Tokens : List ℕ → List Seen → Type 0
Tokens text tokens = Reaches text (length text) tokens

-- the text before some place is gaps and tokens in turn, and at that place stands this fault, at this byte of the text
pub record FirstFault (text : List ℕ) (what : Fault) (at : ℕ) : Type 0 where
  pub place : ℕ
  pub tokens : List Seen
  pub offset : ℕ
  pub reached : Reaches text place tokens
  pub faulty : Faulty text tokens place what offset
  pub there : at ≡ place + offset

-- a text is read in one way: it has tokens or a first fault, never both, and one of each at most
pub record IsReadOneWay (text : List ℕ) : Type 0 where
  pub some : ((tokens : List Seen) × Tokens text tokens) ⊎ ((what : Fault) × (at : ℕ) × FirstFault text what at)
  pub never_both : (tokens : List Seen) (what : Fault) (at : ℕ) → Tokens text tokens → ¬ FirstFault text what at
  pub one_list : (tokens others : List Seen) → Tokens text tokens → Tokens text others → tokens ≡ others
  pub one_fault : (what other : Fault) (at place : ℕ) → FirstFault text what at → FirstFault text other place
      → (what ≡ other) × (at ≡ place)

-- a number has the type int, unsigned int, long or unsigned long, and a value in its range
abbrev pub IsTyped : Lexeme → Type 0
IsTyped (lexeme.Number value ty) = IsTrue (is_constant_type ty) × (value ≤ greatest ty)
IsTyped _ = Unit {0}

-- the token is a slice of the text, and typed
pub record IsInText (text : List ℕ) (token : Seen) : Type 0 where
  pub within : token.start + length token.bytes ≤ length text
  pub sliced : token.bytes ≡ take (length token.bytes) (drop token.start text)
  pub typed : IsTyped token.kind
