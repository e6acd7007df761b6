-- What a reading tells of the text that it is of.
use Rattle.std.proofs.Common.{ℕ, ◌<◌, ◌≤◌, List, length, take}
use Rattle.c_ast.specs.declared.token.Lexeme.{Lexeme}
use Rattle.c_lex.specs.declared.reading.Reading.{Reading}
use Rattle.c_lex.specs.declared.reading.Reading.TheVariants.{Gap, Token, Fault}
use Rattle.c_lex.specs.Laws.Scanned.{Scans}

-- the bytes at the front spell a token, and no longer front does
pub record IsToken (rest : List ℕ) (kind : Lexeme) (bytes : ℕ) : Type 0 where
  pub some : 0 < bytes
  pub within : bytes ≤ length rest
  pub spells : Scans kind (take bytes rest)
  pub longest : (more : ℕ) (other : Lexeme) → bytes < more → more ≤ length rest → Scans other (take more rest) → ⊥

-- where no gap begins: a token is one, and a fault is within the text
abbrev pub Tells : List ℕ → Reading → Type 0
Tells rest (Gap bytes) = ⊥
Tells rest (Token kind bytes) = IsToken rest kind bytes
Tells rest (Fault what place) = place ≤ length rest
