-- What the parser answers to a list of tokens.
use Rattle.std.specs.Prelude.{◌≡◌, ℕ, ◌≤◌, ◌<◌, List, [], ◌∷◌, ◌++◌, length, Result, Ok, Err}
use Rattle.c_ast.specs.declared.token.Token.{Token}
use Rattle.c_ast.specs.declared.program.Program.{Program}
use Rattle.c_grammar.specs.Spells.{Spells, Begins}
use Rattle.c_parse.specs.declared.refusal.ParseRefusal.{ParseRefusal}
use Rattle.c_parse.specs.declared.refusal.ParseRefusal.TheVariants as refusal

-- the most levels that a program may have (this project's own)
abbrev pub limit : ℕ
limit = 200

-- some program of at most so many levels begins with these tokens
pub record BeginsWithin (levels : ℕ) (tokens : List Token) : Type 0 where
  pub more : List Token
  pub program : Program
  pub depth : ℕ
  pub spells : Spells (tokens ++ more) program depth
  pub within : depth ≤ levels

-- no program begins with these tokens and the next one; at the end, they spell none
abbrev pub NoneGoesOn : List Token → List Token → Type 0
NoneGoesOn taken [] = (program : Program) (depth : ℕ) → ¬ Spells taken program depth
NoneGoesOn taken (next ∷ rest) = ¬ Begins (taken ++ next ∷ [])

-- the tokens before the place begin a program within the limit, and none goes on with the next one
pub record FirstUnexpected (levels : ℕ) (tokens : List Token) (place : ℕ) : Type 0 where
  pub taken : List Token
  pub rest : List Token
  pub parts : tokens ≡ taken ++ rest
  pub at : length taken ≡ place
  pub begins : BeginsWithin levels taken
  pub breaks : NoneGoesOn taken rest

-- the tokens before the place begin a program within the limit, and with the next one some program begins, and each that does has more
-- levels
pub record FirstTooDeep (levels : ℕ) (tokens : List Token) (place : ℕ) : Type 0 where
  pub taken : List Token
  pub next : Token
  pub rest : List Token
  pub parts : tokens ≡ taken ++ next ∷ rest
  pub at : length taken ≡ place
  pub begins : BeginsWithin levels taken
  pub goes_on : Begins (taken ++ next ∷ [])
  pub deep : (more : List Token) (program : Program) (depth : ℕ) → Spells ((taken ++ next ∷ []) ++ more) program depth → levels < depth

-- the tokens spell this program, and it is within the limit
pub record SpellsWithin (levels : ℕ) (tokens : List Token) (program : Program) : Type 0 where
  pub depth : ℕ
  pub spells : Spells tokens program depth
  pub within : depth ≤ levels

-- a program, or the first token that cannot be right, or the first that is too deep; only want of memory has no cause in the tokens
abbrev pub Parsed : ℕ → List Token → Result Program ParseRefusal → Type 0
Parsed levels tokens (Ok program) = SpellsWithin levels tokens program
Parsed levels tokens (Err (refusal.Unexpected place)) = FirstUnexpected levels tokens place
Parsed levels tokens (Err (refusal.TooDeep place)) = FirstTooDeep levels tokens place
Parsed levels tokens (Err refusal.NoMemory) = Unit {0}

-- the answer is that the tokens are too deep, or memory is wanting
abbrev pub IsTooDeep : Result Program ParseRefusal → Type 0
IsTooDeep (Ok program) = ⊥
IsTooDeep (Err (refusal.Unexpected place)) = ⊥
IsTooDeep (Err (refusal.TooDeep place)) = Unit {0}
IsTooDeep (Err refusal.NoMemory) = Unit {0}
