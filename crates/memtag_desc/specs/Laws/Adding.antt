-- What a writer appends.
use Rattle.std.specs.Prelude.{◌≡◌, ℕ, List, ◌++◌}

-- bytes with P were appended
pub record Adds (P : List ℕ → Type 0) (before after : List ℕ) : Type 0 where
  pub bytes : List ℕ
  pub is : after ≡ before ++ bytes
  pub holds : P bytes
