-- What an object of the outside tells of its content, and what its count of faults shows.
use Rattle.std.specs.Prelude.{◌<◌, ℕ, Option, Some, None}

-- What holds of the contents before and after a call. An object that tells its content goes on telling it, and one
-- that does not never begins to.
abbrev pub WhereTold : {A : Type 0} → Option A → Option A → (A → A → Type 0) → Type 0
WhereTold None None Holds = Unit {0}
WhereTold (Some before) (Some after) Holds = Holds before after
WhereTold None (Some after) Holds = ⊥
WhereTold (Some before) None Holds = ⊥

-- The count rose. One that stands at the last number of 64 bits can rise no more, and counts as risen.
abbrev pub Rose : ℕ → ℕ → Type 0
Rose before after = after < 18446744073709551615 → before < after
