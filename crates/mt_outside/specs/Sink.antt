-- What the call of a sink answers, and what it leaves.
use Rattle.std.specs.Prelude.{◌≡◌, ◌≤◌, ℕ, List, ◌++◌, length, take}
use Rattle.mt_outside.specs.declared.sink.PutAnswer.{PutAnswer}
use Rattle.mt_outside.specs.declared.sink.PutAnswer.TheVariants.{Done, Failed}

-- the bytes taken before and after an answer
abbrev pub PutGives : List ℕ → PutAnswer → List ℕ → List ℕ → Type 0
PutGives bytes Done before after = after ≡ before ++ bytes
PutGives bytes Failed before after = (count : ℕ) × (count ≤ length bytes) × (after ≡ before ++ take count bytes)
