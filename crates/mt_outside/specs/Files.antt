-- What the calls of files answer, and what they leave in the map from names to bytes.
use Rattle.std.specs.Prelude.{◌≡◌, ◌≢◌, ℕ, List, Option, Some, None}
use Rattle.mt_outside.specs.declared.files.ReadAnswer.{ReadAnswer}
use Rattle.mt_outside.specs.declared.files.ReadAnswer.TheVariants.{Got, Absent, Failed as ReadFailed, NoMemory as ReadNoMemory}
use Rattle.mt_outside.specs.declared.files.WriteAnswer.{WriteAnswer}
use Rattle.mt_outside.specs.declared.files.WriteAnswer.TheVariants.{Done, Failed, NoMemory}

-- the bytes of each name, where there is such a name
abbrev pub Contents : Type 0
Contents = List ℕ → Option (List ℕ)

-- every name but this one holds what it held
abbrev pub OthersStay : List ℕ → Contents → Contents → Type 0
OthersStay name before after = (other : List ℕ) → other ≢ name → after other ≡ before other

-- what the read of a name says of the map
abbrev pub ReadGives : Contents → List ℕ → ReadAnswer → Type 0
ReadGives files name (Got bytes) = files name ≡ Some bytes.items
ReadGives files name Absent = files name ≡ None
ReadGives files name ReadFailed = Unit {0}
ReadGives files name ReadNoMemory = Unit {0}

-- what the write of a name leaves of the map
abbrev pub WriteGives : List ℕ → List ℕ → WriteAnswer → Contents → Contents → Type 0
WriteGives name bytes Done before after = (after name ≡ Some bytes) × OthersStay name before after
WriteGives name bytes Failed before after = OthersStay name before after
WriteGives name bytes NoMemory before after = (any : List ℕ) → after any ≡ before any
