-- What the words of a file are to do: wherever they are placed, those of each of its functions follow it as far as some work reaches, where
-- the functions of other files are followed as far as less work reaches (this project's own).
use Rattle.std.specs.Prelude.{◌≡◌, ◌≢◌, ℕ, ◌+◌, ◌*◌, ◌<◌, ◌≤◌, [], ◌∷◌, length, slice_get, Some}
use Rattle.a64_code.specs.State.{State}
use Rattle.c_type_base.specs.declared.typed.TFunction.{TFunction}
use Rattle.c_type_base.specs.declared.typed.Typed.{Typed}
use Rattle.block_meaning.specs.Linkage.{function_of, function_named}
use Rattle.block_meaning.specs.Running.{Function}
use Rattle.code_relation.specs.Follows.{Code, WordsFollow}
use Rattle.code_relation.specs.Items.{IsAt}
use Rattle.code_relation.specs.Sites.{Given, units_of}
use Rattle.code_relation.specs.Stands.{IsThere}
use Rattle.code_relation.specs.Trees.{IsMeant}
use Rattle.frame_layout.specs.Steps.{per}
use Rattle.gen_unit.specs.Units.{all_words}
use Rattle.unit_follows.specs.Placed.{IsPlacedFile}
use Rattle.unit_follows.specs.Placing.{Placing}

-- states are inside where PC is at one of so many words
pub record IsInside (c : Code) (at words : ℕ) : Type 0 where
  pub inside : (k : ℕ) (s : State) → k < words → IsAt c (at + 4 * k) s → c.Inside s

-- what stays the same for all functions of a program: what is given, how many steps a unit of work pays, and which states are inside
pub record Setup : Type 1 where
  pub given : Given
  pub per : ℕ
  pub Inside : State → Type 0

-- as far as so much work reaches
abbrev pub code : Setup → ℕ → Code
code u reach = record { given = u.given; per = u.per; reach = reach; Inside = u.Inside }

-- the functions of other files
abbrev pub OthersFollow : Setup → Placing → ℕ → ℕ → Type 0
OthersFollow u p unit reach =
    (f : Function) → f.unit ≢ unit → IsThere (units_of u.given) f → WordsFollow (code u reach) f (p.function f)

-- a file is placed in a program that is as it is meant, and a unit of work pays for its frames and copies
pub record IsPlacedIn (typed : Typed) (u : Setup) (p : Placing) (unit : ℕ) : Type 0 where
  pub file : slice_get (units_of u.given) unit ≡ Some typed
  pub meant : IsMeant u.given.program
  pub pays : per (typed ∷ []) ≤ u.per
  pub placed : IsPlacedFile u.given p unit
  pub inside : (reach : ℕ) → IsInside (code u reach) p.words (length (all_words typed.structs typed.functions))

-- The whole.
pub record UnitFollows (typed : Typed) : Type 1 where
  pub follows : (u : Setup) (p : Placing) (unit reach : ℕ) → IsPlacedIn typed u p unit →
      ((fewer : ℕ) → fewer < reach → OthersFollow u p unit fewer) → (n : ℕ) (tf : TFunction) →
      function_named (units_of u.given) (function_of unit n) ≡ Some tf →
      WordsFollow (code u reach) (function_of unit n) (p.function (function_of unit n))
