-- Conditions in order, each with the fault that it is where it fails.
use Rattle.std.specs.Prelude.{◌≡◌, ℕ, Bool, List, length, take, drop, Some, None, Result, MatchResult}
use Rattle.std.specs.Str.{bytes_eq}
use Rattle.elf_base.specs.Field.{Field, bytes_of}
use Rattle.elf_base.specs.Conditions.{Condition, first_fault}
use Rattle.elf_obj.specs.declared.refusal.ObjectRefusal.{ObjectRefusal}

-- an answer is the first fault, or Ok where no condition fails
abbrev pub Tells : {T : Type 0} → Result T ObjectRefusal → List (Condition ObjectRefusal) → Type 0
Tells r cs = MatchResult r (λ _. first_fault cs ≡ None) (λ e. first_fault cs ≡ Some e)

-- the fields stand from a place on, one behind the other
abbrev pub stands : List Field → ℕ → List ℕ → Bool
stands fs at file = bytes_eq (take (length (bytes_of fs)) (drop at file)) (bytes_of fs)
