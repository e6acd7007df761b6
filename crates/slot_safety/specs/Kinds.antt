-- Which parameters and locals of a function are tagged: those with an occurrence that is not harmless (this project's own, after
-- MemTagSanitizer, which tags what cannot be shown safe).
use Rattle.std.specs.Prelude.{ℕ, suc, Bool, true, false, ◌||◌, nat_eq, List, [], ◌∷◌, slice_set}
use Rattle.c_type_base.specs.declared.typed.StructInfo.{StructInfo}
use Rattle.c_type_base.specs.declared.typed.TFunction.{TFunction}
use Rattle.slot_safety.specs.declared.kind.Kind.{Kind}
use Rattle.slot_safety.specs.declared.kind.Kind.TheVariants.{Safe, Tagged}
use Rattle.slot_safety.specs.Statements.{stmt_harms}

-- the number is among these
abbrev pub among : ℕ → List ℕ → Bool
among k [] = false
among k (j ∷ js) = nat_eq k j || among k js

-- the parameters and locals of a function with an occurrence that is not harmless
abbrev pub harms : List StructInfo → TFunction → List ℕ
harms structs f = stmt_harms structs f.body

-- the parameter or local of this number is tagged
abbrev pub is_tagged : List StructInfo → TFunction → ℕ → Bool
is_tagged structs f k = among k (harms structs f)

-- the kind of one that is tagged, or not
abbrev pub kind_by : Bool → Kind
kind_by true = Tagged
kind_by false = Safe

-- one thing or the other for each item, of which the first has this number, by whether its number is among these
abbrev pub by_number : {A B : Type 0} → (Bool → A) → List ℕ → ℕ → List B → List A
by_number by these k [] = []
by_number by these k (l ∷ ls) = by (among k these) ∷ by_number by these (suc k) ls

-- the kinds of all parameters and locals, in order
abbrev pub kinds : List StructInfo → TFunction → List Kind
kinds structs f = by_number kind_by (harms structs f) 0 f.locals

-- a list with the same thing at each of these places
abbrev pub put : {A : Type 0} → A → List A → List ℕ → List A
put a xs [] = xs
put a xs (k ∷ ks) = put a (slice_set xs k a) ks

-- kinds of locals once these are tagged too
abbrev pub marked : List Kind → List ℕ → List Kind
marked = put Tagged
