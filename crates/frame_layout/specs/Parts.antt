-- What the slots of a function have to hold: its parameters and locals, in order of declaration.
use Rattle.std.specs.Prelude.{◌≡◌, ℕ, suc, ◌≤◌, Bool, ltb, List, [], ◌∷◌, slice_get, Some}
use Rattle.c_type_base.specs.declared.typed.StructInfo.{StructInfo}
use Rattle.c_type_base.specs.declared.typed.LocalInfo.{LocalInfo}
use Rattle.c_type_base.specs.declared.typed.TFunction.{TFunction}
use Rattle.c_type_base.specs.Sizes.{size, align}
use Rattle.slot_safety.specs.declared.kind.Kind.{Kind}
use Rattle.slot_safety.specs.Kinds.{is_tagged, kind_by}
use Rattle.frame_layout.specs.declared.placed.Part.{Part}
use Rattle.frame_layout.specs.Scopes.{inner_by, is_inner}

-- what the slot of a local has to hold, by its type
abbrev pub part_of : List StructInfo → LocalInfo → Kind → Bool → Part
part_of structs l kind inner = record { bytes = size structs l.ty; align = align structs l.ty; kind = kind; inner = inner }

-- of some locals, of which the first has this number
abbrev pub parts_from : List StructInfo → TFunction → ℕ → List LocalInfo → List Part
parts_from structs f k [] = []
parts_from structs f k (l ∷ ls) =
    part_of structs l (kind_by (is_tagged structs f k)) (is_inner f k) ∷ parts_from structs f (suc k) ls

-- of all parameters and locals
abbrev pub parts : List StructInfo → TFunction → List Part
parts structs f = parts_from structs f 0 f.locals

-- the table of structs, and how many of the locals are parameters, the first ones
pub record Setting : Type 0 where
  pub structs : List StructInfo
  pub params : ℕ

abbrev pub setting : List StructInfo → ℕ → Setting
setting structs params = record { structs = structs; params = params }

-- the same by lists of the kinds and of what the outermost block declares
abbrev pub parts_by : Setting → ℕ → List LocalInfo → List Kind → List Bool → List Part
parts_by given k (l ∷ ls) (kind ∷ kinds) (outer ∷ outers) =
    part_of given.structs l kind (inner_by (ltb k given.params) outer) ∷ parts_by given (suc k) ls kinds outers
parts_by given k _ _ _ = []

-- each stands on multiples of a positive number
abbrev pub ArePositive : List Part → Type 0
ArePositive parts = (k : ℕ) (p : Part) → slice_get parts k ≡ Some p → 1 ≤ p.align
