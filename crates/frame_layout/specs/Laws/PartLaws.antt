-- What the parts of a frame are promised: each has at least one byte, and stands on multiples of a positive number.
use Rattle.std.proofs.Common.{◌≡◌, refl, subst, ℕ, zero, suc, ◌≤◌, List, [], ◌∷◌, slice_get, Option, Some, None}
use Rattle.c_type_base.specs.declared.typed.StructInfo.{StructInfo}
use Rattle.c_type_base.specs.declared.typed.LocalInfo.{LocalInfo}
use Rattle.c_type_base.specs.declared.typed.TFunction.{TFunction}
use Rattle.c_type_base.specs.Layout.{LaidOut}
use Rattle.c_type_base.specs.Sizes.{AreObjects, HaveBytes}
use Rattle.c_type_base.specs.Laws.LayoutLaws.{align-positive}
use Rattle.c_type_base.specs.Laws.ByteLaws.{complete-some}
use Rattle.frame_layout.specs.declared.placed.Part.{Part}
use Rattle.frame_layout.specs.Parts.{parts_from, ArePositive}

-- each has at least one byte
abbrev pub AreSome : List Part → Type 0
AreSome parts = (k : ℕ) (p : Part) → slice_get parts k ≡ Some p → 1 ≤ p.bytes

abbrev stands_well : Option Part → Type 0
stands_well None = Unit {0}
stands_well (Some p) = 1 ≤ p.align

pub parts-positive : (structs : List StructInfo) → LaidOut structs → (f : TFunction) (k : ℕ) (ls : List LocalInfo) →
    ArePositive (parts_from structs f k ls)
parts-positive structs laid f k [] j p is = subst stands_well is tt
parts-positive structs laid f k (l ∷ ls) zero p is = subst stands_well is (align-positive structs laid l.ty)
parts-positive structs laid f k (l ∷ ls) (suc j) p is = parts-positive structs laid f (suc k) ls j p is

abbrev has_some : Option Part → Type 0
has_some None = Unit {0}
has_some (Some p) = 1 ≤ p.bytes

pub parts-some : (structs : List StructInfo) → HaveBytes structs → (f : TFunction) (k : ℕ) (ls : List LocalInfo) →
    AreObjects structs ls → AreSome (parts_from structs f k ls)
parts-some structs have f k [] objects j p is = subst has_some is tt
parts-some structs have f k (l ∷ ls) objects zero p is =
    subst has_some is (complete-some structs have l.ty (objects 0 l refl).complete)
parts-some structs have f k (l ∷ ls) objects (suc j) p is =
    parts-some structs have f (suc k) ls (λ i m there. objects (suc i) m there) j p is
