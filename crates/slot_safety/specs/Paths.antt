-- Paths that stay in a local: its name, `.member`, and `[constant]` in range on an array (this project's own, after MemTagSanitizer, which
-- tags what it cannot show safe).
use Rattle.std.specs.Prelude.{ℕ, List, [], ◌∷◌, ltb, if◌then◌else◌}
use Rattle.c_type_base.specs.declared.ty.Ty.{Ty, out-Ty}
use Rattle.c_type_base.specs.declared.ty.Ty.TheOpen.{Ty-F}
use Rattle.c_type_base.specs.declared.known.Constancy.{Constancy}
use Rattle.c_type_base.specs.declared.known.Constancy.TheVariants.{Is}
use Rattle.c_type_base.specs.Types.{TyLayer, is_scalar}
use Rattle.slot_safety.specs.declared.seen.Path.{Path}
use Rattle.slot_safety.specs.declared.seen.Path.TheVariants.{Nowhere, Object, Elements}

-- the local in which a path stands
abbrev pub start_of : Path → List ℕ
start_of Nowhere = []
start_of (Object k) = k ∷ []
start_of (Elements k n) = k ∷ []

abbrev pub elements_in : ℕ → TyLayer → Path
elements_in k (Ty-F.Array t n) = Elements k n
elements_in k _ = Nowhere

-- an object of a type as the pointer to its first element
abbrev pub decayed : Ty → Path → Path
decayed t (Object k) = elements_in k (out-Ty t)
decayed t _ = Nowhere

-- a member of it
abbrev pub member : Path → Path
member (Object k) = Object k
member _ = Nowhere

-- an element of it: the index is a constant, and in range
abbrev pub element : Path → Constancy → Path
element (Elements k n) (Is c) = (if ltb c n then Object k else Nowhere)
element _ _ = Nowhere

-- the local of a path that ends, where a step was to go on from it
abbrev pub ended : Path → Path → List ℕ
ended before Nowhere = start_of before
ended before _ = []

-- the local of a path that does not end at a scalar, where one is read, written or changed
abbrev pub misused : Ty → Path → List ℕ
misused t (Object k) = (if is_scalar t then [] else k ∷ [])
misused t path = start_of path
