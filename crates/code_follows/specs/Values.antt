-- Values that expressions of a type give, and their numbers in a register (this project's own).
use Rattle.std.specs.Prelude.{ℕ}
use Rattle.c_type_base.specs.declared.ty.Ty.{Ty, out-Ty}
use Rattle.c_type_base.specs.declared.ty.Ty.TheOpen.{Ty-F}
use Rattle.c_type_base.specs.Types.{TyLayer}
use Rattle.block_meaning.specs.declared.value.Pointer.{Pointer}
use Rattle.block_meaning.specs.declared.value.Value.{Value}
use Rattle.block_meaning.specs.declared.value.Value.TheVariants.{Number, Address, Struct, NoValue}
use Rattle.block_meaning.specs.Running.{State as MeaningState}
use Rattle.code_relation.specs.Numbers.{IsNumber, Holds}
use Rattle.gen_laws.specs.Computes.{IsOf}
use Rattle.code_relation.specs.Sites.{Given}

-- an integer is one of the type's values; of an integer's value no other is said to be one
abbrev pub IsOfLevel : TyLayer → Value → Type 0
IsOfLevel (Ty-F.Int t) (Number n) = IsOf t n
IsOfLevel (Ty-F.Pointer t) (Address p) = Unit {0}
IsOfLevel (Ty-F.Struct number) (Struct p) = Unit {0}
IsOfLevel Ty-F.Void NoValue = Unit {0}
IsOfLevel _ _ = ⊥

abbrev pub IsOfType : Ty → Value → Type 0
IsOfType t v = IsOfLevel (out-Ty t) v

-- a value of a type, and the number that a register has for it
pub record ValueIs (g : Given) (t : Ty) (v : Value) (now : MeaningState) (n : ℕ) : Type 0 where
  pub of : IsOfType t v
  pub holds : Holds g now v n

-- the same of a place
pub record PlaceIs (g : Given) (p : Pointer) (now : MeaningState) (n : ℕ) : Type 0 where
  pub is : IsNumber g now p n
