-- Values of pointer types, and the bytes of what they point to (this project's own).
use Rattle.std.specs.Prelude.{◌≡◌, ℕ, true, Option, Some, None, refl}
use Rattle.std.proofs.Common.{ap, ◌∙◌}
use Rattle.c_type_base.specs.Sizes.{size}
use Rattle.c_type_base.specs.Types.{TyLayer, is_there, is_pointer, target_of, target_of_level}
use Rattle.c_type_base.specs.declared.ty.Ty.{Ty, out-Ty}
use Rattle.c_type_base.specs.declared.ty.Ty.TheOpen.{Ty-F}
use Rattle.a64_code.specs.State.{State}
use Rattle.block_meaning.specs.Memory.{bytes_of}
use Rattle.block_meaning.specs.Operators.{size_in, target_size}
use Rattle.block_meaning.specs.Running.{State as MeaningState}
use Rattle.block_meaning.specs.declared.value.Pointer.{Pointer}
use Rattle.block_meaning.specs.declared.value.Value.{Value}
use Rattle.block_meaning.specs.declared.value.Value.TheVariants.{Address}
use Rattle.code_relation.specs.Numbers.{IsNumber, Holds}
use Rattle.code_relation.specs.Relates.{Relates}
use Rattle.code_relation.specs.Sites.{Given}
use Rattle.code_follows.specs.Scene.{Scene, IsScene, given_in, structs_in}
use Rattle.code_follows.specs.Values.{IsOfLevel, ValueIs}
use Rattle.code_follows.specs.Laws.Here.{structs_here}

-- a value is a pointer, and this is its number
pub record AddressIs (g : Given) (v : Value) (now : MeaningState) (n : ℕ) : Type 0 where
  pub pointer : Pointer
  pub is : v ≡ Address pointer
  pub number : IsNumber g now pointer n

level_address : (g : Given) (now : MeaningState) (l : TyLayer) (t : Ty) (v : Value) (n : ℕ) → target_of_level l ≡ Some t →
    IsOfLevel l v → Holds g now v n → AddressIs g v now n
level_address g now (Ty-F.Pointer u) t (Address p) n is of holds = record { pointer = p; is = refl; number = holds }
level_address g now (Ty-F.Pointer u) t _ n is of holds = absurd of
level_address g now _ t v n is of holds = absurd (cc)

pub ValueIs-address : {g : Given} {now : MeaningState} {s t : Ty} {v : Value} {n : ℕ} → target_of s ≡ Some t → ValueIs g s v now n →
    AddressIs g v now n
ValueIs-address {g} {now} {s} {t} {v} {n} is value = level_address g now (out-Ty s) t v n is value.of value.holds

address_level : (l : TyLayer) (t : Ty) (p : Pointer) → target_of_level l ≡ Some t → IsOfLevel l (Address p)
address_level (Ty-F.Pointer u) t p is = tt
address_level _ t p is = absurd (cc)

-- and a pointer is a value of a pointer type
pub address-ValueIs : {g : Given} {now : MeaningState} {s t : Ty} {p : Pointer} {n : ℕ} → target_of s ≡ Some t → IsNumber g now p n →
    ValueIs g s (Address p) now n
address-ValueIs {s = s} {t} {p} is number = record { of = address_level (out-Ty s) t p is; holds = number }

-- what a pointer type points to
pub record PointsTo (s : Ty) : Type 0 where
  pub target : Ty
  pub is : target_of s ≡ Some target

points_by : (s : Ty) (o : Option Ty) → target_of s ≡ o → is_there o ≡ true → PointsTo s
points_by s None is there = absurd (cc)
points_by s (Some t) is there = record { target = t; is = is }

pub points_to : (s : Ty) → is_pointer s ≡ true → PointsTo s
points_to s pointer = points_by s (target_of s) refl pointer

-- ---- sizes, as the code has them

pub size_here : {k : Scene} {now : MeaningState} {s : State} → IsScene k → (t : Ty) → Relates (given_in k) k.here now s →
    bytes_of k.here t ≡ size (structs_in k) t
size_here scene t relates = ap (λ structs. size structs t) (structs_here scene relates)

pub target_here : {k : Scene} {now : MeaningState} {s : State} → IsScene k → (u t : Ty) → target_of u ≡ Some t →
    Relates (given_in k) k.here now s → target_size k.here u ≡ size (structs_in k) t
target_here {k} scene u t is relates = ap (λ o. size_in k.here o) is ∙ size_here scene t relates
