-- Places in arrays, and what a struct inside a type is.
use Rattle.std.proofs.Common.{◌≡◌, sym, ◌∙◌, ap, ℕ, ◌*◌, ◌%◌, ◌<◌, List, Option, Some, None}
use Rattle.std.specs.Prelude.{if◌then◌else◌, IfSome, IfNone}
use Rattle.std.proofs.lemmas.Bool.{lt-ltb}
use Rattle.std.proofs.lemmas.Nat.{mul-mod_second}
use Rattle.c_type_stmt.specs.declared.initial.Slot.{Slot}
use Rattle.c_type_base.specs.declared.ty.Ty.{Ty}
use Rattle.c_type_base.specs.declared.ty.Ty.TheVariants as ty
use Rattle.c_type_base.specs.declared.typed.StructInfo.{StructInfo}
use Rattle.c_type_base.specs.Laws.FirstScalarLaws.{first-array}
use Rattle.c_type_base.specs.Laws.Opened.{given_types}
use Rattle.c_type_base.specs.Layout.{first_by}
use Rattle.c_type_base.specs.Sizes.{size}
use Rattle.c_type_stmt.specs.Slots.{slots_at}

abbrev slot_of : Ty → ℕ → Slot
slot_of t offset = record { ty = t; offset = offset }

pub array_place : (structs : List StructInfo) (t : Ty) (n k place bytes : ℕ) → k < n → bytes ≡ size structs t % 18446744073709551616 →
    place ≡ k * bytes % 18446744073709551616 → Some (slot_of t place) ≡ slots_at structs (ty.Array t n) k
unfolding given_types
array_place structs t n k place bytes below count is =
    ap (λ o. Some (slot_of t o))
    (is ∙ ap (λ b. k * b % 18446744073709551616) count ∙ mul-mod_second k (size structs t) 18446744073709551616)
    ∙ ap (λ b. if b then Some (slot_of t (k * size structs t % 18446744073709551616)) else None) (sym (lt-ltb k n below))

pub within_some : (t : Ty) (n : ℕ) (o : Option ℕ) → IfSome o (λ m. (f : ℕ → ℕ) → first_by f t ≡ f m) →
    IfSome o (λ m. (f : ℕ → ℕ) → first_by f (ty.Array t n) ≡ f m)
within_some t n None all = tt
within_some t n (Some m) all = λ f. first-array f t n ∙ all f

pub within_none : (t : Ty) (n : ℕ) (o : Option ℕ) → IfNone o ((f : ℕ → ℕ) → first_by f t ≡ first_by (λ m. 0) t) →
    IfNone o ((f : ℕ → ℕ) → first_by f (ty.Array t n) ≡ first_by (λ m. 0) (ty.Array t n))
within_none t n None all = λ f. first-array f t n ∙ all f ∙ sym (first-array (λ m. 0) t n)
within_none t n (Some m) all = tt
