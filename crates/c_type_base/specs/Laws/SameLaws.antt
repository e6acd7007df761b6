-- Types that are one by the rules are equal, and each type is one with itself.
use Rattle.std.proofs.Common.{◌≡◌, refl, sym, ◌∙◌, ap, subst, ℕ, Bool, true, false, ◌&&◌, nat_eq}
use Rattle.std.proofs.lemmas.Bool.{and_from, and_parts, eqb-true, eq-eqb}
use Rattle.c_ast.specs.declared.int_type.IntType.{IntType}
use Rattle.c_ast.specs.declared.int_type.IntType.TheVariants as int
use Rattle.c_type_base.specs.Laws.Opened.{given_types}
use Rattle.c_type_base.specs.Laws.TypeLaws.{same-void, same-int, same-pointer, same-array, same-struct}
use Rattle.c_type_base.specs.declared.ty.Ty.{Ty, out-Ty, roll-Ty, roll-out-Ty, map-Ty}
use Rattle.c_type_base.specs.declared.ty.Ty.TheVariants as ty
use Rattle.c_type_base.specs.declared.ty.Ty.TheOpen.{Ty-F}
use Rattle.c_type_base.specs.declared.ty.Ty.TheFolds.{ind-Ty}
use Rattle.c_type_base.specs.Types.{TyLayer, same_int, same_level, same_type}

int_one : (s t : IntType) → same_int s t ≡ true → s ≡ t
int_one int.Char int.Char is = refl
int_one int.SignedChar int.SignedChar is = refl
int_one int.UnsignedChar int.UnsignedChar is = refl
int_one int.Short int.Short is = refl
int_one int.UShort int.UShort is = refl
int_one int.Int int.Int is = refl
int_one int.UInt int.UInt is = refl
int_one int.Long int.Long is = refl
int_one int.ULong int.ULong is = refl
int_one _ _ is = cc

abbrev IsOne : Ty → Type 0
IsOne s = (t : Ty) → same_type s t ≡ true → s ≡ t

abbrev With : Type 0
With = (t : Ty) × IsOne t

types_with : Ty-F With → Ty-F Ty
types_with = map-Ty With Ty (λ e. e.0)

void_one : (m : TyLayer) → same_level Ty-F.Void m ≡ true → roll-Ty Ty-F.Void ≡ roll-Ty m
void_one Ty-F.Void is = refl
void_one _ is = cc

int_level : (i : IntType) (m : TyLayer) → same_level (Ty-F.Int i) m ≡ true → roll-Ty (Ty-F.Int i) ≡ roll-Ty m
int_level i (Ty-F.Int j) is = ap (λ k. roll-Ty (Ty-F.Int k)) (int_one i j is)
int_level i _ is = cc

pointer_one : (s : Ty) → IsOne s → (m : TyLayer) → same_level (Ty-F.Pointer (same_type s)) m ≡ true →
    roll-Ty (Ty-F.Pointer s) ≡ roll-Ty m
pointer_one s one (Ty-F.Pointer t) is = ap (λ t. roll-Ty (Ty-F.Pointer t)) (one t is)
pointer_one s one _ is = cc

array_one : (s : Ty) (n : ℕ) → IsOne s → (m : TyLayer) → same_level (Ty-F.Array (same_type s) n) m ≡ true →
    roll-Ty (Ty-F.Array s n) ≡ roll-Ty m
array_one s n one (Ty-F.Array t k) is =
    let parts = and_parts (same_type s t) (nat_eq n k) is in
    ap (λ t. roll-Ty (Ty-F.Array t n)) (one t parts.0) ∙ ap (λ k. roll-Ty (Ty-F.Array t k)) (eqb-true n k parts.1)
array_one s n one _ is = cc

struct_one : (n : ℕ) (m : TyLayer) → same_level (Ty-F.Struct n) m ≡ true → roll-Ty (Ty-F.Struct n) ≡ roll-Ty m
struct_one n (Ty-F.Struct k) is = ap (λ k. roll-Ty (Ty-F.Struct k)) (eqb-true n k is)
struct_one n _ is = cc

level : (y : Ty-F With) → IsOne (roll-Ty (types_with y))
unfolding types_with given_types
level Ty-F.Void t is = void_one (out-Ty t) (sym (same-void t) ∙ is) ∙ roll-out-Ty t
level (Ty-F.Int i) t is = int_level i (out-Ty t) (sym (same-int i t) ∙ is) ∙ roll-out-Ty t
level (Ty-F.Pointer s) t is = pointer_one s.0 s.1 (out-Ty t) (sym (same-pointer s.0 t) ∙ is) ∙ roll-out-Ty t
level (Ty-F.Array s n) t is = array_one s.0 n s.1 (out-Ty t) (sym (same-array s.0 n t) ∙ is) ∙ roll-out-Ty t
level (Ty-F.Struct n) t is = struct_one n (out-Ty t) (sym (same-struct n t) ∙ is) ∙ roll-out-Ty t

levels : (x : Ty-F Ty) (y : Ty-F With) → types_with y ≡ x → IsOne (roll-Ty x)
levels x y is = subst (λ x. IsOne (roll-Ty x)) is (level y)

-- two types that are one by the rules are equal
pub one-type : (s t : Ty) → same_type s t ≡ true → s ≡ t
unfolding types_with
one-type = ind-Ty IsOne levels

-- ---- and each type is one with itself

int_same : (i : IntType) → same_int i i ≡ true
int_same int.Char = refl
int_same int.SignedChar = refl
int_same int.UnsignedChar = refl
int_same int.Short = refl
int_same int.UShort = refl
int_same int.Int = refl
int_same int.UInt = refl
int_same int.Long = refl
int_same int.ULong = refl

abbrev IsSame : Ty → Type 0
IsSame t = same_type t t ≡ true

abbrev WithSame : Type 0
WithSame = (t : Ty) × IsSame t

types_same : Ty-F WithSame → Ty-F Ty
types_same = map-Ty WithSame Ty (λ e. e.0)

same_level_itself : (y : Ty-F WithSame) → IsSame (roll-Ty (types_same y))
unfolding types_same given_types
same_level_itself Ty-F.Void = same-void ty.Void
same_level_itself (Ty-F.Int i) = same-int i (ty.Int i) ∙ int_same i
same_level_itself (Ty-F.Pointer t) = same-pointer t.0 (ty.Pointer t.0) ∙ t.1
same_level_itself (Ty-F.Array t n) =
    same-array t.0 n (ty.Array t.0 n) ∙ and_from (same_type t.0 t.0) (nat_eq n n) t.1 (eq-eqb n n refl)
same_level_itself (Ty-F.Struct n) = same-struct n (ty.Struct n) ∙ eq-eqb n n refl

same_levels : (x : Ty-F Ty) (y : Ty-F WithSame) → types_same y ≡ x → IsSame (roll-Ty x)
same_levels x y is = subst (λ x. IsSame (roll-Ty x)) is (same_level_itself y)

-- a type is one with itself by the rules
pub same-itself : (t : Ty) → same_type t t ≡ true
unfolding types_same
same-itself = ind-Ty IsSame same_levels
