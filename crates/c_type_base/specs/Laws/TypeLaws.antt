-- When two types are one, by one equation a type.
use Rattle.std.proofs.Common.{◌≡◌, ℕ, Bool, ap}
use Rattle.c_ast.specs.declared.int_type.IntType.{IntType}
use Rattle.c_type_base.specs.Laws.Opened.{given_types}
use Rattle.c_type_base.specs.declared.ty.Ty.{Ty, out-Ty}
use Rattle.c_type_base.specs.declared.ty.Ty.TheVariants as ty
use Rattle.c_type_base.specs.declared.ty.Ty.TheOpen.{Ty-F}
use Rattle.c_type_base.specs.declared.ty.Ty.TheFolds.{fold-roll-Ty}
use Rattle.c_type_base.specs.Types.{same_type, same_level}

abbrev pub same_step : Ty-F (Ty → Bool) → Ty → Bool
same_step level t = same_level level (out-Ty t)

pub same-void : (t : Ty) → same_type ty.Void t ≡ same_step Ty-F.Void t
unfolding given_types
same-void t = ap (λ f. f t) (fold-roll-Ty (Ty → Bool) same_step Ty-F.Void)

pub same-int : (s : IntType) (t : Ty) → same_type (ty.Int s) t ≡ same_step (Ty-F.Int s) t
unfolding given_types
same-int s t = ap (λ f. f t) (fold-roll-Ty (Ty → Bool) same_step (Ty-F.Int s))

pub same-pointer : (s : Ty) (t : Ty) → same_type (ty.Pointer s) t ≡ same_step (Ty-F.Pointer (same_type s)) t
unfolding given_types
same-pointer s t = ap (λ f. f t) (fold-roll-Ty (Ty → Bool) same_step (Ty-F.Pointer s))

pub same-array : (s : Ty) (n : ℕ) (t : Ty) → same_type (ty.Array s n) t ≡ same_step (Ty-F.Array (same_type s) n) t
unfolding given_types
same-array s n t = ap (λ f. f t) (fold-roll-Ty (Ty → Bool) same_step (Ty-F.Array s n))

pub same-struct : (n : ℕ) (t : Ty) → same_type (ty.Struct n) t ≡ same_step (Ty-F.Struct n) t
unfolding given_types
same-struct n t = ap (λ f. f t) (fold-roll-Ty (Ty → Bool) same_step (Ty-F.Struct n))
