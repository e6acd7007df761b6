-- Arguments of the types by which one file declares a function have the types by which another defines it (this project's own).
use Rattle.std.specs.Prelude.{◌≡◌, ℕ, suc, Bool, true, false, ◌&&◌, List, [], ◌∷◌, length, refl}
use Rattle.std.proofs.Common.{ap, sym, ◌∙◌}
use Rattle.c_ast.specs.declared.int_type.IntType.{IntType}
use Rattle.c_type_base.specs.Laws.Opened.{given_types}
use Rattle.c_type_base.specs.declared.ty.Ty.{Ty, out-Ty, roll-Ty, roll-out-Ty}
use Rattle.c_type_base.specs.declared.ty.Ty.TheOpen.{Ty-F}
use Rattle.c_type_base.specs.declared.ty.Ty.TheFolds.{fold-roll-Ty}
use Rattle.c_type_base.specs.declared.typed.StructInfo.{StructInfo}
use Rattle.c_type_base.specs.Types.{TyLayer}
use Rattle.a64_code.specs.State.{State}
use Rattle.block_meaning.specs.declared.value.Value.{Value}
use Rattle.block_meaning.specs.declared.value.Value.TheVariants.{Number, Address, Struct}
use Rattle.block_meaning.specs.Laws.Progress.Fits.{FitsLevel, Fits}
use Rattle.block_meaning.specs.Linkage.{same_across_level, same_across, all_same_across}
use Rattle.block_meaning.specs.Running.{State as MeaningState}
use Rattle.code_relation.specs.Follows.{HasArguments}
use Rattle.code_relation.specs.Sites.{Given}

module _ (these those : List StructInfo) (n : ℕ) where
  void_across : (m : TyLayer) (v : Value) → same_across_level these those Ty-F.Void m ≡ true → FitsLevel n Ty-F.Void v → FitsLevel n m v
  void_across Ty-F.Void v same fits = fits
  void_across _ v same fits = absurd cc

  int_across : (i : IntType) (m : TyLayer) (v : Value) → same_across_level these those (Ty-F.Int i) m ≡ true →
      FitsLevel n (Ty-F.Int i) v → FitsLevel n m v
  int_across i (Ty-F.Int j) (Number k) same fits = tt
  int_across i (Ty-F.Int j) _ same fits = absurd fits
  int_across i _ v same fits = absurd cc

  pointer_across : (y : Ty → Bool) (u : Ty) (m : TyLayer) (v : Value) → same_across_level these those (Ty-F.Pointer y) m ≡ true →
      FitsLevel n (Ty-F.Pointer u) v → FitsLevel n m v
  pointer_across y u (Ty-F.Pointer w) (Address p) same fits = fits
  pointer_across y u (Ty-F.Pointer w) _ same fits = absurd fits
  pointer_across y u _ v same fits = absurd cc

  struct_across : (k : ℕ) (m : TyLayer) (v : Value) → same_across_level these those (Ty-F.Struct k) m ≡ true →
      FitsLevel n (Ty-F.Struct k) v → FitsLevel n m v
  struct_across k (Ty-F.Struct j) (Struct p) same fits = fits
  struct_across k (Ty-F.Struct j) _ same fits = absurd fits
  struct_across k _ v same fits = absurd cc

  abbrev across_step : Ty-F (Ty → Bool) → Ty → Bool
  across_step level t = same_across_level these those level (out-Ty t)

  across_level : (l : TyLayer) (t : Ty) (v : Value) → same_across these those (roll-Ty l) t ≡ true → FitsLevel n l v → Fits t n v
  unfolding given_types
  across_level Ty-F.Void t v same fits = void_across (out-Ty t) v
      (sym (ap (λ f. f t) (fold-roll-Ty (Ty → Bool) across_step Ty-F.Void)) ∙ same) fits
  across_level (Ty-F.Int i) t v same fits = int_across i (out-Ty t) v
      (sym (ap (λ f. f t) (fold-roll-Ty (Ty → Bool) across_step (Ty-F.Int i))) ∙ same) fits
  across_level (Ty-F.Pointer u) t v same fits = pointer_across (same_across these those u) u (out-Ty t) v
      (sym (ap (λ f. f t) (fold-roll-Ty (Ty → Bool) across_step (Ty-F.Pointer u))) ∙ same) fits
  across_level (Ty-F.Array u k) t v same fits = absurd fits
  across_level (Ty-F.Struct k) t v same fits = struct_across k (out-Ty t) v
      (sym (ap (λ f. f t) (fold-roll-Ty (Ty → Bool) across_step (Ty-F.Struct k))) ∙ same) fits

  fits_over : (s t : Ty) (v : Value) → same_across these those s t ≡ true → Fits s n v → Fits t n v
  fits_over s t v same fits =
      across_level (out-Ty s) t v (ap (λ r. same_across these those r t) (roll-out-Ty s) ∙ same) fits

and_first : (a b : Bool) → (a && b) ≡ true → a ≡ true
and_first true b is = refl
and_first false b is = cc

and_second : (a b : Bool) → (a && b) ≡ true → b ≡ true
and_second true b is = is
and_second false b is = cc

pub arguments-over : (g : Given) (now : MeaningState) (s : State) (these those : List StructInfo) (k : ℕ) (ss ts : List Ty)
    (vs : List Value) → all_same_across these those ss ts ≡ true → HasArguments g now s k ss vs → HasArguments g now s k ts vs
arguments-over g now s these those k [] [] [] same has = tt
arguments-over g now s these those k [] [] (v ∷ vs) same has = absurd has
arguments-over g now s these those k [] (t ∷ ts) vs same has = absurd cc
arguments-over g now s these those k (x ∷ ss) [] vs same has = absurd cc
arguments-over g now s these those k (x ∷ ss) (t ∷ ts) [] same has = absurd has
arguments-over g now s these those k (x ∷ ss) (t ∷ ts) (v ∷ vs) same has = (
  fits_over these those (length now.blocks) x t v (and_first (same_across these those x t) (all_same_across these those ss ts) same) has.0,
  has.1,
  arguments-over g now s these those (suc k) ss ts vs
      (and_second (same_across these those x t) (all_same_across these those ss ts) same) has.2,
)
