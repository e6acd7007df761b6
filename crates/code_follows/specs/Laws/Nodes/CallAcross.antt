-- A value of a type in one file is one of the same type in another, and so what a function gives that another file defines (this project's
-- own).
use Rattle.std.specs.Prelude.{◌≡◌, ℕ, Bool, true, false, ◌&&◌, List, Option, Some, None, refl, if◌then◌else◌}
use Rattle.std.proofs.Common.{ap, sym, subst, ◌∙◌}
use Rattle.c_ast.specs.declared.int_type.IntType.{IntType}
use Rattle.c_ast.specs.declared.int_type.IntType.TheVariants as int
use Rattle.c_type_base.specs.Laws.Opened.{given_types}
use Rattle.c_type_base.specs.Types.{TyLayer, same_int}
use Rattle.c_type_base.specs.declared.ty.Ty.{Ty, out-Ty, roll-Ty, roll-out-Ty}
use Rattle.c_type_base.specs.declared.ty.Ty.TheOpen.{Ty-F}
use Rattle.c_type_base.specs.declared.ty.Ty.TheFolds.{fold-roll-Ty}
use Rattle.c_type_base.specs.declared.typed.ExternInfo.{ExternInfo}
use Rattle.c_type_base.specs.declared.typed.StructInfo.{StructInfo}
use Rattle.c_type_base.specs.declared.typed.TFunction.{TFunction}
use Rattle.c_type_base.specs.declared.typed.Typed.{Typed}
use Rattle.block_meaning.specs.Linkage.{Definition, AnObject, AFunction, function_named, structs_of, same_across_level, same_across}
use Rattle.block_meaning.specs.Linkage.{all_same_across, parameter_types, agrees_with, called_as}
use Rattle.block_meaning.specs.Running.{Function}
use Rattle.block_meaning.specs.declared.value.Value.{Value}
use Rattle.block_meaning.specs.declared.value.Value.TheVariants.{Number, Address, Struct}
use Rattle.gen_laws.specs.Computes.{IsOf}
use Rattle.gen_laws.specs.Laws.Numbers.{some_same}
use Rattle.code_follows.specs.Values.{IsOfLevel, IsOfType}

int_one : (s t : IntType) → same_int s t ≡ true → s ≡ t
int_one int.Char int.Char is = refl
int_one int.SignedChar int.SignedChar is = refl
int_one int.UnsignedChar int.UnsignedChar is = refl
int_one int.Short int.Short is = refl
int_one int.UShort int.UShort is = refl
int_one int.Int int.Int is = refl
int_one int.UInt int.UInt is = refl
int_one int.Long int.Long is = refl
int_one int.ULong int.ULong is = refl
int_one _ _ is = absurd (cc)

module _ (these those : List StructInfo) where
  void_across : (m : TyLayer) (v : Value) → same_across_level these those Ty-F.Void m ≡ true → IsOfLevel m v → IsOfLevel Ty-F.Void v
  void_across Ty-F.Void v same of = of
  void_across _ v same of = absurd (cc)

  int_across : (i : IntType) (m : TyLayer) (v : Value) → same_across_level these those (Ty-F.Int i) m ≡ true → IsOfLevel m v →
      IsOfLevel (Ty-F.Int i) v
  int_across i (Ty-F.Int j) (Number n) same of = subst (λ t. IsOf t n) (sym (int_one i j same)) of
  int_across i (Ty-F.Int j) _ same of = absurd of
  int_across i _ v same of = absurd (cc)

  pointer_across : (y : Ty → Bool) (u : Ty) (m : TyLayer) (v : Value) → same_across_level these those (Ty-F.Pointer y) m ≡ true →
      IsOfLevel m v → IsOfLevel (Ty-F.Pointer u) v
  pointer_across y u (Ty-F.Pointer w) (Address p) same of = tt
  pointer_across y u (Ty-F.Pointer w) _ same of = absurd of
  pointer_across y u _ v same of = absurd (cc)

  array_across : (y : Ty → Bool) (k : ℕ) (l m : TyLayer) (v : Value) → same_across_level these those (Ty-F.Array y k) m ≡ true →
      IsOfLevel m v → IsOfLevel l v
  array_across y k l (Ty-F.Array w j) v same of = absurd of
  array_across y k l _ v same of = absurd (cc)

  struct_across : (k : ℕ) (m : TyLayer) (v : Value) → same_across_level these those (Ty-F.Struct k) m ≡ true → IsOfLevel m v →
      IsOfLevel (Ty-F.Struct k) v
  struct_across k (Ty-F.Struct j) (Struct p) same of = tt
  struct_across k (Ty-F.Struct j) _ same of = absurd of
  struct_across k _ v same of = absurd (cc)

  abbrev across_step : Ty-F (Ty → Bool) → Ty → Bool
  across_step level t = same_across_level these those level (out-Ty t)

  across_level : (l : TyLayer) (t : Ty) (v : Value) → same_across these those (roll-Ty l) t ≡ true → IsOfType t v → IsOfLevel l v
  unfolding given_types
  across_level Ty-F.Void t v same of = void_across (out-Ty t) v
      (sym (ap (λ f. f t) (fold-roll-Ty (Ty → Bool) across_step Ty-F.Void)) ∙ same) of
  across_level (Ty-F.Int i) t v same of = int_across i (out-Ty t) v
      (sym (ap (λ f. f t) (fold-roll-Ty (Ty → Bool) across_step (Ty-F.Int i))) ∙ same) of
  across_level (Ty-F.Pointer u) t v same of = pointer_across (same_across these those u) u (out-Ty t) v
      (sym (ap (λ f. f t) (fold-roll-Ty (Ty → Bool) across_step (Ty-F.Pointer u))) ∙ same) of
  across_level (Ty-F.Array u k) t v same of = array_across (same_across these those u) k (Ty-F.Array u k) (out-Ty t) v
      (sym (ap (λ f. f t) (fold-roll-Ty (Ty → Bool) across_step (Ty-F.Array u k))) ∙ same) of
  across_level (Ty-F.Struct k) t v same of = struct_across k (out-Ty t) v
      (sym (ap (λ f. f t) (fold-roll-Ty (Ty → Bool) across_step (Ty-F.Struct k))) ∙ same) of

  of_type_across : (s t : Ty) (v : Value) → same_across these those s t ≡ true → IsOfType t v → IsOfType s v
  of_type_across s t v same of =
      across_level (out-Ty s) t v (ap (λ r. same_across these those r t) (roll-out-Ty s) ∙ same) of

first_of : (a b : Bool) → (a && b) ≡ true → a ≡ true
first_of true b both = refl
first_of false b both = absurd (cc)

-- a function that is called as a file declares it is there, and gives what is declared
pub record GivesAs (units : List Typed) (e : ExternInfo) (f : Function) : Type 0 where
  pub function : TFunction
  pub function_is : function_named units f ≡ Some function
  pub gives : (v : Value) → IsOfType function.result v → IsOfType e.result v

module _ (units : List Typed) (unit : ℕ) (e : ExternInfo) where
  agrees_as : (f : Function) (o : Option TFunction) → function_named units f ≡ o →
      agrees_with (structs_of units unit) (structs_of units f.unit) e o ≡ true → GivesAs units e f
  agrees_as f None is agrees = absurd (cc)
  agrees_as f (Some g) is agrees =
      let these = structs_of units unit in
      let those = structs_of units f.unit in
      record {
        function = g;
        function_is = is;
        gives = λ v of. of_type_across these those e.result g.result v
            (first_of (same_across these those e.result g.result) (all_same_across these those e.params (parameter_types g)) agrees) of;
      }

  called_by : (f g : Function) (b : Bool) → agrees_with (structs_of units unit) (structs_of units f.unit) e (function_named units f) ≡ b →
      (if b then Some f else None) ≡ Some g → GivesAs units e g
  called_by f g true agrees is = subst (GivesAs units e) (some_same is) (agrees_as f (function_named units f) refl agrees)
  called_by f g false agrees is = absurd (cc)

  pub gives-as : (d : Definition) (g : Function) → called_as units unit e d ≡ Some g → GivesAs units e g
  gives-as (AnObject v k) g is = absurd (cc)
  gives-as (AFunction f) g is =
      called_by f g (agrees_with (structs_of units unit) (structs_of units f.unit) e (function_named units f)) refl is
