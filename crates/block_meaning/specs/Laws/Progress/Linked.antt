-- What numbers name is there: blocks of objects, texts and functions among those of a program, and functions that are called.
use Rattle.std.proofs.Common.{◌≡◌, refl, sym, subst, ap, ◌∙◌, ℕ, zero, suc, ◌+◌, ◌≤◌, ◌<◌, arith, Bool, true, false, ◌&&◌}
use Rattle.std.proofs.Common.{List, [], ◌∷◌, length, take, Option, Some, None}
use Rattle.std.specs.Prelude.{slice_get, if◌then◌else◌}
use Rattle.std.specs.List.{position_from}
use Rattle.std.proofs.lemmas.Option.{slice_get_within, same_Some}
use Rattle.c_ast.specs.declared.int_type.IntType.{IntType}
use Rattle.c_type_base.specs.Laws.Opened.{given_types}
use Rattle.c_type_base.specs.declared.ty.Ty.{Ty, out-Ty, roll-Ty, roll-out-Ty}
use Rattle.c_type_base.specs.declared.ty.Ty.TheOpen.{Ty-F}
use Rattle.c_type_base.specs.declared.ty.Ty.TheFolds.{fold-roll-Ty}
use Rattle.c_type_base.specs.declared.typed.Typed.{Typed}
use Rattle.c_type_base.specs.declared.typed.StructInfo.{StructInfo}
use Rattle.c_type_base.specs.declared.typed.GlobalInfo.{GlobalInfo}
use Rattle.c_type_base.specs.declared.typed.ExternInfo.{ExternInfo}
use Rattle.c_type_base.specs.declared.typed.TFunction.{TFunction}
use Rattle.c_type_base.specs.Types.{TyLayer}
use Rattle.block_meaning.specs.ExpressionsInOrder.{global_of, IsDefined}
use Rattle.block_meaning.specs.Laws.Progress.Fits.{FitsLevel, Fits}
use Rattle.block_meaning.specs.Linkage.{function_of, blocks_of, blocks_in, objects_in, objects_and_texts_in, object_block}
use Rattle.block_meaning.specs.Linkage.{text_block, code_block, Definition, AnObject, AFunction, is_object_named, is_function_named}
use Rattle.block_meaning.specs.Linkage.{or_definition, object_at, function_at, defined_in, defined_from, defined, extern_at, definition_of}
use Rattle.block_meaning.specs.Linkage.{block_of_definition, extern_block, function_named, structs_of, same_across_level}
use Rattle.block_meaning.specs.Linkage.{same_across, all_same_across, parameter_types, agrees_with, called_as}
use Rattle.block_meaning.specs.Locals.{text_of}
use Rattle.block_meaning.specs.Running.{Function}
use Rattle.block_meaning.specs.declared.value.Value.{Value}
use Rattle.block_meaning.specs.declared.value.Value.TheVariants.{Number, Address, Struct}

-- as many as the blocks of a program before its run
abbrev pub all_blocks : List Typed → ℕ
all_blocks units = 1 + blocks_in units

-- ---- blocks of a file

-- those before a file and its own are among all
file_within : (units : List Typed) (unit : ℕ) (u : Typed) → slice_get units unit ≡ Some u →
    blocks_in (take unit units) + blocks_of u ≤ blocks_in units
file_within [] unit u is = absurd cc
file_within (v ∷ us) zero u is =
    let same : blocks_of u ≡ blocks_of v = ap blocks_of (same_Some u v (sym is)) in omega (arith, same)
file_within (v ∷ us) (suc unit) u is = omega (arith, file_within us unit u is)

pub object-within : (units : List Typed) (unit : ℕ) (u : Typed) (k : ℕ) → slice_get units unit ≡ Some u → k < length u.globals →
    object_block units unit k < all_blocks units
object-within units unit u k is less = omega (arith, file_within units unit u is, less)

pub text-within : (units : List Typed) (unit : ℕ) (u : Typed) (k : ℕ) → slice_get units unit ≡ Some u → k < length u.texts →
    text_block units unit k < all_blocks units
text-within units unit u k is less =
    let objects : objects_in (slice_get units unit) ≡ length u.globals = ap objects_in is in
    omega (arith, file_within units unit u is, less, objects)

pub code-within : (units : List Typed) (unit : ℕ) (u : Typed) (k : ℕ) → slice_get units unit ≡ Some u → k < length u.functions →
    code_block units unit k < all_blocks units
code-within units unit u k is less =
    let before : objects_and_texts_in (slice_get units unit) ≡ length u.globals + length u.texts = ap objects_and_texts_in is in
    omega (arith, file_within units unit u is, less, before)

global_there : (units : List Typed) (unit k : ℕ) (o : Option Typed) (g : GlobalInfo) → slice_get units unit ≡ o →
    global_of o k ≡ Some g → object_block units unit k < all_blocks units
global_there units unit k None g is there = absurd cc
global_there units unit k (Some u) g is there = object-within units unit u k is (slice_get_within u.globals k g there)

pub global-there : (units : List Typed) (unit k : ℕ) (g : GlobalInfo) → global_of (slice_get units unit) k ≡ Some g →
    object_block units unit k < all_blocks units
global-there units unit k g there = global_there units unit k (slice_get units unit) g refl there

text_there : (units : List Typed) (unit k : ℕ) (o : Option Typed) (bytes : List ℕ) → slice_get units unit ≡ o →
    text_of o k ≡ Some bytes → text_block units unit k < all_blocks units
text_there units unit k None bytes is there = absurd cc
text_there units unit k (Some u) bytes is there = text-within units unit u k is (slice_get_within u.texts k bytes there)

pub text-there : (units : List Typed) (unit k : ℕ) (bytes : List ℕ) → text_of (slice_get units unit) k ≡ Some bytes →
    text_block units unit k < all_blocks units
text-there units unit k bytes there = text_there units unit k (slice_get units unit) bytes refl there

-- ---- definitions

position_by : {A : Type 0} (from : ℕ) (x : A) (xs : List A) (k : ℕ) (later : Option ℕ) (b : Bool) →
    (later ≡ Some k → k < from + 1 + length xs) → (if b then Some from else later) ≡ Some k → k < from + length (x ∷ xs)
position_by from x xs k later true rest is = let same : from ≡ k = same_Some from k is in omega (arith, same)
position_by from x xs k later false rest is = omega (arith, rest is)

position_within : {A : Type 0} (test : A → Bool) (from : ℕ) (xs : List A) (k : ℕ) → position_from test from xs ≡ Some k →
    k < from + length xs
position_within test from [] k is = absurd cc
position_within test from (x ∷ xs) k is = position_by from x xs k (position_from test (from + 1) xs) (test x)
    (λ later. position_within test (from + 1) xs k later) is

-- a definition is that of an object or function of a file
abbrev pub DefinedWithin : List Typed → Definition → Type 0
DefinedWithin units (AnObject unit k) = (u : Typed) × (slice_get units unit ≡ Some u) × (k < length u.globals)
DefinedWithin units (AFunction f) = (u : Typed) × (slice_get units f.unit ≡ Some u) × (f.number < length u.functions)

module _ (units : List Typed) where
  object_defined : (unit : ℕ) (u : Typed) (o : Option ℕ) (d : Definition) → slice_get units unit ≡ Some u →
      ((k : ℕ) → o ≡ Some k → k < length u.globals) → object_at unit o ≡ Some d → DefinedWithin units d
  object_defined unit u None d is within found = absurd cc
  object_defined unit u (Some k) d is within found =
      subst (DefinedWithin units) (same_Some (AnObject unit k) d found) (u, is, within k refl)

  function_defined : (unit : ℕ) (u : Typed) (o : Option ℕ) (d : Definition) → slice_get units unit ≡ Some u →
      ((k : ℕ) → o ≡ Some k → k < length u.functions) → function_at unit o ≡ Some d → DefinedWithin units d
  function_defined unit u None d is within found = absurd cc
  function_defined unit u (Some k) d is within found =
      subst (DefinedWithin units) (same_Some (AFunction (function_of unit k)) d found) (u, is, within k refl)

  either_defined : (o later : Option Definition) (d : Definition) → (o ≡ Some d → DefinedWithin units d) →
      (later ≡ Some d → DefinedWithin units d) → or_definition o later ≡ Some d → DefinedWithin units d
  either_defined None later d first second found = second found
  either_defined (Some e) later d first second found = first found

  file_defines : (name : List ℕ) (unit : ℕ) (u : Typed) (d : Definition) → slice_get units unit ≡ Some u →
      defined_in name unit u ≡ Some d → DefinedWithin units d
  file_defines name unit u d is found =
      let objects = position_from (is_object_named name) 0 u.globals in
      let functions = position_from (is_function_named name) 0 u.functions in
      either_defined (object_at unit objects) (function_at unit functions) d
      (object_defined unit u objects d is (λ k at. omega (arith, position_within (is_object_named name) 0 u.globals k at)))
      (function_defined unit u functions d is (λ k at. omega (arith, position_within (is_function_named name) 0 u.functions k at)))
      found

  files_define : (name : List ℕ) (unit : ℕ) (us : List Typed) (d : Definition) →
      ((k : ℕ) (u : Typed) → slice_get us k ≡ Some u → slice_get units (unit + k) ≡ Some u) →
      defined_from name unit us ≡ Some d → DefinedWithin units d
  files_define name unit [] d rest found = absurd cc
  files_define name unit (u ∷ us) d rest found =
      let here : unit + 0 ≡ unit = omega arith in
      either_defined (defined_in name unit u) (defined_from name (unit + 1) us) d
      (file_defines name unit u d (subst (λ k. slice_get units k ≡ Some u) here (rest 0 u refl)))
      (files_define name (unit + 1) us d (λ k v is.
      let next : unit + suc k ≡ unit + 1 + k = omega arith in
      subst (λ j. slice_get units j ≡ Some v) next (rest (suc k) v is)))
      found

  pub defined-within : (name : List ℕ) (d : Definition) → defined units name ≡ Some d → DefinedWithin units d
  defined-within name d found = files_define name 0 units d (λ k u is.
      let same : k ≡ 0 + k = omega arith in subst (λ j. slice_get units j ≡ Some u) same is) found

  -- the block of a definition
  pub record BlockOf (o : Option ℕ) : Type 0 where
    pub block : ℕ
    pub is : o ≡ Some block
    pub within : block < all_blocks units

  pub definition-block : (d : Definition) → DefinedWithin units d → BlockOf (block_of_definition units (Some d))
  definition-block (AnObject unit k) there =
      record { block = object_block units unit k; is = refl; within = object-within units unit there.0 k there.1 there.2 }
  definition-block (AFunction f) there =
      record { block = code_block units f.unit f.number; is = refl; within = code-within units f.unit there.0 f.number there.1 there.2 }

  -- of an extern whose name some file defines
  pub extern-there : (unit k : ℕ) (e : ExternInfo) → extern_at units unit k ≡ Some e → IsDefined units e.name →
      BlockOf (extern_block units unit k)
  extern-there unit k e is defines =
      let found : definition_of units (extern_at units unit k) ≡ Some defines.definition = ap (definition_of units) is ∙ defines.is in
      subst (λ o. BlockOf (block_of_definition units o)) (sym found)
      (definition-block defines.definition (defined-within e.name defines.definition defines.is))

-- ---- types of two files

module _ (these those : List StructInfo) (n : ℕ) where
  void_across : (m : TyLayer) (v : Value) → same_across_level these those Ty-F.Void m ≡ true → FitsLevel n m v → FitsLevel n Ty-F.Void v
  void_across Ty-F.Void v same fits = fits
  void_across _ v same fits = absurd cc

  int_across : (i : IntType) (m : TyLayer) (v : Value) → same_across_level these those (Ty-F.Int i) m ≡ true → FitsLevel n m v →
      FitsLevel n (Ty-F.Int i) v
  int_across i (Ty-F.Int j) (Number k) same fits = tt
  int_across i (Ty-F.Int j) _ same fits = absurd fits
  int_across i _ v same fits = absurd cc

  pointer_across : (y : Ty → Bool) (u : Ty) (m : TyLayer) (v : Value) → same_across_level these those (Ty-F.Pointer y) m ≡ true →
      FitsLevel n m v → FitsLevel n (Ty-F.Pointer u) v
  pointer_across y u (Ty-F.Pointer w) (Address p) same fits = fits
  pointer_across y u (Ty-F.Pointer w) _ same fits = absurd fits
  pointer_across y u _ v same fits = absurd cc

  array_across : (y : Ty → Bool) (k : ℕ) (l m : TyLayer) (v : Value) → same_across_level these those (Ty-F.Array y k) m ≡ true →
      FitsLevel n m v → FitsLevel n l v
  array_across y k l (Ty-F.Array w j) v same fits = absurd fits
  array_across y k l _ v same fits = absurd cc

  struct_across : (k : ℕ) (m : TyLayer) (v : Value) → same_across_level these those (Ty-F.Struct k) m ≡ true → FitsLevel n m v →
      FitsLevel n (Ty-F.Struct k) v
  struct_across k (Ty-F.Struct j) (Struct p) same fits = fits
  struct_across k (Ty-F.Struct j) _ same fits = absurd fits
  struct_across k _ v same fits = absurd cc

  abbrev across_step : Ty-F (Ty → Bool) → Ty → Bool
  across_step level t = same_across_level these those level (out-Ty t)

  across_level : (l : TyLayer) (t : Ty) (v : Value) → same_across these those (roll-Ty l) t ≡ true → Fits t n v → FitsLevel n l v
  unfolding given_types
  across_level Ty-F.Void t v same fits = void_across (out-Ty t) v
      (sym (ap (λ f. f t) (fold-roll-Ty (Ty → Bool) across_step Ty-F.Void)) ∙ same) fits
  across_level (Ty-F.Int i) t v same fits = int_across i (out-Ty t) v
      (sym (ap (λ f. f t) (fold-roll-Ty (Ty → Bool) across_step (Ty-F.Int i))) ∙ same) fits
  across_level (Ty-F.Pointer u) t v same fits = pointer_across (same_across these those u) u (out-Ty t) v
      (sym (ap (λ f. f t) (fold-roll-Ty (Ty → Bool) across_step (Ty-F.Pointer u))) ∙ same) fits
  across_level (Ty-F.Array u k) t v same fits = array_across (same_across these those u) k (Ty-F.Array u k) (out-Ty t) v
      (sym (ap (λ f. f t) (fold-roll-Ty (Ty → Bool) across_step (Ty-F.Array u k))) ∙ same) fits
  across_level (Ty-F.Struct k) t v same fits = struct_across k (out-Ty t) v
      (sym (ap (λ f. f t) (fold-roll-Ty (Ty → Bool) across_step (Ty-F.Struct k))) ∙ same) fits

  -- a value of a type in one file fits the same type in another
  pub fits-across : (s t : Ty) (v : Value) → same_across these those s t ≡ true → Fits t n v → Fits s n v
  fits-across s t v same fits =
      across_level (out-Ty s) t v (ap (λ r. same_across these those r t) (roll-out-Ty s) ∙ same) fits

and_first : (a b : Bool) → (a && b) ≡ true → a ≡ true
and_first true b is = refl
and_first false b is = cc

and_second : (a b : Bool) → (a && b) ≡ true → b ≡ true
and_second true b is = is
and_second false b is = cc

pub lengths-across : (these those : List StructInfo) (ss ts : List Ty) → all_same_across these those ss ts ≡ true →
    length ss ≡ length ts
lengths-across these those [] [] same = refl
lengths-across these those [] (t ∷ ts) same = absurd cc
lengths-across these those (s ∷ ss) [] same = absurd cc
lengths-across these those (s ∷ ss) (t ∷ ts) same =
    ap suc (lengths-across these those ss ts (and_second (same_across these those s t) (all_same_across these those ss ts) same))

-- ---- functions of other files

-- a function that is called as a file declares it
pub record CalledAs (units : List Typed) (e : ExternInfo) (f : Function) : Type 0 where
  pub function : TFunction
  pub function_is : function_named units f ≡ Some function
  pub as_many : length e.params ≡ length (parameter_types function)
  pub fits : (n : ℕ) (v : Value) → Fits function.result n v → Fits e.result n v

module _ (units : List Typed) (unit : ℕ) (e : ExternInfo) where
  agrees_as : (f : Function) (o : Option TFunction) → function_named units f ≡ o →
      agrees_with (structs_of units unit) (structs_of units f.unit) e o ≡ true → CalledAs units e f
  agrees_as f None is agrees = absurd cc
  agrees_as f (Some g) is agrees =
      let these = structs_of units unit in
      let those = structs_of units f.unit in
      let result = and_first (same_across these those e.result g.result)
      (all_same_across these those e.params (parameter_types g)) agrees in
      let params = and_second (same_across these those e.result g.result)
      (all_same_across these those e.params (parameter_types g)) agrees in
      record {
        function = g;
        function_is = is;
        as_many = lengths-across these those e.params (parameter_types g) params;
        fits = λ n v fits. fits-across these those n e.result g.result v result fits;
      }

  called_by : (f g : Function) (b : Bool) → agrees_with (structs_of units unit) (structs_of units f.unit) e (function_named units f) ≡ b →
      (if b then Some f else None) ≡ Some g → CalledAs units e g
  called_by f g true agrees is = subst (CalledAs units e) (same_Some f g is) (agrees_as f (function_named units f) refl agrees)
  called_by f g false agrees is = absurd cc

  pub called-as : (d : Definition) (g : Function) → called_as units unit e d ≡ Some g → CalledAs units e g
  called-as (AnObject v k) g is = absurd cc
  called-as (AFunction f) g is =
      called_by f g (agrees_with (structs_of units unit) (structs_of units f.unit) e (function_named units f)) refl is
