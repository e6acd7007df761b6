-- What names stand for is there, where the tables of a file have at each number what the name of that number is declared as.
use Rattle.std.proofs.Common.{◌≡◌, refl, sym, ◌∙◌, ap, subst, ℕ, Bool, true, false, ◌&&◌, ◌||◌, List, [], slice_get}
use Rattle.std.proofs.Common.{Option, Some, None}
use Rattle.std.specs.Prelude.{if◌then◌else◌}
use Rattle.std.specs.Str.{bytes_eq}
use Rattle.c_ast.specs.declared.program.Program.{Program}
use Rattle.c_type_base.specs.Laws.Opened.{given_typed}
use Rattle.c_type_base.specs.Types.{TyLayer, is_there, is_void, is_scalar, is_array, is_struct, is_void_level, int_of_level}
use Rattle.c_type_base.specs.Types.{target_of_level}
use Rattle.c_type_base.specs.Types.{element_of_level, struct_of_level}
use Rattle.c_type_base.specs.declared.ty.Ty.{Ty, out-Ty}
use Rattle.c_type_base.specs.declared.ty.Ty.TheOpen.{Ty-F}
use Rattle.c_type_base.specs.declared.expr.Callee.{Callee}
use Rattle.c_type_base.specs.declared.expr.Callee.TheVariants as callee
use Rattle.c_type_base.specs.declared.expr.TNode.TheOpen.{TNode-F}
use Rattle.c_type_base.specs.declared.typed.ExternInfo.{ExternInfo}
use Rattle.c_type_base.specs.declared.typed.GlobalInfo.{GlobalInfo}
use Rattle.c_type_base.specs.declared.typed.Target.TheVariants as target
use Rattle.c_type_base.specs.declared.typed.Typed.{Typed}
use Rattle.c_type_base.specs.declared.typed.TFunction.{TFunction}
use Rattle.c_type_expr.specs.declared.scopes.Place.TheVariants as place
use Rattle.c_type_expr.specs.declared.scopes.Signature.{Signature}
use Rattle.c_types.specs.declared.names.FileNames.{FileNames}
use Rattle.c_types.specs.declared.redeclared.Declared.{Declared}
use Rattle.c_types.specs.declared.redeclared.Kind.TheVariants.{AnObject, AFunction}
use Rattle.c_types.specs.Files.{file_names, number_among, number_in, or_zero, is_library, putchar_name}
use Rattle.c_types.specs.Files.{getchar_name}
use Rattle.c_types.specs.Redeclarations.{putchar_type, getchar_type}
use Rattle.c_types.specs.Units.{judged}
use Rattle.block_meaning.specs.ExpressionsInOrder as order
use Rattle.block_meaning.specs.ExpressionsInOrder.{Scope, IsDefined, Callable, Designates, file_of, global_of}
use Rattle.block_meaning.specs.Linkage.{function_of, function_named, extern_at, extern_in, parameter_types}
use Rattle.well_typed_order.specs.Standing.{ObjectIn, TargetIn}
use Rattle.well_typed_order.specs.Laws.Good.{get-within}
use Rattle.well_typed_order.specs.Laws.Growth.{In}
use Rattle.well_typed_order.specs.Laws.Mentions.{is_function, OneKind}
use Rattle.well_typed_order.specs.Laws.Names.{among-externs, no-object, no-function, object-no-function, function-no-object}
use Rattle.well_typed_order.specs.Laws.Names.{object-no-library, putchar-kind, getchar-kind}
use Rattle.well_typed_order.specs.Laws.Numbers.{name-at}
use Rattle.well_typed_order.specs.Laws.Walked.{Tables}

-- a name that another file defines, as it is declared
pub record ExternAs (s : Scope) (k : ℕ) (object : Option Ty) : Type 0 where
  pub info : ExternInfo
  pub is : extern_at s.program.units s.unit k ≡ Some info
  pub object_is : info.object ≡ object
  pub defined : IsDefined s.program.units info.name

pub record Lookups (s : Scope) (names : FileNames) (ds : List Declared) : Type 0 where
  pub object : (k : ℕ) (d : Declared) (t : Ty) → slice_get names.globals k ≡ Some d.name → In ds d → d.kind ≡ AnObject (Some t) →
      (g : GlobalInfo) × (global_of (file_of s) k ≡ Some g) × (g.ty ≡ t)
  pub function : (k : ℕ) (d : Declared) (sig : Signature) → slice_get names.functions k ≡ Some d.name → In ds d →
      d.kind ≡ AFunction (Some sig) →
      (f : TFunction) × (function_named s.program.units (function_of s.unit k) ≡ Some f) × (parameter_types f ≡ sig.params) ×
      (f.result ≡ sig.result)
  pub extern_object : (k : ℕ) (d : Declared) (t : Ty) → slice_get names.externs k ≡ Some d.name → In ds d → d.kind ≡ AnObject (Some t) →
      ExternAs s k (Some t)
  pub extern_function : (k : ℕ) (d : Declared) (sig : Signature) → slice_get names.externs k ≡ Some d.name → In ds d →
      d.kind ≡ AFunction (Some sig) →
      (e : ExternAs s k None) × (e.info.params ≡ sig.params) × (e.info.result ≡ sig.result)

-- ---- what stands at a number is there

global_within : (o : Option Typed) (k : ℕ) (g : GlobalInfo) → global_of o k ≡ Some g → TargetIn o (target.Global k)
global_within None k g is = absurd cc
global_within (Some u) k g is = get-within u.globals k g is

extern_within : (o : Option Typed) (k : ℕ) (e : ExternInfo) → extern_in o k ≡ Some e → TargetIn o (target.Extern k)
extern_within None k e is = absurd cc
extern_within (Some u) k e is = get-within u.externs k e is

global_means : (s : Scope) (k : ℕ) (t : Ty) → is_void t ≡ false → ((g : GlobalInfo) × (global_of (file_of s) k ≡ Some g) × (g.ty ≡ t)) →
    ObjectIn s (place.Global k) t
unfolding given_typed
global_means s k t object (g, is, same) = record {
  designates = subst (λ t. Designates s t (TNode-F.Global k)) same (order.global is);
  object = object;
  address = global_within (file_of s) k g is;
}

extern_means : (s : Scope) (k : ℕ) (t : Ty) → is_void t ≡ false → ExternAs s k (Some t) → ObjectIn s (place.Extern k) t
unfolding given_typed
extern_means s k t object e = record {
  designates = order.extern_object e.is e.object_is e.defined;
  object = object;
  address = extern_within (file_of s) k e.info e.is;
}

-- ---- results

plain_level : (l : TyLayer) → (is_void_level l || (is_there (int_of_level l) || is_there (target_of_level l))) ≡ true →
    (is_there (element_of_level l) || is_there (struct_of_level l)) ≡ false
plain_level Ty-F.Void is = refl
plain_level (Ty-F.Int i) is = refl
plain_level (Ty-F.Pointer t) is = refl
plain_level (Ty-F.Array t n) is = absurd cc
plain_level (Ty-F.Struct n) is = absurd cc

pub gives-plain : (t : Ty) → (is_void t || is_scalar t) ≡ true → (is_array t || is_struct t) ≡ false
gives-plain t is = plain_level (out-Ty t) is

callable_as : (s : Scope) (f : Callee) (ts us : List Ty) (t u : Ty) → ts ≡ us → t ≡ u → Callable s f ts t → Callable s f us u
callable_as s f ts us t u same one callable = subst (λ u. Callable s f us u) one (subst (λ us. Callable s f us t) same callable)

module _ (p : Program) (kept : (judged p).faults ≡ []) (s : Scope) (lookups : Lookups s (file_names p) (judged p).declared) where
  abbrev names : FileNames
  names = file_names p

  abbrev ds : List Declared
  ds = (judged p).declared

  -- ---- objects

  object_means : (d : Declared) (t : Ty) → In ds d → d.kind ≡ AnObject (Some t) → is_void t ≡ false → (o e : Option ℕ) →
      number_among names.globals d.name ≡ o → number_among names.externs d.name ≡ e →
      ObjectIn s (if is_there o then place.Global (or_zero o) else place.Extern (or_zero e)) t
  object_means d t has kind object (Some k) e is its =
      global_means s k t object (lookups.object k d t (name-at names.globals d.name k is) has kind)
  object_means d t has kind object None (Some k) is its =
      extern_means s k t object (lookups.extern_object k d t (name-at names.externs d.name k its) has kind)
  object_means d t has kind object None None is its =
      let sort : is_function d.kind ≡ false = ap is_function kind in
      let found = among-externs p kept d has (no-object p kept d has is) (object-no-function p kept d has sort)
      (object-no-library p kept d has sort) in
      let clash : ◌≡◌ {A = Option ℕ} None (Some found.0) = sym its ∙ found.1 in absurd cc

  -- ---- functions

  by_signature : (d : Declared) (sig other : Signature) → d.kind ≡ AFunction (Some sig) → OneKind d.kind (AFunction (Some other)) →
      sig ≡ other
  by_signature d sig other is one = subst (λ k. OneKind k (AFunction (Some other))) is one

  library_callable : (f : Callee) (sig other : Signature) → sig ≡ other → Callable s f other.params other.result →
      Callable s f sig.params sig.result
  library_callable f sig other same callable = subst (λ (g : Signature). Callable s f g.params g.result) (sym same) callable

  plain_means : (d : Declared) (sig : Signature) → In ds d → d.kind ≡ AFunction (Some sig) →
      (names.includes && is_library d.name) ≡ false → (o e : Option ℕ) → number_among names.functions d.name ≡ o →
      number_among names.externs d.name ≡ e →
      Callable s (if is_there o then callee.Function (or_zero o) else callee.Extern (or_zero e)) sig.params sig.result
  plain_means d sig has kind library (Some k) e is its =
      let found = lookups.function k d sig (name-at names.functions d.name k is) has kind in
      callable_as s (callee.Function k) (parameter_types found.0) sig.params found.0.result sig.result found.2 found.3
      (order.function found.1)
  plain_means d sig has kind library None (Some k) is its =
      let found = lookups.extern_function k d sig (name-at names.externs d.name k its) has kind in
      let e = found.0 in
      callable_as s (callee.Extern k) e.info.params sig.params e.info.result sig.result found.1 found.2
      (order.extern e.is e.object_is e.defined)
  plain_means d sig has kind library None None is its =
      let found = among-externs p kept d has (function-no-object p kept d has (ap is_function kind)) (no-function p kept d has is)
      library in
      let clash : ◌≡◌ {A = Option ℕ} None (Some found.0) = sym its ∙ found.1 in absurd cc

  no_library : (i put get : Bool) → (i && put) ≡ false → (i && get) ≡ false → (i && (put || get)) ≡ false
  no_library true false false is its = refl
  no_library true true get is its = absurd cc
  no_library true false true is its = absurd cc
  no_library false put get is its = refl

  and_true : (a b : Bool) → (a && b) ≡ true → (a ≡ true) × (b ≡ true)
  and_true true true is = (refl, refl)
  and_true true false is = absurd cc
  and_true false b is = absurd cc

  function_means : (d : Declared) (sig : Signature) → In ds d → d.kind ≡ AFunction (Some sig) → (put get : Bool) →
      (names.includes && bytes_eq d.name putchar_name) ≡ put → (names.includes && bytes_eq d.name getchar_name) ≡ get →
      Callable s (if put then callee.Putchar else (if get then callee.Getchar else
      (if is_there (number_among names.functions d.name) then callee.Function (number_in names.functions d.name)
      else callee.Extern (number_in names.externs d.name)))) sig.params sig.result
  function_means d sig has kind true get is its =
      let both = and_true names.includes (bytes_eq d.name putchar_name) is in
      library_callable callee.Putchar sig putchar_type
      (by_signature d sig putchar_type kind (putchar-kind p kept d has both.0 both.1)) order.putchar
  function_means d sig has kind false true is its =
      let both = and_true names.includes (bytes_eq d.name getchar_name) its in
      library_callable callee.Getchar sig getchar_type
      (by_signature d sig getchar_type kind (getchar-kind p kept d has both.0 both.1)) order.getchar
  function_means d sig has kind false false is its = plain_means d sig has kind
      (no_library names.includes (bytes_eq d.name putchar_name) (bytes_eq d.name getchar_name) is its)
      (number_among names.functions d.name) (number_among names.externs d.name) refl refl

  -- what is declared is there
  pub lookups-tables : Tables s names ds
  lookups-tables = record {
    object = λ d t has kind object.
        object_means d t has kind object (number_among names.globals d.name) (number_among names.externs d.name) refl refl;
    function = λ d sig has kind gives. record {
      callable = function_means d sig has kind _ _ refl refl;
      plain = gives-plain sig.result gives;
    };
  }
