-- A program that is made from the declarations of a file alone: in it all names mean what is there, so that all types are known.
use Rattle.std.proofs.Common.{◌≡◌, refl, ◌∙◌, ap, subst, ℕ, zero, suc, Bool, true, false, ◌&&◌, List, [], ◌∷◌, ◌++◌, map, slice_get}
use Rattle.std.proofs.Common.{length, Option, Some, None}
use Rattle.std.specs.Prelude.{take, if◌then◌else◌}
use Rattle.std.specs.List.{position_from}
use Rattle.std.specs.Str.{bytes_eq}
use Rattle.std.proofs.lemmas.Option.{same_Some}
use Rattle.c_ast.specs.declared.program.Program.{Program}
use Rattle.c_ast.specs.declared.token.Span.{Span}
use Rattle.c_type_base.specs.declared.ty.Ty.{Ty}
use Rattle.c_type_base.specs.declared.ty.Ty.TheVariants as ty
use Rattle.c_type_base.specs.declared.statement.TStmt.TheVariants as tstmt
use Rattle.c_type_base.specs.declared.typed.ExternInfo.{ExternInfo}
use Rattle.c_type_base.specs.declared.typed.GlobalInfo.{GlobalInfo}
use Rattle.c_type_base.specs.declared.typed.LocalInfo.{LocalInfo}
use Rattle.c_type_base.specs.declared.typed.TFunction.{TFunction}
use Rattle.c_type_base.specs.declared.typed.Typed.{Typed}
use Rattle.c_type_expr.specs.declared.scopes.Signature.{Signature}
use Rattle.c_types.specs.declared.names.FileNames.{FileNames}
use Rattle.c_types.specs.declared.redeclared.Declared.{Declared}
use Rattle.c_types.specs.declared.redeclared.Kind.{Kind}
use Rattle.c_types.specs.declared.redeclared.Kind.TheVariants.{AnObject, AFunction}
use Rattle.c_types.specs.Files.{file_names}
use Rattle.c_types.specs.Units.{judged}
use Rattle.block_meaning.specs.ExpressionsInOrder.{IsDefined}
use Rattle.block_meaning.specs.Linkage as linkage
use Rattle.block_meaning.specs.Linkage.{is_object_named, is_function_named, or_definition, object_at, function_at, defined}
use Rattle.block_meaning.specs.Linkage.{type_of_local}
use Rattle.block_meaning.specs.Running as running
use Rattle.well_typed_order.specs.Bodied.{Bodied}
use Rattle.well_typed_order.specs.Laws.Files.{file-walked}
use Rattle.well_typed_order.specs.Laws.Good.{get-front}
use Rattle.well_typed_order.specs.Laws.Growth.{In}
use Rattle.well_typed_order.specs.Laws.Lookups.{Lookups}
use Rattle.well_typed_order.specs.Laws.Mentions.{OneKind}
use Rattle.well_typed_order.specs.Laws.Names.{one-name}
use Rattle.well_typed_order.specs.Laws.Numbers.{eq-name, name-eq, map-get, in-map, passes-position}
use Rattle.well_typed_order.specs.Laws.Scopes.{outside}
use Rattle.well_typed_order.specs.Laws.Walk.{in-back}
use Rattle.well_typed_order.specs.Laws.Walked.{Walked}

-- ---- what a name is declared as, where that is known

abbrev object_or : Kind → Option Ty → Option Ty
object_or (AnObject (Some t)) rest = Some t
object_or _ rest = rest

abbrev object_type : List Declared → List ℕ → Option Ty
object_type [] name = None
object_type (d ∷ ds) name = (if bytes_eq d.name name then object_or d.kind (object_type ds name) else object_type ds name)

abbrev function_or : Kind → Option Signature → Option Signature
function_or (AFunction (Some sig)) rest = Some sig
function_or _ rest = rest

abbrev function_type : List Declared → List ℕ → Option Signature
function_type [] name = None
function_type (d ∷ ds) name = (if bytes_eq d.name name then function_or d.kind (function_type ds name) else function_type ds name)

abbrev OfName : List Declared → List ℕ → Kind → Type 0
OfName ds name k = (e : Declared) → In ds e → e.name ≡ name → OneKind e.kind k

rest_of : (x : Declared) (ds : List Declared) (name : List ℕ) (k : Kind) → OfName (x ∷ ds) name k → OfName ds name k
rest_of x ds name k all e has = all e (suc has.0, has.1)

object_later : (k : Kind) (t : Ty) (rest : Option Ty) → OneKind k (AnObject (Some t)) → rest ≡ Some t → object_or k rest ≡ Some t
object_later (AnObject None) t rest one is = is
object_later (AnObject (Some s)) t rest one is = ap (λ t. Some t) one
object_later (AFunction None) t rest one is = absurd one
object_later (AFunction (Some f)) t rest one is = absurd one

if_both : {A : Type 0} (b : Bool) (x y z : A) → (b ≡ true → x ≡ z) → y ≡ z → (if b then x else y) ≡ z
if_both true x y z first second = first refl
if_both false x y z first second = second

object-type : (ds : List Declared) (name : List ℕ) (t : Ty) → OfName ds name (AnObject (Some t)) → (d : Declared) → In ds d →
    d.name ≡ name → d.kind ≡ AnObject (Some t) → object_type ds name ≡ Some t
object-type [] name t all d (k, is) named kind = absurd cc
object-type (x ∷ ds) name t all d (zero, is) named kind =
    let eq : x ≡ d = same_Some x d is in
    let same : bytes_eq x.name name ≡ true = name-eq x.name name (ap (λ (x : Declared). x.name) eq ∙ named) in
    ap (λ b. if b then object_or x.kind (object_type ds name) else object_type ds name) same
    ∙ ap (λ k. object_or k (object_type ds name)) (ap (λ (x : Declared). x.kind) eq ∙ kind)
object-type (x ∷ ds) name t all d (suc k, is) named kind =
    let rest = object-type ds name t (rest_of x ds name (AnObject (Some t)) all) d (k, is) named kind in
    if_both (bytes_eq x.name name) (object_or x.kind (object_type ds name)) (object_type ds name) (Some t)
    (λ same. object_later x.kind t (object_type ds name) (all x (zero, refl) (eq-name x.name name same)) rest) rest

no_object : (k : Kind) (sig : Signature) (rest : Option Ty) → OneKind k (AFunction (Some sig)) → rest ≡ None → object_or k rest ≡ None
no_object (AnObject None) sig rest one is = absurd one
no_object (AnObject (Some s)) sig rest one is = absurd one
no_object (AFunction None) sig rest one is = is
no_object (AFunction (Some f)) sig rest one is = is

no-object-type : (ds : List Declared) (name : List ℕ) (sig : Signature) → OfName ds name (AFunction (Some sig)) →
    object_type ds name ≡ None
no-object-type [] name sig all = refl
no-object-type (x ∷ ds) name sig all =
    let rest = no-object-type ds name sig (rest_of x ds name (AFunction (Some sig)) all) in
    if_both (bytes_eq x.name name) (object_or x.kind (object_type ds name)) (object_type ds name) None
    (λ same. no_object x.kind sig (object_type ds name) (all x (zero, refl) (eq-name x.name name same)) rest) rest

function_later : (k : Kind) (sig : Signature) (rest : Option Signature) → OneKind k (AFunction (Some sig)) → rest ≡ Some sig →
    function_or k rest ≡ Some sig
function_later (AnObject None) sig rest one is = absurd one
function_later (AnObject (Some s)) sig rest one is = absurd one
function_later (AFunction None) sig rest one is = is
function_later (AFunction (Some f)) sig rest one is = ap (λ f. Some f) one

function-type : (ds : List Declared) (name : List ℕ) (sig : Signature) → OfName ds name (AFunction (Some sig)) → (d : Declared) → In ds d →
    d.name ≡ name → d.kind ≡ AFunction (Some sig) → function_type ds name ≡ Some sig
function-type [] name sig all d (k, is) named kind = absurd cc
function-type (x ∷ ds) name sig all d (zero, is) named kind =
    let eq : x ≡ d = same_Some x d is in
    let same : bytes_eq x.name name ≡ true = name-eq x.name name (ap (λ (x : Declared). x.name) eq ∙ named) in
    ap (λ b. if b then function_or x.kind (function_type ds name) else function_type ds name) same
    ∙ ap (λ k. function_or k (function_type ds name)) (ap (λ (x : Declared). x.kind) eq ∙ kind)
function-type (x ∷ ds) name sig all d (suc k, is) named kind =
    let rest = function-type ds name sig (rest_of x ds name (AFunction (Some sig)) all) d (k, is) named kind in
    if_both (bytes_eq x.name name) (function_or x.kind (function_type ds name)) (function_type ds name) (Some sig)
    (λ same. function_later x.kind sig (function_type ds name) (all x (zero, refl) (eq-name x.name name same)) rest) rest

-- ---- the program

abbrev no_span : Span
no_span = record { start = 0; end = 0 }

abbrev or_void : Option Ty → Ty
or_void None = ty.Void
or_void (Some t) = t

abbrev or_nothing : Option Signature → Signature
or_nothing None = record { result = ty.Void; params = [] }
or_nothing (Some sig) = sig

abbrev object_for : List Declared → List ℕ → GlobalInfo
object_for ds name = record { name = name; ty = or_void (object_type ds name); local = false; init = []; span = no_span }

abbrev local_for : Ty → LocalInfo
local_for t = record { name = []; ty = t; span = no_span }

abbrev function_by : List ℕ → Signature → TFunction
function_by name sig = record {
  name = name;
  local = false;
  params = length sig.params;
  result = sig.result;
  locals = map local_for sig.params;
  body = tstmt.Empty;
  span = no_span;
}

abbrev function_for : List Declared → List ℕ → TFunction
function_for ds name = function_by name (or_nothing (function_type ds name))

abbrev extern_by : List ℕ → Option Ty → Signature → ExternInfo
extern_by name object sig = record { name = name; object = object; result = sig.result; params = sig.params }

abbrev extern_for : List Declared → List ℕ → ExternInfo
extern_for ds name = extern_by name (object_type ds name) (or_nothing (function_type ds name))

types_for : (ts : List Ty) → map type_of_local (take (length ts) (map local_for ts)) ≡ ts
types_for [] = refl
types_for (t ∷ ts) = ap (λ ts. t ∷ ts) (types_for ts)

module _ (p : Program) (kept : (judged p).faults ≡ []) (bodied : Bodied p) where
  abbrev names : FileNames
  names = file_names p

  abbrev ds : List Declared
  ds = (judged p).declared

  abbrev unit_for : Typed
  unit_for = record {
    structs = (judged p).env.structs;
    globals = map (object_for ds) names.globals ++ map (object_for ds) names.externs;
    functions = map (function_for ds) names.functions;
    externs = map (extern_for ds) names.externs;
    texts = (judged p).texts;
  }

  abbrev pub program_for : running.Program
  program_for = record { units = unit_for ∷ []; frames = []; stack = 0 }

  of_name : (d : Declared) (k : Kind) → In ds d → d.kind ≡ k → OfName ds d.name k
  of_name d k has kind e of_e named = subst (OneKind e.kind) kind (one-name p kept e d of_e has named)

  defined_there : (k : ℕ) (name : List ℕ) → slice_get names.externs k ≡ Some name → IsDefined (unit_for ∷ []) name
  defined_there k name is =
      let among = in-back (map (object_for ds) names.globals) (map (object_for ds) names.externs) (object_for ds name)
      (in-map (object_for ds) names.externs name (k, is)) in
      let passes : is_object_named name (object_for ds name) ≡ true = ap (λ b. b && true) (name-eq name name refl) in
      let at = passes-position (is_object_named name) 0 unit_for.globals (object_for ds name) among passes in
      let functions = function_at 0 (position_from (is_function_named name) 0 unit_for.functions) in
      record {
        definition = linkage.AnObject 0 at.0;
        is = ap (λ o. or_definition (or_definition (object_at 0 o) functions) None) at.1;
      }

  lookups_for : Lookups (outside program_for 0) names ds
  lookups_for = record {
    object = λ k d t is has kind. (
      object_for ds d.name,
      get-front (map (object_for ds) names.globals) (map (object_for ds) names.externs) k (object_for ds d.name)
          (map-get (object_for ds) names.globals k d.name is),
      ap or_void (object-type ds d.name t (of_name d (AnObject (Some t)) has kind) d has refl kind),
    );
    function = λ k d sig is has kind.
        let same = ap or_nothing (function-type ds d.name sig (of_name d (AFunction (Some sig)) has kind) d has refl kind) in (
          function_for ds d.name,
          map-get (function_for ds) names.functions k d.name is,
          types_for (or_nothing (function_type ds d.name)).params ∙ ap (λ (g : Signature). g.params) same,
          ap (λ (g : Signature). g.result) same,
        );
    extern_object = λ k d t is has kind. record {
      info = extern_for ds d.name;
      is = map-get (extern_for ds) names.externs k d.name is;
      object_is = object-type ds d.name t (of_name d (AnObject (Some t)) has kind) d has refl kind;
      defined = defined_there k d.name is;
    };
    extern_function = λ k d sig is has kind.
        let all = of_name d (AFunction (Some sig)) has kind in
        let same = ap or_nothing (function-type ds d.name sig all d has refl kind) in (
          record {
            info = extern_for ds d.name;
            is = map-get (extern_for ds) names.externs k d.name is;
            object_is = no-object-type ds d.name sig all;
            defined = defined_there k d.name is;
          },
          ap (λ (g : Signature). g.params) same,
          ap (λ (g : Signature). g.result) same,
        );
  }

  -- in it the file is in order
  pub walked-for : Walked program_for 0 (judged p)
  walked-for = file-walked p kept bodied program_for 0 unit_for refl refl refl lookups_for
