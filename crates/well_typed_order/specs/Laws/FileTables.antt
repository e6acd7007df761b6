-- The tables of a well-typed file have at each number what the name of that number is declared as.
use Rattle.std.proofs.Common.{◌⊎◌, inl, inr, ◌≡◌, refl, ◌∙◌, ap, subst, ℕ, zero, suc, true, false, List, [], ◌∷◌, ◌++◌, slice_get}
use Rattle.std.proofs.Common.{Option, Some, None}
use Rattle.std.specs.Prelude.{flat_map}
use Rattle.std.specs.List.{find}
use Rattle.std.specs.Str.{bytes_eq}
use Rattle.std.proofs.lemmas.Option.{same_Some}
use Rattle.c_ast.specs.declared.program.Program.{Program}
use Rattle.c_type_base.specs.declared.ty.Ty.{Ty}
use Rattle.c_type_base.specs.declared.ty.Ty.TheVariants as ty
use Rattle.c_type_base.specs.declared.typed.ExternInfo.{ExternInfo}
use Rattle.c_type_base.specs.declared.typed.GlobalInfo.{GlobalInfo}
use Rattle.c_type_base.specs.declared.typed.TFunction.{TFunction}
use Rattle.c_type_base.specs.declared.typed.Typed.{Typed}
use Rattle.c_type_expr.specs.declared.scopes.Signature.{Signature}
use Rattle.c_types.specs.declared.names.FileNames.{FileNames}
use Rattle.c_types.specs.declared.redeclared.Declared.{Declared}
use Rattle.c_types.specs.declared.redeclared.Kind.{Kind}
use Rattle.c_types.specs.declared.redeclared.Kind.TheVariants.{AnObject, AFunction}
use Rattle.c_types.specs.Files.{file_names}
use Rattle.c_types.specs.Ordered.{option_list, by_names, extern_of, externs_by}
use Rattle.c_types.specs.Units.{Judgement, judged, typed_by}
use Rattle.block_meaning.specs.ExpressionsInOrder.{IsDefined, global_of}
use Rattle.block_meaning.specs.Linkage.{function_in, extern_in, parameter_types}
use Rattle.block_meaning.specs.Running as running
use Rattle.well_typed_order.specs.Bodied.{Bodied}
use Rattle.well_typed_order.specs.Laws.AsDeclared.{program_for, walked-for}
use Rattle.well_typed_order.specs.Laws.Growth.{In}
use Rattle.well_typed_order.specs.Laws.Lookups.{Lookups}
use Rattle.well_typed_order.specs.Laws.Mentions.{is_function, OneKind}
use Rattle.well_typed_order.specs.Laws.Names.{one-name, global-defined, function-defined, extern-declared}
use Rattle.well_typed_order.specs.Laws.Numbers.{eq-name, name-eq, find-passes, passes-find, Found, by-names-at}
use Rattle.well_typed_order.specs.Laws.Scopes.{outside}
use Rattle.well_typed_order.specs.Laws.Walk.{in-split}
use Rattle.well_typed_order.specs.Laws.Walked.{KindFine, Left, Walked}

-- ---- externs

abbrev extern_by : List ℕ → Kind → List ExternInfo
extern_by name (AnObject None) = []
extern_by name (AnObject (Some t)) = record { name = name; object = Some t; result = ty.Void; params = [] } ∷ []
extern_by name (AFunction None) = []
extern_by name (AFunction (Some s)) = record { name = name; object = None; result = s.result; params = s.params } ∷ []

extern_is : (d : Declared) → extern_of d ≡ extern_by d.name d.kind
extern_is d = by_kind d.kind
  where
    by_kind : (k : Kind) → extern_of (record d { kind = k }) ≡ extern_by d.name k
    by_kind (AnObject None) = refl
    by_kind (AnObject (Some t)) = refl
    by_kind (AFunction None) = refl
    by_kind (AFunction (Some s)) = refl

known_extern : (name : List ℕ) (k : Kind) → KindFine k → (e : ExternInfo) × (extern_by name k ≡ e ∷ [])
known_extern name (AnObject None) fine = absurd fine
known_extern name (AnObject (Some t)) fine = (record { name = name; object = Some t; result = ty.Void; params = [] }, refl)
known_extern name (AFunction None) fine = absurd fine
known_extern name (AFunction (Some s)) fine = (record { name = name; object = None; result = s.result; params = s.params }, refl)

object_extern : (name : List ℕ) (k : Kind) (t : Ty) → KindFine k → OneKind k (AnObject (Some t)) →
    (e : ExternInfo) × (extern_by name k ≡ e ∷ []) × (e.object ≡ Some t)
object_extern name (AnObject None) t fine one = absurd fine
object_extern name (AnObject (Some u)) t fine one =
    (record { name = name; object = Some u; result = ty.Void; params = [] }, refl, ap (λ t. Some t) one)
object_extern name (AFunction None) t fine one = absurd fine
object_extern name (AFunction (Some s)) t fine one = absurd one

function_extern : (name : List ℕ) (k : Kind) (sig : Signature) → KindFine k → OneKind k (AFunction (Some sig)) →
    (e : ExternInfo) × (extern_by name k ≡ e ∷ []) × (e.object ≡ None) × (e.params ≡ sig.params) × (e.result ≡ sig.result)
function_extern name (AnObject None) sig fine one = absurd fine
function_extern name (AnObject (Some u)) sig fine one = absurd one
function_extern name (AFunction None) sig fine one = absurd fine
function_extern name (AFunction (Some s)) sig fine one = (
  record { name = name; object = None; result = s.result; params = s.params },
  refl,
  refl,
  ap (λ (s : Signature). s.params) one,
  ap (λ (s : Signature). s.result) one,
)

-- each name has one extern
record ExternFound (ds : List Declared) (n : List ℕ) : Type 0 where
  by : Declared
  found : find (λ d. bytes_eq d.name n) ds ≡ Some by
  extern : ExternInfo
  is : extern_of by ≡ extern ∷ []

no_more : {A : Type 0} (xs : List A) → xs ++ [] ≡ xs
no_more [] = refl
no_more (x ∷ xs) = ap (λ l. x ∷ l) (no_more xs)

externs_at : (ns : List (List ℕ)) (ds : List Declared) → ((n : List ℕ) → In ns n → ExternFound ds n) → (k : ℕ) (n : List ℕ) (d : Declared)
    (e : ExternInfo) → slice_get ns k ≡ Some n → find (λ d. bytes_eq d.name n) ds ≡ Some d → extern_of d ≡ e ∷ [] →
    slice_get (externs_by ns ds) k ≡ Some e
externs_at [] ds each k n d e is found extern = absurd cc
externs_at (m ∷ ns) ds each zero n d e is found extern =
    let eq : m ≡ n = same_Some m n is in
    ap (λ o. slice_get (flat_map extern_of (option_list o) ++ externs_by ns ds) zero)
    (ap (λ n. find (λ d. bytes_eq d.name n) ds) eq ∙ found)
    ∙ ap (λ l. slice_get ((l ++ []) ++ externs_by ns ds) zero) extern
externs_at (m ∷ ns) ds each (suc k) n d e is found extern =
    let one = each m (zero, refl) in
    ap (λ o. slice_get (flat_map extern_of (option_list o) ++ externs_by ns ds) (suc k)) one.found
    ∙ ap (λ l. slice_get ((l ++ []) ++ externs_by ns ds) (suc k)) one.is
    ∙ externs_at ns ds (λ n has. each n (suc has.0, has.1)) k n d e is found extern

-- ---- what the lists of a file have

named_one : {A : Type 0} (name_of : A → List ℕ) (n : List ℕ) (xs : List A) (x : A) (o : Option A) →
    find (λ a. bytes_eq (name_of a) n) xs ≡ o → In (option_list o) x → In xs x
named_one name_of n xs x None same (k, is) = absurd cc
named_one name_of n xs x (Some y) same (zero, is) =
    subst (λ y. In xs y) (same_Some y x is) (find-passes (λ a. bytes_eq (name_of a) n) xs y same).there
named_one name_of n xs x (Some y) same (suc k, is) = absurd cc

either_in : {A B C : Type 0} → A ⊎ B → (A → C) → (B → C) → C
either_in (inl a) first second = first a
either_in (inr b) first second = second b

pub by-names-in : {A : Type 0} (name_of : A → List ℕ) (ns : List (List ℕ)) (xs : List A) (x : A) → In (by_names name_of ns xs) x → In xs x
by-names-in name_of [] xs x (k, is) = absurd cc
by-names-in name_of (n ∷ ns) xs x has =
    either_in (in-split (option_list (find (λ a. bytes_eq (name_of a) n) xs)) (by_names name_of ns xs) x has)
    (named_one name_of n xs x (find (λ a. bytes_eq (name_of a) n) xs) refl) (by-names-in name_of ns xs x)

object_left : (j : Judgement) (k : Kind) (name : List ℕ) → is_function k ≡ false → Left j k name →
    (g : GlobalInfo) × In j.globals g × (g.name ≡ name)
object_left j (AnObject t) name is left = left
object_left j (AFunction sig) name is left = absurd cc

function_left : (j : Judgement) (k : Kind) (name : List ℕ) → is_function k ≡ true → Left j k name →
    (f : TFunction) × In j.functions f × (f.name ≡ name)
function_left j (AFunction sig) name is left = left
function_left j (AnObject t) name is left = absurd cc

module _ (p : Program) (kept : (judged p).faults ≡ []) (bodied : Bodied p) where
  abbrev names : FileNames
  names = file_names p

  abbrev j : Judgement
  j = judged p

  walked : Walked (program_for p kept bodied) 0 j
  walked = walked-for p kept bodied

  globals_found : Found (λ (g : GlobalInfo). g.name) names.globals j.globals
  globals_found n has =
      let d = global-defined p kept has.0 n has.1 in
      let left = object_left j d.by.kind d.by.name d.sort_is (walked.left d.by d.declared d.defines) in
      passes-find (λ (g : GlobalInfo). bytes_eq g.name n) j.globals left.0 left.1 (name-eq left.0.name n (left.2 ∙ d.name_is))

  functions_found : Found (λ (f : TFunction). f.name) names.functions j.functions
  functions_found n has =
      let d = function-defined p kept has.0 n has.1 in
      let left = function_left j d.by.kind d.by.name d.sort_is (walked.left d.by d.declared d.defines) in
      passes-find (λ (f : TFunction). bytes_eq f.name n) j.functions left.0 left.1 (name-eq left.0.name n (left.2 ∙ d.name_is))

  externs_found : (n : List ℕ) → In names.externs n → ExternFound j.declared n
  externs_found n has =
      let d = extern-declared p kept has.0 n has.1 in
      let one = passes-find (λ (d : Declared). bytes_eq d.name n) j.declared d.0 d.1 (name-eq d.0.name n d.2) in
      let there = (find-passes (λ (d : Declared). bytes_eq d.name n) j.declared one.0 one.1).there in
      let known = known_extern one.0.name one.0.kind (walked.kinds one.0 there) in
      record { by = one.0; found = one.1; extern = known.0; is = extern_is one.0 ∙ known.1 }

  one_kind : (d e : Declared) (k l : Kind) → In j.declared d → In j.declared e → d.name ≡ e.name → d.kind ≡ k → e.kind ≡ l → OneKind k l
  one_kind d e k l of_d of_e same is its =
      subst (λ l. OneKind k l) its (subst (λ k. OneKind k e.kind) is (one-name p kept d e of_d of_e same))

  module _ (program : running.Program) (unit : ℕ) (u : Typed) (unit_is : slice_get program.units unit ≡ Some u)
      (typed_is : u ≡ typed_by names j) (linked : (e : ExternInfo) → In u.externs e → IsDefined program.units e.name) where
    global_there : (k : ℕ) (d : Declared) (t : Ty) → slice_get names.globals k ≡ Some d.name → In j.declared d →
        d.kind ≡ AnObject (Some t) → (g : GlobalInfo) × (global_of (slice_get program.units unit) k ≡ Some g) × (g.ty ≡ t)
    global_there k d t is has kind =
        let found = globals_found d.name (k, is) in
        let g = found.0 in
        let first = find-passes (λ (g : GlobalInfo). bytes_eq g.name d.name) j.globals g found.1 in
        let fine = walked.globals g first.there in
        let same = fine.name_is ∙ eq-name g.name d.name first.passes in (
          g,
          ap (λ o. global_of o k) unit_is ∙ ap (λ (u : Typed). slice_get u.globals k) typed_is
              ∙ by-names-at (λ (g : GlobalInfo). g.name) names.globals j.globals globals_found k d.name g is found.1,
          one_kind fine.by d (AnObject (Some g.ty)) (AnObject (Some t)) fine.declared has same fine.kind_is kind,
        )

    function_there : (k : ℕ) (d : Declared) (sig : Signature) → slice_get names.functions k ≡ Some d.name → In j.declared d →
        d.kind ≡ AFunction (Some sig) → (f : TFunction) × (function_in (slice_get program.units unit) k ≡ Some f) ×
        (parameter_types f ≡ sig.params) × (f.result ≡ sig.result)
    function_there k d sig is has kind =
        let found = functions_found d.name (k, is) in
        let f = found.0 in
        let first = find-passes (λ (f : TFunction). bytes_eq f.name d.name) j.functions f found.1 in
        let fine = walked.functions f first.there in
        let same = fine.name_is ∙ eq-name f.name d.name first.passes in
        let made : Signature = record { result = f.result; params = parameter_types f } in
        let one : made ≡ sig = one_kind fine.by d (AFunction (Some made)) (AFunction (Some sig)) fine.declared has same fine.kind_is
        kind in (
          f,
          ap (λ o. function_in o k) unit_is ∙ ap (λ (u : Typed). slice_get u.functions k) typed_is
              ∙ by-names-at (λ (f : TFunction). f.name) names.functions j.functions functions_found k d.name f is found.1,
          ap (λ (s : Signature). s.params) one,
          ap (λ (s : Signature). s.result) one,
        )

    extern_there : (k : ℕ) (n : List ℕ) (d : Declared) (e : ExternInfo) → slice_get names.externs k ≡ Some n →
        find (λ (d : Declared). bytes_eq d.name n) j.declared ≡ Some d → extern_of d ≡ e ∷ [] →
        slice_get u.externs k ≡ Some e
    extern_there k n d e is found extern =
        ap (λ (u : Typed). slice_get u.externs k) typed_is ∙ externs_at names.externs j.declared externs_found k n d e is found extern

    -- the first declaration of a name, which has the kind of each
    record First (d : Declared) : Type 0 where
      by : Declared
      found : find (λ (e : Declared). bytes_eq e.name d.name) j.declared ≡ Some by
      fine : KindFine by.kind
      one : OneKind by.kind d.kind

    first_of : (d : Declared) → In j.declared d → First d
    first_of d has =
        let found = passes-find (λ (e : Declared). bytes_eq e.name d.name) j.declared d has (name-eq d.name d.name refl) in
        let first = find-passes (λ (e : Declared). bytes_eq e.name d.name) j.declared found.0 found.1 in
        record {
          by = found.0;
          found = found.1;
          fine = walked.kinds found.0 first.there;
          one = one-name p kept found.0 d first.there has (eq-name found.0.name d.name first.passes);
        }

    -- the tables of the file have what its names are declared as
    pub file-lookups : Lookups (outside program unit) names j.declared
    file-lookups = record {
      object = global_there;
      function = function_there;
      extern_object = λ k d t is has kind.
          let first = first_of d has in
          let e = object_extern first.by.name first.by.kind t first.fine (subst (λ k. OneKind first.by.kind k) kind first.one) in
          let there = extern_there k d.name first.by e.0 is first.found (extern_is first.by ∙ e.1) in
          record {
            info = e.0;
            is = ap (λ o. extern_in o k) unit_is ∙ there;
            object_is = e.2;
            defined = linked e.0 (k, there);
          };
      extern_function = λ k d sig is has kind.
          let first = first_of d has in
          let e = function_extern first.by.name first.by.kind sig first.fine (subst (λ k. OneKind first.by.kind k) kind first.one) in
          let there = extern_there k d.name first.by e.0 is first.found (extern_is first.by ∙ e.1) in (
            record {
              info = e.0;
              is = ap (λ o. extern_in o k) unit_is ∙ there;
              object_is = e.2;
              defined = linked e.0 (k, there);
            },
            e.3,
            e.4,
          );
    }
