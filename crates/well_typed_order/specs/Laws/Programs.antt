-- A program of well-typed files is in order, and has a meaning.
use Rattle.std.proofs.Common.{◌≡◌, refl, sym, ◌∙◌, ap, subst, ℕ, zero, suc, ◌+◌, ◌<◌, arith, true, false, ◌&&◌, List, [], ◌∷◌, ◌++◌}
use Rattle.std.proofs.Common.{map, slice_get, length}
use Rattle.std.proofs.Common.{codes, Option, Some, None}
use Rattle.std.specs.List.{AllByRecursion}
use Rattle.std.specs.Str.{bytes_eq}
use Rattle.std.specs.List.{position_from}
use Rattle.std.specs.Prelude.{flat_map}
use Rattle.std.proofs.lemmas.Option.{same_Some}
use Rattle.c_ast.specs.declared.program.Program.{Program}
use Rattle.c_type_base.specs.declared.ty.Ty.TheVariants as ty
use Rattle.c_type_base.specs.declared.typed.ExternInfo.{ExternInfo}
use Rattle.c_type_base.specs.declared.typed.GlobalInfo.{GlobalInfo}
use Rattle.c_type_base.specs.declared.typed.InitValue.{InitValue}
use Rattle.c_type_base.specs.declared.typed.InitValue.TheVariants as initial
use Rattle.c_type_base.specs.declared.typed.TFunction.{TFunction}
use Rattle.c_type_base.specs.declared.typed.Typed.{Typed}
use Rattle.c_types.specs.Files.{file_names}
use Rattle.c_types.specs.Functions.{main_name}
use Rattle.c_types.specs.Laws.PromiseLaws.{typed-laid_out}
use Rattle.c_types.specs.Units.{judged}
use Rattle.block_meaning.specs.ExpressionsInOrder.{Scope, IsDefined}
use Rattle.block_meaning.specs.Linkage.{Definition, AnObject, is_object_named, is_function_named, or_definition, object_at, function_at}
use Rattle.block_meaning.specs.Linkage.{defined_in, defined_from, extern_in, function_in}
use Rattle.block_meaning.specs.Meaning.{frame_in}
use Rattle.block_meaning.specs.ProgramsInOrder.{InitInOrder, PieceInOrder, ObjectInOrder, FileInOrder, MainInOrder}
use Rattle.block_meaning.specs.ProgramsInOrder.{HasFrame, InOrder}
use Rattle.block_meaning.specs.Running as running
use Rattle.block_meaning.specs.Laws.Progress.Meaning.{HasMeaning, has_meaning}
use Rattle.block_meaning.specs.Running.{Function}
use Rattle.well_typed_order.specs.WellTypedPrograms.{FileOf, WellTypedProgram}
use Rattle.well_typed_order.specs.Standing.{TargetIn}
use Rattle.well_typed_order.specs.Laws.FileTables.{by-names-in, file-lookups}
use Rattle.well_typed_order.specs.Laws.Files.{file-walked}
use Rattle.well_typed_order.specs.Laws.Good.{get-front, get-within}
use Rattle.well_typed_order.specs.Laws.Growth.{In}
use Rattle.well_typed_order.specs.Laws.FirstBytes.{InitialIn, PieceIn}
use Rattle.well_typed_order.specs.Laws.Mains.{named-function}
use Rattle.well_typed_order.specs.Laws.Numbers.{name-eq, in-map, passes-position}
use Rattle.well_typed_order.specs.Laws.Relinked.{function-moves}
use Rattle.well_typed_order.specs.Laws.Scopes.{outside}
use Rattle.well_typed_order.specs.Laws.Walk.{in-front, in-back}
use Rattle.well_typed_order.specs.Laws.StatementRows.{all-of}
use Rattle.well_typed_order.specs.Laws.Walked.{Walked, FunctionFine}

each_in : {A : Type 0} (P : A → Type 0) (xs : List A) → ((x : A) → In xs x → P x) → AllByRecursion P xs
each_in P [] all = tt
each_in P (x ∷ xs) all = (all x (zero, refl), each_in P xs (λ y has. all y (suc has.0, has.1)))

each_then : {A : Type 0} (P Q : A → Type 0) (xs : List A) → ((x : A) → P x → Q x) → AllByRecursion P xs → AllByRecursion Q xs
each_then P Q [] next all = tt
each_then P Q (x ∷ xs) next all = (next x all.0, each_then P Q xs next all.1)

module _ (program : running.Program) (unit : ℕ) (u : Typed) (unit_is : slice_get program.units unit ≡ Some u) (file : FileOf u)
    (linked : (e : ExternInfo) → In u.externs e → IsDefined program.units e.name) where
  abbrev p : Program
  p = file.text

  abbrev s : Scope
  s = outside program unit

  walked : Walked program unit (judged p)
  walked = file-walked p file.well.kept file.bodied program unit u unit_is (ap (λ (u : Typed). u.structs) file.well.typed_is)
      (ap (λ (u : Typed). u.texts) file.well.typed_is)
      (file-lookups p file.well.kept file.bodied program unit u unit_is file.well.typed_is linked)

  init_in : (v : InitValue) → InitialIn s v → InitInOrder u v
  init_in (initial.Number n bytes) is = tt
  init_in (initial.Address t offset) is = subst (λ o. TargetIn o t) unit_is is

  object_in : (g : GlobalInfo) → In u.globals g → ObjectInOrder u g
  object_in g has =
      let there = by-names-in (λ (g : GlobalInfo). g.name) (file_names p).globals (judged p).globals g
      (subst (λ (u : Typed). In u.globals g) file.well.typed_is has) in
      all-of (PieceInOrder u) g.init
      (each_then (PieceIn s) (PieceInOrder u) g.init (λ piece is. init_in piece.value is) (walked.globals g there).pieces)

  function_fine : (k : ℕ) (f : TFunction) → slice_get u.functions k ≡ Some f → FunctionFine program unit (judged p).declared f
  function_fine k f is = walked.functions f (by-names-in (λ (f : TFunction). f.name) (file_names p).functions (judged p).functions f
      (subst (λ (u : Typed). In u.functions f) file.well.typed_is (k, is)))

  pub file-in-order : FileInOrder program unit u
  file-in-order = record {
    structs = typed-laid_out p u file.well;
    objects = all-of (ObjectInOrder u) u.globals (each_in (ObjectInOrder u) u.globals object_in);
    functions = λ k f is. (function_fine k f is).in_order;
  }

  -- a function `main` has no parameters
  pub main-alone : (k : ℕ) (f : TFunction) → slice_get u.functions k ≡ Some f →
      bytes_eq f.name main_name ≡ true → f.params ≡ 0
  main-alone k f is named = (function_fine k f is).main named

get_there : (xs : List ℕ) (k : ℕ) → k < length xs → (x : ℕ) × (slice_get xs k ≡ Some x)
get_there [] k less = absurd (omega (arith, less))
get_there (x ∷ xs) zero less = (x, refl)
get_there (x ∷ xs) (suc k) less = get_there xs k (omega (arith, less))

-- ---- with all names defined

-- an object of a name, of which nothing else is asked
abbrev object_named : ExternInfo → GlobalInfo
object_named e = record { name = e.name; ty = ty.Void; local = false; init = []; span = record { start = 0; end = 0 } }

abbrev objects_named : Typed → List GlobalInfo
objects_named u = map object_named u.externs

-- a file that defines all names that others leave
abbrev filler : List Typed → Typed
filler units = record { structs = []; globals = flat_map objects_named units; functions = []; externs = []; texts = [] }

abbrev filled : running.Program → running.Program
filled program = record program { units = program.units ++ filler program.units ∷ [] }

in_flat : {A B : Type 0} (f : A → List B) (xs : List A) (x : A) (y : B) → In xs x → In (f x) y → In (flat_map f xs) y
in_flat f [] x y (k, is) has = absurd cc
in_flat f (z ∷ xs) x y (zero, is) has =
    in-front (f z) (flat_map f xs) y (subst (λ x. In (f x) y) (sym (same_Some z x is)) has)
in_flat f (z ∷ xs) x y (suc k, is) has = in-back (f z) (flat_map f xs) y (in_flat f xs x y (k, is) has)

either_there : (o later : Option Definition) → ((d : Definition) × (later ≡ Some d)) → (d : Definition) × (or_definition o later ≡ Some d)
either_there None later found = found
either_there (Some e) later found = (e, refl)

first_there : (o later : Option Definition) (e : Definition) → o ≡ Some e → (d : Definition) × (or_definition o later ≡ Some d)
first_there o later e is = (e, ap (λ o. or_definition o later) is)

-- an object that a file defines is defined
defined_there : (name : List ℕ) (unit : ℕ) (us : List Typed) (u : Typed) (g : GlobalInfo) → In us u → In u.globals g →
    is_object_named name g ≡ true → (d : Definition) × (defined_from name unit us ≡ Some d)
defined_there name unit [] u g (k, is) has named = absurd cc
defined_there name unit (x ∷ us) u g (zero, is) has named =
    let eq : x ≡ u = same_Some x u is in
    let at = passes-position (is_object_named name) 0 x.globals g (subst (λ (x : Typed). In x.globals g) (sym eq) has) named in
    let functions = function_at unit (position_from (is_function_named name) 0 x.functions) in
    let here = first_there (object_at unit (position_from (is_object_named name) 0 x.globals)) functions (AnObject unit at.0)
    (ap (object_at unit) at.1) in
    first_there (defined_in name unit x) (defined_from name (unit + 1) us) here.0 here.1
defined_there name unit (x ∷ us) u g (suc k, is) has named =
    either_there (defined_in name unit x) (defined_from name (unit + 1) us) (defined_there name (unit + 1) us u g (k, is) has named)

module _ (program : running.Program) (well : WellTypedProgram program) where
  unit_filled : (unit : ℕ) (u : Typed) → slice_get program.units unit ≡ Some u → slice_get (filled program).units unit ≡ Some u
  unit_filled unit u is = get-front program.units (filler program.units ∷ []) unit u is

  all_defined : (unit : ℕ) (u : Typed) → slice_get program.units unit ≡ Some u → (e : ExternInfo) → In u.externs e →
      IsDefined (filled program).units e.name
  all_defined unit u is e has =
      let among = in_flat objects_named program.units u (object_named e) (unit, is) (in-map object_named u.externs e has) in
      let named : is_object_named e.name (object_named e) ≡ true = ap (λ b. b && true) (name-eq e.name e.name refl) in
      let found = defined_there e.name 0 (filled program).units (filler program.units) (object_named e)
      (in-back program.units (filler program.units ∷ []) (filler program.units) (zero, refl)) among named in
      record { definition = found.0; is = found.1 }

  -- ---- files

  file_filled : (unit : ℕ) (u : Typed) → slice_get program.units unit ≡ Some u → FileInOrder (filled program) unit u
  file_filled unit u is = file-in-order (filled program) unit u (unit_filled unit u is) (well.files unit u is) (all_defined unit u is)

  file_there : (unit : ℕ) (u : Typed) → slice_get program.units unit ≡ Some u → FileInOrder program unit u
  file_there unit u is =
      let file = file_filled unit u is in
      let same = unit_filled unit u is ∙ sym is in
      record {
        structs = file.structs;
        objects = file.objects;
        functions = λ number f there. function-moves (filled program) program unit same f (file.functions number f there)
            (λ k used e its. well.links.used unit u is number k f e there used (ap (λ o. extern_in o k) (sym same) ∙ its));
      }

  -- ---- frames, and `main`

  frame_there : (f : Function) (g : TFunction) (o : Option Typed) → slice_get program.units f.unit ≡ o → function_in o f.number ≡ Some g →
      HasFrame program f
  frame_there f g None is there = absurd cc
  frame_there f g (Some u) is there =
      let framed = well.frames f.unit u is in
      let within = get-within u.functions f.number g there in
      let same = framed.2 in
      let bytes = get_there framed.0 f.number (omega (arith, within, same)) in
      record { bytes = bytes.0; is = ap (λ o. frame_in o f.number) framed.1 ∙ bytes.1 }

  main_there : MainInOrder program.units
  main_there =
      let main = named-function program.units (codes "main") well.links.main well.links.main_is in
      let unit = well.links.main.unit in
      record {
        name = well.links.main;
        defined_is = well.links.main_is;
        function = main.function;
        function_is = ap (λ o. function_in o well.links.main.number) main.unit_is ∙ main.there;
        without_parameters = main-alone (filled program) unit main.unit_of (unit_filled unit main.unit_of main.unit_is)
            (well.files unit main.unit_of main.unit_is) (all_defined unit main.unit_of main.unit_is)
            well.links.main.number main.function main.there main.named;
      }

  -- a program of well-typed files is in order
  pub program-in-order : InOrder program
  program-in-order = record {
    files = file_there;
    frames = λ f g there. frame_there f g (slice_get program.units f.unit) refl there;
    main = main_there;
  }

  -- so it has one meaning, whatever its input and its work
  pub program-has_meaning : (input : List ℕ) (work : ℕ) → HasMeaning program input work
  program-has_meaning input work = has_meaning program-in-order input work
