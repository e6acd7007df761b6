-- What a program that keeps its rules promises of its functions: each parameter and local has a type that an object may have, by the
-- table of all structs. And each of its structs that has members has bytes.
use Rattle.std.proofs.Common.{◌≡◌, refl, sym, subst, ℕ, ◌≤◌, Bool, true, false, not, List, [], ◌∷◌, ◌++◌, map, slice_get, slice_set, suc}
use Rattle.std.proofs.Common.{length, Option, Some, None}
use Rattle.std.specs.Prelude.{leb, IsTrue, if◌then◌else◌}
use Rattle.std.specs.List.{find}
use Rattle.std.specs.Str.{bytes_eq}
use Rattle.c_ast.specs.declared.declaration.Decl.{Decl}
use Rattle.c_ast.specs.declared.declaration.Storage.{Storage}
use Rattle.c_ast.specs.declared.declaration.StructDecl.{StructDecl}
use Rattle.c_ast.specs.declared.statement.Stmt.{Stmt}
use Rattle.c_ast.specs.declared.program.Program.{Program}
use Rattle.c_ast.specs.declared.program.Function.{Function}
use Rattle.c_ast.specs.declared.program.External.{External}
use Rattle.c_ast.specs.declared.program.External.TheVariants as external
use Rattle.c_type_base.specs.declared.ty.Ty.{Ty}
use Rattle.c_type_base.specs.declared.statement.TStmt.{TStmt}
use Rattle.c_type_base.specs.declared.typed.Typed.{Typed}
use Rattle.c_type_base.specs.declared.typed.StructInfo.{StructInfo}
use Rattle.c_type_base.specs.declared.typed.LocalInfo.{LocalInfo}
use Rattle.c_type_base.specs.declared.typed.TFunction.{TFunction}
use Rattle.c_type_base.specs.Sizes.{has_members, largest, IsObject, AreObjects, HaveObjects, HaveBytes}
use Rattle.c_type_base.specs.Layout.{struct_size}
use Rattle.c_type_base.specs.Types.{is_there}
use Rattle.c_type_base.specs.Laws.GrowthLaws.{Extends, complete-kept}
use Rattle.c_type_expr.specs.Environment.{Env, tag_number}
use Rattle.c_type_expr.specs.Faults.{rule, broken}
use Rattle.c_type_expr.specs.Outcomes.{Outcome}
use Rattle.c_type_stmt.specs.Statements.{statement}
use Rattle.c_types.specs.Files.{FileNames, file_names}
use Rattle.c_types.specs.Functions.{result_type}
use Rattle.c_types.specs.Ordered.{option_list, by_names}
use Rattle.c_types.specs.Structs.{ty_in, members, struct_with, tag_alone, has_body, body_rules}
use Rattle.c_types.specs.Units.{Judgement, start, with_tag, known_members, with_body, with_members, struct_judged, object_judged}
use Rattle.c_types.specs.Units.{objects_judged, function_of, with_function, parameters_in, head_judged, function_judged, part_judged}
use Rattle.c_types.specs.Units.{parts_judged}
use Rattle.c_types.specs.WellTyped.{WellTyped}
use Rattle.c_types.specs.Laws.TableLaws.{ready-laid_out, none_ready, get-appended, get-set_other}
use Rattle.c_types.specs.Laws.PromiseLaws.{Good, front, back, first-kept, open-struct, members-complete, tag-good, part-good}
use Rattle.c_types.specs.Laws.ByteLaws.{none_have, tag_has, body_has}
use Rattle.c_types.specs.Laws.DeclaredObjects.{Every, every_none, every_one, every_append, object_in, body_declares}
use Rattle.c_types.specs.Laws.ParameterObjects.{parameters_declare}

abbrev objects_in : List StructInfo → TFunction → Type 0
objects_in structs f = AreObjects structs f.locals

-- ---- a table grows

object_grown : (s t : List StructInfo) → Extends s t → (ty : Ty) → IsObject s ty → IsObject t ty
object_grown s t more ty is =
    let same = complete-kept s t more ty is.complete in
    record { complete = same.complete; small = subst (λ n. n ≤ largest) (sym same.sized) is.small }

objects_grown : (s t : List StructInfo) → Extends s t → (fs : List TFunction) → HaveObjects s fs → HaveObjects t fs
objects_grown s t more fs have k f is j l there = object_grown s t more l.ty (have k f is j l there)

-- ---- parts

-- structs that have bytes, and functions whose locals are objects
record Kept (structs : List StructInfo) (functions : List TFunction) : Type 0 where
  bytes : HaveBytes structs
  objects : HaveObjects structs functions

-- so it is where no rule is broken so far
abbrev Keeps : Judgement → Type 0
Keeps j = j.faults ≡ [] → Kept j.env.structs j.functions

tag_keeps : (j : Judgement) (tag : List ℕ) (o : Option ℕ) → Keeps j → Keeps (with_tag j tag o)
tag_keeps j tag (Some n) keeps = keeps
tag_keeps j tag None keeps = λ is. record {
  bytes = tag_has j.env.structs tag (keeps is).bytes;
  objects = objects_grown j.env.structs (j.env.structs ++ tag_alone tag ∷ []) (get-appended j.env.structs (tag_alone tag)) j.functions
      (keeps is).objects;
}

body_keeps : (j : Judgement) (d : StructDecl) (o : Option ℕ) (ds : List Decl) → Good j → Keeps j → Keeps (with_body j d o ds)
body_keeps j d None ds good keeps = keeps
body_keeps j d (Some n) ds good keeps = λ is.
    let o = members [] ds j.env in
    let ms = known_members o.known in
    let rules = body_rules j.env.structs n ms in
    let own : broken d.span rules ≡ [] = back (j.faults ++ o.faults) (broken d.span rules) is in
    let before : j.faults ++ o.faults ≡ [] = front (j.faults ++ o.faults) (broken d.span rules) is in
    let first : j.faults ≡ [] = front j.faults o.faults before in
    let fits = rule 17 (leb (struct_size j.env.structs (map ty_in ms)) largest) ∷ [] in
    let bare = open-struct (slice_get j.env.structs n) (first-kept d.span 10 (not (has_body (slice_get j.env.structs n))) fits own) in
    let new = struct_with j.env.structs d.name ms in
    record {
      bytes = body_has j.env.structs n d.name ms (ready-laid_out j.env.structs (good first))
          (members-complete [] ds j.env (back j.faults o.faults before)) (keeps first).bytes;
      objects = objects_grown j.env.structs (slice_set j.env.structs n new) (get-set_other j.env.structs n new bare) j.functions
          (keeps first).objects;
    }

members_keep : (j : Judgement) (d : StructDecl) (ds : Option (List Decl)) → Good j → Keeps j → Keeps (with_members j d ds)
members_keep j d None good keeps = keeps
members_keep j d (Some ds) good keeps = body_keeps j d (tag_number j.env.structs d.name) ds good keeps

struct_keeps : (j : Judgement) (d : StructDecl) → Good j → Keeps j → Keeps (struct_judged j d)
struct_keeps j d good keeps =
    let o = tag_number j.env.structs d.name in
    members_keep (with_tag j d.name o) d d.members (tag-good j d.name o good) (tag_keeps j d.name o keeps)

object_keeps : (names : FileNames) (c : Storage) (j : Judgement) (d : Decl) → Keeps j → Keeps (object_judged names c j d)
object_keeps names c j d keeps = λ is. keeps (front j.faults _ (front _ [] (front _ _ (front _ _ is))))

objects_keep : (names : FileNames) (c : Storage) (j : Judgement) (ds : List Decl) → Keeps j → Keeps (objects_judged names c j ds)
objects_keep names c j [] keeps = keeps
objects_keep names c j (d ∷ ds) keeps = objects_keep names c (object_judged names c j d) ds (object_keeps names c j d keeps)

-- ---- functions

function_objects : (structs : List StructInfo) (f : Function) (result : Option Ty) (locals : List LocalInfo) (body : Option TStmt) →
    AreObjects structs locals → HaveObjects structs (function_of f result locals body)
function_objects structs f None locals body are = every_none (objects_in structs)
function_objects structs f (Some t) locals None are = every_none (objects_in structs)
function_objects structs f (Some t) locals (Some body) are = every_one (objects_in structs) _ are

with_function_keeps : (j : Judgement) (f : Function) (result : Option Ty) (params : Outcome (List Ty)) (s : Option Stmt) →
    (j.faults ≡ [] → AreObjects j.env.structs params.locals) → Keeps j → Keeps (with_function j f result params s)
with_function_keeps j f result params None are keeps = keeps
with_function_keeps j f result params (Some s) are keeps = λ is.
    let inside : Env = record j.env { scopes = params.names ∷ j.env.scopes; locals = length params.locals; result = result } in
    let o = (statement s).body inside in
    let first : j.faults ≡ [] = front j.faults o.faults is in
    let locals = every_append (object_in j.env.structs) params.locals o.locals (are first)
    ((body_declares s inside).objects (back j.faults o.faults is)) in
    record {
      bytes = (keeps first).bytes;
      objects = every_append (objects_in j.env.structs) j.functions (function_of f result (params.locals ++ o.locals) o.known)
          (keeps first).objects (function_objects j.env.structs f result (params.locals ++ o.locals) o.known locals);
    }

-- what the head of a function breaks holds what its parameters break
head_parameters : (names : FileNames) (j : Judgement) (f : Function) → (head_judged names j f).faults ≡ [] →
    AreObjects j.env.structs (parameters_in j f).locals
head_parameters names j f is =
    let result = result_type f j.env in
    let params = parameters_in j f in
    (parameters_declare (is_there f.body) f.params _).objects (back (j.faults ++ result.faults) params.faults (front _ _ (front _ [] is)))

head_keeps : (names : FileNames) (j : Judgement) (f : Function) → Keeps j → Keeps (head_judged names j f)
head_keeps names j f keeps = λ is. keeps (front j.faults _ (front _ _ (front _ _ (front _ [] is))))

function_keeps : (names : FileNames) (j : Judgement) (f : Function) → Keeps j → Keeps (function_judged names j f)
function_keeps names j f keeps =
    with_function_keeps (head_judged names j f) f (result_type f j.env).known (parameters_in j f) f.body (head_parameters names j f)
    (head_keeps names j f keeps)

-- ---- all of it

part_keeps : (names : FileNames) (j : Judgement) (e : External) → Good j → Keeps j → Keeps (part_judged names j e)
part_keeps names j external.Include good keeps = λ is. keeps (front j.faults [] is)
part_keeps names j (external.Struct d) good keeps = struct_keeps j d good keeps
part_keeps names j (external.Objects c ds) good keeps = objects_keep names c j ds keeps
part_keeps names j (external.Function f) good keeps = function_keeps names j f keeps

parts_keep : (names : FileNames) (j : Judgement) (es : List External) → Good j → Keeps j → Keeps (parts_judged names j es)
parts_keep names j [] good keeps = keeps
parts_keep names j (e ∷ es) good keeps =
    parts_keep names (part_judged names j e) es (part-good names j e good) (part_keeps names j e good keeps)

-- what holds of each holds of those in the order of names
found_every : {A : Type 0} (P : A → Type 0) (test : A → Bool) (xs : List A) → Every P xs → Every P (option_list (find test xs))
found_every P test [] all = every_none P
found_every P test (x ∷ xs) all =
    elim (test x) as (λ b. Every P (option_list (if b then Some x else find test xs))) [
      | true ↦ every_one P x (all 0 x refl)
      | false ↦ found_every P test xs (λ k y is. all (suc k) y is)
    ]

named_every : {A : Type 0} (P : A → Type 0) (name_of : A → List ℕ) (names : List (List ℕ)) (xs : List A) → Every P xs →
    Every P (by_names name_of names xs)
named_every P name_of [] xs all = every_none P
named_every P name_of (n ∷ ns) xs all =
    every_append P (option_list (find (λ a. bytes_eq (name_of a) n) xs)) (by_names name_of ns xs)
    (found_every P (λ a. bytes_eq (name_of a) n) xs all) (named_every P name_of ns xs all)

program_keeps : (program : Program) (typed : Typed) → WellTyped program typed → Kept typed.structs typed.functions
program_keeps program typed well =
    let names = file_names program in
    let j = parts_judged names start program.items in
    let kept = parts_keep names start program.items (λ is. none_ready)
    (λ is. record { bytes = none_have; objects = every_none (objects_in []) }) well.kept in
    subst (λ (t : Typed). Kept t.structs t.functions) (sym well.typed_is) (record {
      bytes = kept.bytes;
      objects = named_every (objects_in j.env.structs) (λ f. f.name) names.functions j.functions kept.objects;
    })

-- the parameters and locals of each function of a program that keeps its rules have types that objects may have
pub typed-objects : (program : Program) (typed : Typed) → WellTyped program typed → (k : ℕ) (f : TFunction) →
    slice_get typed.functions k ≡ Some f → (j : ℕ) (l : LocalInfo) → slice_get f.locals j ≡ Some l → IsObject typed.structs l.ty
typed-objects program typed well = (program_keeps program typed well).objects

-- and its structs with members have bytes
pub typed-have_bytes : (program : Program) (typed : Typed) → WellTyped program typed → (number : ℕ) (info : StructInfo) →
    slice_get typed.structs number ≡ Some info → IsTrue (has_members info.members) → 1 ≤ info.bytes
typed-have_bytes program typed well = (program_keeps program typed well).bytes
