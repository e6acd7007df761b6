-- What a program breaks are rules of the numbers 9 to 19.
use Rattle.std.proofs.Common.{◌≡◌, refl, subst, ℕ, suc, zero, ◌<◌, ◌≤◌, Bool, true, false, not, List, [], ◌∷◌, ◌++◌, length}
use Rattle.std.proofs.Common.{slice_index_or, Option, Some, None, arith}
use Rattle.std.specs.Str.{bytes_eq}
use Rattle.std.specs.Prelude.{leb, ◌||◌, if◌then◌else◌}
use Rattle.std.specs.List.{list_all}
use Rattle.std.proofs.lemmas.Bool.{and_parts, leb-true}
use Rattle.c_ast.specs.declared.token.Span.{Span}
use Rattle.c_ast.specs.declared.declaration.Decl.{Decl}
use Rattle.c_ast.specs.declared.declaration.Storage.{Storage}
use Rattle.c_ast.specs.declared.declaration.StructDecl.{StructDecl}
use Rattle.c_ast.specs.declared.statement.Stmt.{Stmt}
use Rattle.c_ast.specs.declared.program.Program.{Program}
use Rattle.c_ast.specs.declared.program.Function.{Function}
use Rattle.c_ast.specs.declared.program.External.{External}
use Rattle.c_ast.specs.declared.program.External.TheVariants as external
use Rattle.c_type_base.specs.declared.ty.Ty.{Ty}
use Rattle.c_type_base.specs.declared.typed.StructInfo.{StructInfo}
use Rattle.c_type_base.specs.Sizes.{size, is_complete, largest}
use Rattle.c_type_base.specs.Types.{is_there, is_void, is_scalar}
use Rattle.c_type_expr.specs.declared.fault.Fault.{Fault}
use Rattle.c_type_expr.specs.declared.scopes.Meaning.TheVariants as means
use Rattle.c_type_expr.specs.Environment.{Env, binds, tag_number}
use Rattle.c_type_expr.specs.Faults.{rule, fault, broken}
use Rattle.c_type_expr.specs.Outcomes.{Outcome, behind}
use Rattle.c_type_expr.specs.Said.{whole}
use Rattle.c_type_expr.specs.Expressions.{written}
use Rattle.c_type_stmt.specs.Declarations.{declared_type, init_of, initialised, object_rules}
use Rattle.c_type_stmt.specs.Initials.{InitSaid}
use Rattle.c_types.specs.Files.{FileNames, file_names, is_extern, object_place}
use Rattle.c_types.specs.Redeclarations.{may_stand}
use Rattle.c_types.specs.Functions.{result_type, head_rules, main_form, main_name, signature_of}
use Rattle.c_types.specs.Structs.{member, member_type, members}
use Rattle.c_types.specs.Units.{Judgement, start, with_outcome, with_names, object_declared, function_declared}
use Rattle.c_types.specs.Units.{with_tag, with_body, with_members, struct_judged, misfits, extern_rules, object_judged}
use Rattle.c_types.specs.Units.{
  objects_judged,
  parameters_in,
  head_judged,
  with_function,
  function_judged,
  part_judged,
  parts_judged,
  judged,
}
use Rattle.c_types.specs.WellTyped.{FirstBroken}
use Rattle.c_types.specs.Laws.QuietRows.{of_rule, Quiet, broken_rules, rules_joined, on_quiet, whole_quiet}
use Rattle.c_types.specs.Laws.QuietLaws.{written_quiet}
use Rattle.c_types.specs.Laws.QuietInits.{declared_type_quiet, initialised_quiet}
use Rattle.c_types.specs.Laws.DeclaredObjects.{object_numbers, body_declares}
use Rattle.c_types.specs.Laws.ParameterObjects.{parameters_declare}

-- what is broken so far are rules
abbrev AreRules : List Fault → Type 0
AreRules faults = list_all of_rule faults ≡ true

abbrev BreaksRules : Judgement → Type 0
BreaksRules j = AreRules j.faults

-- ---- structs

typed_rules : (t : Decl) → Quiet (member_type t)
typed_rules d = on_quiet (written d.ty d.span) (whole d.span) (written_quiet d.ty d.span) (whole_quiet d.span)

member_rules : (new : Bool) (d : Decl) (env : Env) → AreRules (member new d env).faults
member_rules new d env =
    let t = member_type d env in
    rules_joined t.faults _ (typed_rules d env).rules (object_numbers d.span new env.structs t.known)

members_rules : (seen : List (List ℕ)) (ds : List Decl) (env : Env) → AreRules (members seen ds env).faults
members_rules seen [] env = refl
members_rules seen (d ∷ ds) env =
    let one = member _ d env in
    rules_joined one.faults (members (d.name ∷ seen) ds (behind one env)).faults (member_rules _ d env)
    (members_rules (d.name ∷ seen) ds (behind one env))

body_rules_are : (j : Judgement) (d : StructDecl) (o : Option ℕ) (ds : List Decl) → BreaksRules j → BreaksRules (with_body j d o ds)
body_rules_are j d None ds so_far = so_far
body_rules_are j d (Some n) ds so_far =
    let o = members [] ds j.env in
    rules_joined (j.faults ++ o.faults) _ (rules_joined j.faults o.faults so_far (members_rules [] ds j.env))
    (broken_rules d.span (rule 10 _ ∷ rule 17 _ ∷ []) refl)

with_members_rules : (j : Judgement) (d : StructDecl) (ds : Option (List Decl)) → BreaksRules j → BreaksRules (with_members j d ds)
with_members_rules j d None so_far = so_far
with_members_rules j d (Some ds) so_far = body_rules_are j d (tag_number j.env.structs d.name) ds so_far

tag_rules : (j : Judgement) (tag : List ℕ) (o : Option ℕ) → BreaksRules j → BreaksRules (with_tag j tag o)
tag_rules j tag None so_far = so_far
tag_rules j tag (Some n) so_far = so_far

struct_rules : (j : Judgement) (d : StructDecl) → BreaksRules j → BreaksRules (struct_judged j d)
struct_rules j d so_far =
    let o = tag_number j.env.structs d.name in
    with_members_rules (with_tag j d.name o) d d.members (tag_rules j d.name o so_far)

-- ---- objects

misfit_rules : (i : Option InitSaid) → AreRules (misfits i)
misfit_rules None = refl
misfit_rules (Some i) = refl

if_rules : (b : Bool) (faults : List Fault) → AreRules faults → AreRules (if b then faults else [])
if_rules true faults are = are
if_rules false faults are = refl

file_object : (span : Span) (agrees other : Bool) (structs : List StructInfo) (t : Option Ty) →
    AreRules (broken span (rule 10 agrees ∷ rule 19 other ∷ object_rules structs t))
file_object span agrees other structs None = broken_rules span (rule 10 agrees ∷ rule 19 other ∷ []) refl
file_object span agrees other structs (Some t) =
    broken_rules span (rule 10 agrees ∷ rule 19 other ∷ rule 15 (is_complete structs t) ∷ rule 17 (leb (size structs t) largest) ∷ []) refl

object_rules_are : (names : FileNames) (c : Storage) (j : Judgement) (d : Decl) → BreaksRules j → BreaksRules (object_judged names c j d)
object_rules_are names c j d so_far =
    let t = declared_type d j.env in
    let named = with_names (with_outcome j t) (binds d.name (means.Object (object_place names d.name) t.known) ∷ []) in
    let i = initialised true t.known (init_of d) named.env in
    let agrees = may_stand names j.declared (object_declared c d t.known) in
    let other = not (bytes_eq d.name main_name) in
    let own = broken d.span (rule 10 agrees ∷ rule 19 other ∷ object_rules j.env.structs t.known) in
    let before = (j.faults ++ t.faults) ++ [] in
    let typed = rules_joined j.faults t.faults so_far (declared_type_quiet d j.env).rules in
    let called = rules_joined (j.faults ++ t.faults) [] typed refl in
    let begun = rules_joined before i.faults called (initialised_quiet true t.known d.init named.env).rules in
    let apart = if_rules (is_extern c) (misfits (init_of d)) (misfit_rules (init_of d)) in
    rules_joined (before ++ i.faults) (extern_rules c (init_of d) ++ own) begun
    (rules_joined (extern_rules c (init_of d)) own apart (file_object d.span agrees other j.env.structs t.known))

objects_rules : (names : FileNames) (c : Storage) (j : Judgement) (ds : List Decl) → BreaksRules j
    → BreaksRules (objects_judged names c j ds)
objects_rules names c j [] so_far = so_far
objects_rules names c j (d ∷ ds) so_far = objects_rules names c (object_judged names c j d) ds (object_rules_are names c j d so_far)

-- ---- functions

result_rules_are : (f : Function) → Quiet (result_type f)
result_rules_are f = on_quiet (written f.result f.span) (whole f.span) (written_quiet f.result f.span) (whole_quiet f.span)

head_numbers : (f : Function) (agrees : Bool) (t : Option Ty) → AreRules (broken f.span (head_rules f agrees t))
head_numbers f agrees None =
    broken_rules f.span (rule 10 agrees ∷ rule 14 (leb (length f.params) 8) ∷ rule 19 (main_form f None) ∷ []) refl
head_numbers f agrees (Some t) =
    broken_rules f.span (rule 10 agrees ∷ rule 14 (leb (length f.params) 8) ∷ rule 19 (main_form f (Some t)) ∷
    rule 12 (is_void t || is_scalar t) ∷ []) refl

head_rules_are : (names : FileNames) (j : Judgement) (f : Function) → BreaksRules j → BreaksRules (head_judged names j f)
head_rules_are names j f so_far =
    let result = result_type f j.env in
    let params = parameters_in j f in
    let read = rules_joined j.faults result.faults so_far (result_rules_are f j.env).rules in
    let given = rules_joined (j.faults ++ result.faults) params.faults read (parameters_declare (is_there f.body) f.params _).rules in
    let before = (j.faults ++ result.faults) ++ params.faults in
    let agrees = may_stand names j.declared (function_declared f (signature_of result.known params.known)) in
    let own = broken f.span (head_rules f agrees result.known) in
    rules_joined (before ++ own) [] (rules_joined before own given (head_numbers f agrees result.known)) refl

with_function_rules : (j : Judgement) (f : Function) (result : Option Ty) (params : Outcome (List Ty)) (s : Option Stmt) →
    BreaksRules j → BreaksRules (with_function j f result params s)
with_function_rules j f result params None so_far = so_far
with_function_rules j f result params (Some s) so_far = rules_joined j.faults _ so_far (body_declares s _).rules

function_rules : (names : FileNames) (j : Judgement) (f : Function) → BreaksRules j → BreaksRules (function_judged names j f)
function_rules names j f so_far =
    with_function_rules (head_judged names j f) f (result_type f j.env).known (parameters_in j f) f.body (head_rules_are names j f so_far)

-- ---- all of it

part_rules : (names : FileNames) (j : Judgement) (e : External) → BreaksRules j → BreaksRules (part_judged names j e)
part_rules names j external.Include so_far = rules_joined j.faults [] so_far refl
part_rules names j (external.Struct d) so_far = struct_rules j d so_far
part_rules names j (external.Objects c ds) so_far = objects_rules names c j ds so_far
part_rules names j (external.Function f) so_far = function_rules names j f so_far

parts_rules : (names : FileNames) (j : Judgement) (es : List External) → BreaksRules j → BreaksRules (parts_judged names j es)
parts_rules names j [] so_far = so_far
parts_rules names j (e ∷ es) so_far = parts_rules names (part_judged names j e) es (part_rules names j e so_far)

at_place : (faults : List Fault) (k : ℕ) (f : Fault) → k < length faults → AreRules faults → of_rule (slice_index_or faults k f) ≡ true
at_place [] k f below are = absurd (omega arith)
at_place (x ∷ xs) zero f below are = (and_parts (of_rule x) (list_all of_rule xs) are).0
at_place (x ∷ xs) (suc k) f below are = at_place xs k f (omega arith) (and_parts (of_rule x) (list_all of_rule xs) are).1

-- the first rule that a program breaks has a number from 9 to 19
pub first_number : (program : Program) (number : ℕ) (span : Span) → FirstBroken program number span → (9 ≤ number) × (number ≤ 19)
first_number program number span first =
    let names = file_names program in
    let all = parts_rules names start program.items refl in
    let among = first.among in
    let here = subst (λ (f : Fault). of_rule f ≡ true) among.2 (at_place (judged program).faults among.0 (fault number span) among.1 all) in
    let parts = and_parts (leb 9 number) (leb number 19) here in
    (leb-true 9 number parts.0, leb-true number 19 parts.1)
