-- What a program that keeps its rules promises of its structs: each is laid out, its members are complete, and it is not too large.
use Rattle.std.proofs.Common.{◌≡◌, refl, sym, subst, ℕ, Bool, true, false, not, List, [], ◌∷◌, ◌++◌, map, slice_get, Option, Some, None}
use Rattle.c_ast.specs.declared.token.Span.{Span}
use Rattle.c_ast.specs.declared.declaration.Decl.{Decl}
use Rattle.c_ast.specs.declared.declaration.Storage.{Storage}
use Rattle.c_ast.specs.declared.declaration.StructDecl.{StructDecl}
use Rattle.c_ast.specs.declared.statement.Stmt.{Stmt}
use Rattle.c_ast.specs.declared.program.Program.{Program}
use Rattle.c_ast.specs.declared.program.Function.{Function}
use Rattle.c_ast.specs.declared.program.External.{External}
use Rattle.c_ast.specs.declared.program.External.TheVariants as external
use Rattle.c_type_base.specs.declared.ty.Ty.{Ty}
use Rattle.c_type_base.specs.declared.typed.Typed.{Typed}
use Rattle.c_type_base.specs.declared.typed.StructInfo.{StructInfo}
use Rattle.c_type_base.specs.Sizes.{size, complete_struct, is_complete, has_members, largest}
use Rattle.c_type_base.specs.Layout.{LaidOut, struct_size}
use Rattle.c_type_expr.specs.Faults.{Rule, rule, broken}
use Rattle.c_type_expr.specs.Environment.{Env, tag_number}
use Rattle.c_type_expr.specs.Outcomes.{Outcome, behind}
use Rattle.c_type_stmt.specs.Declarations.{object_rules}
use Rattle.c_types.specs.Files.{FileNames, file_names}
use Rattle.c_types.specs.Structs.{Member, ty_in, members, member_type, found_member, with_member, has_body, body_rules}
use Rattle.c_types.specs.Units.{Judgement, start, with_outcome, with_tag, known_members, with_body, with_members, struct_judged}
use Rattle.c_types.specs.Units.{object_judged, objects_judged, with_function, function_judged, part_judged, parts_judged}
use Rattle.c_types.specs.Functions.{parameters, result_type}
use Rattle.c_type_base.specs.Types.{is_there}
use Rattle.std.specs.Prelude.{leb}
use Rattle.std.proofs.lemmas.Bool.{leb-true}
use Rattle.std.specs.List.{list_any}
use Rattle.std.specs.Str.{bytes_eq}
use Rattle.c_types.specs.WellTyped.{WellTyped}
use Rattle.c_type_base.specs.Laws.GrowthLaws.{AllComplete, none, some}
use Rattle.c_types.specs.Laws.TableLaws.{AllReady, ready-laid_out, none_ready, tag_added, body_added}

pub front : {A : Type 0} (a b : List A) → a ++ b ≡ [] → a ≡ []
front [] b is = refl
front (x ∷ xs) b is = absurd (cc)

pub back : {A : Type 0} (a b : List A) → a ++ b ≡ [] → b ≡ []
back [] b is = is
back (x ∷ xs) b is = absurd (cc)

-- ---- rules

pub first-kept : (span : Span) (n : ℕ) (b : Bool) (rs : List Rule) → broken span (rule n b ∷ rs) ≡ [] → b ≡ true
first-kept span n true rs is = refl
first-kept span n false rs is = absurd (cc)

pub rest-kept : (span : Span) (n : ℕ) (b : Bool) (rs : List Rule) → broken span (rule n b ∷ rs) ≡ [] → broken span rs ≡ []
rest-kept span n true rs is = is
rest-kept span n false rs is = absurd (cc)

-- ---- members

member-complete : (structs : List StructInfo) (span : Span) (b : Bool) (name : List ℕ) (t : Option Ty) (rest : Option (List Member)) →
    broken span (rule 10 b ∷ object_rules structs t) ≡ [] → AllComplete structs (map ty_in (known_members rest)) →
    AllComplete structs (map ty_in (known_members (with_member (found_member name t) rest)))
member-complete structs span b name None None is all = none
member-complete structs span b name None (Some ms) is all = all
member-complete structs span b name (Some t) None is all = none
member-complete structs span b name (Some t) (Some ms) is all =
    some (first-kept span 15 (is_complete structs t) (rule 17 (leb (size structs t) largest) ∷ []) (rest-kept span 10 b
    (object_rules structs (Some t)) is)) all

pub members-complete : (seen : List (List ℕ)) (ds : List Decl) (env : Env) → (members seen ds env).faults ≡ [] →
    AllComplete env.structs (map ty_in (known_members (members seen ds env).known))
members-complete seen [] env is = none
members-complete seen (d ∷ ds) env is =
    let t = member_type d env in
    let new = not (list_any (bytes_eq d.name) seen) in
    let faults = broken d.span (rule 10 new ∷ object_rules env.structs t.known) in
    let one = record t { faults = t.faults ++ faults } in
    let rest = members (d.name ∷ seen) ds (behind one env) in
    let own : t.faults ++ faults ≡ [] = front (t.faults ++ faults) rest.faults is in
    member-complete env.structs d.span new d.name t.known rest.known (back t.faults faults own)
    (members-complete (d.name ∷ seen) ds (behind one env) (back (t.faults ++ faults) rest.faults is))

-- ---- parts

-- where no rule is broken so far, the structs are ready
abbrev pub Good : Judgement → Type 0
Good j = j.faults ≡ [] → AllReady j.env.structs

pub tag-good : (j : Judgement) (tag : List ℕ) (o : Option ℕ) → Good j → Good (with_tag j tag o)
tag-good j tag (Some n) good = good
tag-good j tag None good = λ is. tag_added j.env.structs tag (good is)

pub open-struct : (o : Option StructInfo) → not (has_body o) ≡ true → complete_struct o ≡ false
open-struct None is = refl
open-struct (Some info) is = elim info.members as (λ ms. not (has_members ms) ≡ true → has_members ms ≡ false) [
  | [] ↦ λ is. refl
  | m ∷ ms ↦ λ is. absurd (cc)
] is

body-good : (j : Judgement) (d : StructDecl) (o : Option ℕ) (ds : List Decl) → Good j → Good (with_body j d o ds)
body-good j d None ds good = good
body-good j d (Some n) ds good = λ is.
    let o = members [] ds j.env in
    let ms = known_members o.known in
    let rules = body_rules j.env.structs n ms in
    let own : broken d.span rules ≡ [] = back (j.faults ++ o.faults) (broken d.span rules) is in
    let before : j.faults ++ o.faults ≡ [] = front (j.faults ++ o.faults) (broken d.span rules) is in
    let fits = rule 17 (leb (struct_size j.env.structs (map ty_in ms)) largest) ∷ [] in
    body_added j.env.structs n d.name ms (open-struct (slice_get j.env.structs n) (first-kept d.span 10 (not (has_body
    (slice_get j.env.structs n))) fits own))
    (members-complete [] ds j.env (back j.faults o.faults before))
    (leb-true (struct_size j.env.structs (map ty_in ms)) largest
    (first-kept d.span 17 (leb (struct_size j.env.structs (map ty_in ms)) largest) [] (rest-kept d.span 10 (not (has_body
    (slice_get j.env.structs n))) fits own)))
    (good (front j.faults o.faults before))

members-good : (j : Judgement) (d : StructDecl) (ds : Option (List Decl)) → Good j → Good (with_members j d ds)
members-good j d None good = good
members-good j d (Some ds) good = body-good j d (tag_number j.env.structs d.name) ds good

struct-good : (j : Judgement) (d : StructDecl) → Good j → Good (struct_judged j d)
struct-good j d good = members-good _ d d.members (tag-good j d.name (tag_number j.env.structs d.name) good)

object-good : (names : FileNames) (c : Storage) (j : Judgement) (d : Decl) → Good j → Good (object_judged names c j d)
object-good names c j d good = λ is. good (front j.faults _ (front _ [] (front _ _ (front _ _ is))))

objects-good : (names : FileNames) (c : Storage) (j : Judgement) (ds : List Decl) → Good j → Good (objects_judged names c j ds)
objects-good names c j [] good = good
objects-good names c j (d ∷ ds) good = objects-good names c (object_judged names c j d) ds (object-good names c j d good)

with_function-good : (j : Judgement) (f : Function) (result : Option Ty) (params : Outcome (List Ty)) (s : Option Stmt) → Good j →
    Good (with_function j f result params s)
with_function-good j f result params None good = good
with_function-good j f result params (Some s) good = λ is. good (front j.faults _ is)

function-good : (names : FileNames) (j : Judgement) (f : Function) → Good j → Good (function_judged names j f)
function-good names j f good =
    with_function-good _ f _ (parameters (is_there f.body) f.params (with_outcome j (result_type f j.env)).env) f.body (λ is. good
    (front j.faults _ (front _ _ (front _ _ (front _ [] is)))))

pub part-good : (names : FileNames) (j : Judgement) (e : External) → Good j → Good (part_judged names j e)
part-good names j external.Include good = λ is. good (front j.faults [] is)
part-good names j (external.Struct d) good = struct-good j d good
part-good names j (external.Objects c ds) good = objects-good names c j ds good
part-good names j (external.Function f) good = function-good names j f good

parts-good : (names : FileNames) (j : Judgement) (es : List External) → Good j → Good (parts_judged names j es)
parts-good names j [] good = good
parts-good names j (e ∷ es) good = parts-good names (part_judged names j e) es (part-good names j e good)

-- the structs of a program that keeps its rules are ready
pub typed-ready : (program : Program) (typed : Typed) → WellTyped program typed → AllReady typed.structs
typed-ready program typed well =
    subst (λ (t : Typed). AllReady t.structs) (sym well.typed_is) (parts-good (file_names program) start program.items
    (λ is. none_ready) well.kept)

-- and laid out, as the calls on sizes ask for
pub typed-laid_out : (program : Program) (typed : Typed) → WellTyped program typed → LaidOut typed.structs
typed-laid_out program typed well = ready-laid_out typed.structs (typed-ready program typed well)
