-- The locals of each function of a well-typed program are new in their scopes.
use Rattle.std.specs.Prelude.{◌≡◌, ℕ, zero, suc, ◌+◌, ◌≤◌, Bool, List, [], ◌∷◌, ◌++◌, take, map, length, slice_get, Option, Some, None}
use Rattle.std.specs.Prelude.{refl}
use Rattle.std.specs.List.{AllByRecursion}
use Rattle.std.proofs.Common.{◌⊎◌, inl, inr, arith, sym, subst, ◌∙◌, length-append}
use Rattle.c_ast.specs.declared.declaration.Decl.{Decl}
use Rattle.c_ast.specs.declared.declaration.Storage.{Storage}
use Rattle.c_ast.specs.declared.declaration.StructDecl.{StructDecl}
use Rattle.c_ast.specs.declared.statement.Stmt.{Stmt}
use Rattle.c_ast.specs.declared.program.Function.{Function}
use Rattle.c_ast.specs.declared.program.External.{External}
use Rattle.c_ast.specs.declared.program.External.TheVariants as external
use Rattle.c_type_base.specs.Types.{is_there}
use Rattle.c_type_base.specs.declared.ty.Ty.{Ty}
use Rattle.c_type_base.specs.declared.statement.TItem.{TItem}
use Rattle.c_type_base.specs.declared.statement.TItem.TheOpen.{TStmt-F}
use Rattle.c_type_base.specs.declared.statement.TStmt.{TStmt, out-TStmt}
use Rattle.c_type_base.specs.declared.typed.LocalInfo.{LocalInfo}
use Rattle.c_type_base.specs.declared.typed.TFunction.{TFunction}
use Rattle.c_type_base.specs.declared.typed.Typed.{Typed}
use Rattle.c_type_expr.specs.Environment.{Env, opened, tag_number}
use Rattle.c_type_expr.specs.Expressions.{written}
use Rattle.c_type_expr.specs.Faults.{rule, all_kept}
use Rattle.c_type_expr.specs.Outcomes.{Outcome, behind, each}
use Rattle.c_type_stmt.specs.Statements.{statement}
use Rattle.c_types.specs.Files.{file_names}
use Rattle.c_types.specs.Functions.{adjusted_in, is_new_parameter, parameter_rules, declares_parameter, parameter, signature_of}
use Rattle.c_types.specs.Functions.{result_type}
use Rattle.c_types.specs.Units.{Judgement, start, function_declared, function_of, with_function, parameters_in, head_judged}
use Rattle.c_types.specs.Units.{function_judged}
use Rattle.c_types.specs.Units.{with_tag, with_body, with_members, struct_judged, object_judged, objects_judged, part_judged, parts_judged}
use Rattle.c_types.specs.Units.{judged, typed_by}
use Rattle.c_types.specs.declared.names.FileNames.{FileNames}
use Rattle.c_types.specs.declared.redeclared.Declared.{Declared}
use Rattle.c_types.specs.declared.redeclared.Kind.TheVariants.{AFunction}
use Rattle.block_meaning.specs.Linkage.{function_in, function_named}
use Rattle.block_meaning.specs.ProgramsInOrder.{numbered}
use Rattle.block_meaning.specs.Running as running
use Rattle.block_meaning.specs.Statements.{declared}
use Rattle.code_relation.specs.Fresh.{AreNew, FreshItems}
use Rattle.well_typed_order.specs.Bodied.{BlockIfThere, PartBodied}
use Rattle.well_typed_order.specs.WellTypedPrograms.{FileOf, WellTypedProgram}
use Rattle.well_typed_order.specs.Laws.AsDeclared.{walked-for}
use Rattle.well_typed_order.specs.Laws.Bodies.{env_of_body}
use Rattle.well_typed_order.specs.Laws.FileTables.{by-names-in}
use Rattle.well_typed_order.specs.Laws.Growth.{In, grows-body, grows-parts}
use Rattle.well_typed_order.specs.Laws.Heads.{with_result}
use Rattle.well_typed_order.specs.Laws.Walk.{in-split, in-one}
use Rattle.well_typed_order.specs.Laws.Walked.{KindFine}
use Rattle.well_typed_code.specs.FreshFunctions.{parameters_of, FreshFunction}
use Rattle.well_typed_code.specs.Laws.Counted.{Counted, headed}
use Rattle.well_typed_code.specs.Laws.NewLocals.{BodyIn, body-counted}
use Rattle.well_typed_code.specs.Laws.NewScopes.{Avoids, new-beside, only-own, if-kept, one-local}
use Rattle.well_typed_code.specs.Laws.Rising.{Rising, Rising-lower, Rising-within}

-- ---- parameters

one_parameter : (defines : Bool) (d : Decl) (env : Env) (u : Ty) → (parameter defines d env).known ≡ Some u →
    1 ≤ length (parameter defines d env).locals
one_parameter defines d env u is =
    let w = written d.ty d.span env in
    let here = behind w env in
    let b = declares_parameter defines d w.known here in
    let rules = rule 10 (is_new_parameter defines here d.name) ∷ parameter_rules here.structs w.known in
    let one = one-local d.name d.span (adjusted_in w.known) u (if-kept (all_kept rules) (adjusted_in w.known) u is) in
    omega (arith, one, length-append w.locals b.locals)

-- where the parameters are known, there is a local for each
as_many : (defines : Bool) (ds : List Decl) (env : Env) (ts : List Ty) → (each (map (parameter defines) ds) env).known ≡ Some ts →
    length ds ≤ length (each (map (parameter defines) ds) env).locals
as_many defines [] env ts is = omega arith
as_many defines (d ∷ ds) env ts is =
    let a = parameter defines d env in
    let b = each (map (parameter defines) ds) (behind a env) in
    let parts = headed a.known b.known ts is in
    let one = one_parameter defines d env parts.head parts.head_is in
    let rest = as_many defines ds (behind a env) parts.tail parts.tail_is in
    omega (arith, one, rest, length-append a.locals b.locals)

-- ---- a function

numbers_rise : (from : ℕ) (ls : List LocalInfo) → Rising from (from + length ls) (numbered from ls)
numbers_rise from [] = omega arith
numbers_rise from (l ∷ ls) =
    let rest : Rising (from + 1) (from + 1 + length ls) (numbered (from + 1) ls) = numbers_rise (from + 1) ls in
    let same : from + 1 + length ls ≡ from + suc (length ls) = omega arith in (
      omega arith,
      Rising-lower (suc from) (from + 1) (from + suc (length ls)) (numbered (from + 1) ls) (omega arith)
          (subst (λ to. Rising (from + 1) to (numbered (from + 1) ls)) same rest),
    )

length_take : (n : ℕ) (ls : List LocalInfo) → length (take n ls) ≤ n
length_take zero ls = omega arith
length_take (suc n) [] = omega arith
length_take (suc n) (l ∷ ls) = omega (arith, length_take n ls)

parameters_before : (f : TFunction) (from to : ℕ) → f.params ≤ from → Avoids from to (parameters_of f)
parameters_before f from to within = record {
  none = λ k has least below.
      let ls = take f.params f.locals in
      let number = Rising-within 0 (0 + length ls) (numbered 0 ls) k (numbers_rise 0 ls) has in
      omega (arith, number.below, least, within, length_take f.params f.locals);
}

fresh_by : (f : TFunction) (from to : ℕ) → f.params ≤ from → BodyIn from to f.body → FreshFunction f
fresh_by f from to within body =
    let avoids = parameters_before f from to within in
    record {
      items = body.items;
      body_is = body.is;
      new = new-beside body.new.declares avoids;
      fresh = body.new.fresh (declared body.items ++ parameters_of f) (only-own avoids);
    }

-- ---- the functions of a file

abbrev AllFresh : Judgement → Type 0
AllFresh j = (f : TFunction) → In j.functions f → FreshFunction f

none_there : {A : Type 0} (x : A) → In [] x → ⊥
none_there x (k, is) = absurd cc

-- what a function leaves, where its parameters and its body are known
defined_fresh : (f : Function) (result : Option Ty) (locals : List LocalInfo) (body : Option TStmt) (from to : ℕ) → length f.params ≤ from →
    ((st : TStmt) → body ≡ Some st → BodyIn from to st) → (g : TFunction) → In (function_of f result locals body) g → FreshFunction g
defined_fresh f None locals body from to within counts g has = absurd (none_there g has)
defined_fresh f (Some t) locals None from to within counts g has = absurd (none_there g has)
defined_fresh f (Some t) locals (Some st) from to within counts g has =
    subst FreshFunction (in-one _ g has) (fresh_by _ from to within (counts st refl))

known_parameters : (result : Option Ty) (params : Option (List Ty)) → KindFine (AFunction (signature_of result params)) →
    (ts : List Ty) × (params ≡ Some ts)
known_parameters None params fine = absurd fine
known_parameters (Some t) None fine = absurd fine
known_parameters (Some t) (Some ts) fine = (ts, refl)

-- what is said of a body
abbrev said_in : Judgement → Option Ty → Outcome (List Ty) → Stmt → Outcome TStmt
said_in j result params s = (statement s).body (env_of_body j params result)

abbrev made_in : Judgement → Function → Option Ty → Outcome (List Ty) → Stmt → List TFunction
made_in j f result params s =
    function_of f result (params.locals ++ (said_in j result params s).locals) (said_in j result params s).known

body_fresh : (j : Judgement) (f : Function) (result : Option Ty) (params : Outcome (List Ty)) (s : Option Stmt) → BlockIfThere s →
    length f.params ≤ length params.locals → AllFresh j → AllFresh (with_function j f result params s)
body_fresh j f result params None block within all = all
body_fresh j f result params (Some s) block within all = λ g has. by_part g (in-split j.functions (made_in j f result params s) g has)
  where
    by_part : (g : TFunction) → (In j.functions g) ⊎ (In (made_in j f result params s) g) → FreshFunction g
    by_part g (inl before) = all g before
    by_part g (inr here) =
        let o = said_in j result params s in
        let counted = subst (λ (s : Stmt). Counted BodyIn (statement s).body) (sym block.is) (body-counted block.items) in
        defined_fresh f result (params.locals ++ o.locals) o.known (length params.locals) (length params.locals + length o.locals) within
        (λ st is. counted.counts (env_of_body j params result) st is) g here

function_fresh : (names : FileNames) (j : Judgement) (f : Function) → BlockIfThere f.body →
    ((d : Declared) → In (function_judged names j f).declared d → KindFine d.kind) → AllFresh j → AllFresh (function_judged names j f)
function_fresh names j f block kinds all =
    let result = result_type f j.env in
    let params = parameters_in j f in
    let this = function_declared f (signature_of result.known params.known) in
    let grows = grows-body (head_judged names j f) f result.known params f.body in
    let known = known_parameters result.known params.known (kinds this (grows.declared this (zero, refl))) in
    body_fresh (head_judged names j f) f result.known params f.body block
    (as_many (is_there f.body) f.params (opened (with_result j f).env) known.0 known.1) all

struct_fresh : (j : Judgement) (d : StructDecl) → AllFresh j → AllFresh (struct_judged j d)
struct_fresh j d all = of_members d.members
  where
    tagged : Judgement
    tagged = with_tag j d.name (tag_number j.env.structs d.name)

    of_tag : (o : Option ℕ) → AllFresh (with_tag j d.name o)
    of_tag (Some number) = all
    of_tag None = all

    of_body : (o : Option ℕ) (ds : List Decl) → AllFresh (with_body tagged d o ds)
    of_body None ds = of_tag (tag_number j.env.structs d.name)
    of_body (Some number) ds = of_tag (tag_number j.env.structs d.name)

    of_members : (ds : Option (List Decl)) → AllFresh (with_members tagged d ds)
    of_members None = of_tag (tag_number j.env.structs d.name)
    of_members (Some ds) = of_body (tag_number tagged.env.structs d.name) ds

objects_fresh : (names : FileNames) (c : Storage) (j : Judgement) (ds : List Decl) → AllFresh j → AllFresh (objects_judged names c j ds)
objects_fresh names c j [] all = all
objects_fresh names c j (d ∷ ds) all = objects_fresh names c (object_judged names c j d) ds all

part_fresh : (names : FileNames) (j : Judgement) (e : External) → PartBodied e →
    ((d : Declared) → In (part_judged names j e).declared d → KindFine d.kind) → AllFresh j → AllFresh (part_judged names j e)
part_fresh names j external.Include bodied kinds all = all
part_fresh names j (external.Struct d) bodied kinds all = struct_fresh j d all
part_fresh names j (external.Objects c ds) bodied kinds all = objects_fresh names c j ds all
part_fresh names j (external.Function f) bodied kinds all = function_fresh names j f bodied kinds all

parts_fresh : (names : FileNames) (j : Judgement) (es : List External) → AllByRecursion PartBodied es →
    ((d : Declared) → In (parts_judged names j es).declared d → KindFine d.kind) → AllFresh j → AllFresh (parts_judged names j es)
parts_fresh names j [] bodied kinds all = all
parts_fresh names j (e ∷ es) bodied kinds all =
    let grows = grows-parts names (part_judged names j e) es in
    parts_fresh names (part_judged names j e) es bodied.1 kinds
    (part_fresh names j e bodied.0 (λ d has. kinds d (grows.declared d has)) all)

-- ---- programs

-- each function of a well-typed file
pub file-fresh : (u : Typed) → FileOf u → (k : ℕ) (f : TFunction) → slice_get u.functions k ≡ Some f → FreshFunction f
file-fresh u file k f is =
    let walked = walked-for file.text file.well.kept file.bodied in
    let among : In (typed_by (file_names file.text) (judged file.text)).functions f =
    subst (λ (u : Typed). In u.functions f) file.well.typed_is (k, is) in
    parts_fresh (file_names file.text) start file.text.items file.bodied walked.kinds (λ g has. absurd (none_there g has)) f
    (by-names-in (λ (f : TFunction). f.name) (file_names file.text).functions (judged file.text).functions f among)

in_file : (program : running.Program) → WellTypedProgram program → (unit number : ℕ) (o : Option Typed) → slice_get program.units unit ≡ o →
    (f : TFunction) → function_in o number ≡ Some f → FreshFunction f
in_file program well unit number None is f there = absurd cc
in_file program well unit number (Some u) is f there = file-fresh u (well.files unit u is) number f there

-- The locals of each function of a well-typed program are new in their scopes.
pub program-fresh : (program : running.Program) → WellTypedProgram program → (name : running.Function) (f : TFunction) →
    function_named program.units name ≡ Some f → FreshFunction f
program-fresh program well name f there =
    in_file program well name.unit name.number (slice_get program.units name.unit) refl f there

-- so they are by any list of items that the body is
pub fresh-items : (f : TFunction) (items : List TItem) → out-TStmt f.body ≡ TStmt-F.Block items → FreshFunction f →
    AreNew (parameters_of f) (declared items) × FreshItems (declared items ++ parameters_of f) items
fresh-items f items is fresh =
    let one : TStmt-F.Block fresh.items ≡ TStmt-F.Block items = sym fresh.body_is ∙ is in
    let same : fresh.items ≡ items = cc in
    subst (λ is. AreNew (parameters_of f) (declared is) × FreshItems (declared is ++ parameters_of f) is) same (fresh.new, fresh.fresh)
