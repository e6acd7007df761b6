-- The functions of a well-typed program: each expression in their bodies that is plain is covered, if the constants of the text fit.
use Rattle.std.specs.Prelude.{◌≡◌, ℕ, true, List, [], ◌∷◌, ◌++◌, slice_get, Option, Some, None, refl}
use Rattle.std.proofs.Common.{◌⊎◌, inl, inr, subst}
use Rattle.c_ast.specs.declared.declaration.Decl.{Decl}
use Rattle.c_ast.specs.declared.declaration.Storage.{Storage}
use Rattle.c_ast.specs.declared.declaration.StructDecl.{StructDecl}
use Rattle.c_ast.specs.declared.program.External.{External}
use Rattle.c_ast.specs.declared.program.External.TheVariants as external
use Rattle.c_ast.specs.declared.program.Function.{Function}
use Rattle.c_ast.specs.declared.program.Program.{Program}
use Rattle.c_ast.specs.declared.statement.Stmt.{Stmt}
use Rattle.c_type_base.specs.declared.statement.TStmt.{TStmt}
use Rattle.c_type_base.specs.declared.ty.Ty.{Ty}
use Rattle.c_type_base.specs.declared.typed.LocalInfo.{LocalInfo}
use Rattle.c_type_base.specs.declared.typed.TFunction.{TFunction}
use Rattle.c_type_base.specs.declared.typed.Typed.{Typed}
use Rattle.c_type_expr.specs.Environment.{tag_number}
use Rattle.c_type_expr.specs.Outcomes.{Outcome}
use Rattle.c_type_stmt.specs.Statements.{statement}
use Rattle.c_types.specs.Files.{file_names}
use Rattle.c_types.specs.Functions.{result_type}
use Rattle.c_types.specs.Units.{Judgement, start, function_of, with_function, parameters_in, head_judged, with_tag, with_body}
use Rattle.c_types.specs.Units.{with_members, struct_judged, object_judged, objects_judged, part_judged, parts_judged, judged, typed_by}
use Rattle.c_types.specs.WellTyped.{WellTyped}
use Rattle.c_types.specs.declared.names.FileNames.{FileNames}
use Rattle.block_meaning.specs.Linkage.{function_in, function_named}
use Rattle.block_meaning.specs.Running as running
use Rattle.well_typed_order.specs.WellTypedPrograms.{WellTypedProgram}
use Rattle.well_typed_order.specs.Laws.Bodies.{env_of_body}
use Rattle.well_typed_order.specs.Laws.FileTables.{by-names-in}
use Rattle.well_typed_order.specs.Laws.Growth.{In}
use Rattle.well_typed_order.specs.Laws.Walk.{in-split, in-one}
use Rattle.well_typed_covered.specs.Always.{IfThere}
use Rattle.well_typed_covered.specs.Constants.{fits_if, constants_fit_stmt, constants_fit_part, constants_fit_parts, constants_fit_in}
use Rattle.well_typed_covered.specs.CoveredBodies.{all_covered_in}
use Rattle.well_typed_covered.specs.Laws.Bodies.{statement-covered}
use Rattle.well_typed_covered.specs.Laws.Statements.{StmtCovered}
use Rattle.well_typed_covered.specs.Laws.Trees.{first-of, second-of}

-- ---- a function

abbrev BodyCovered : TFunction → Type 0
BodyCovered f = all_covered_in f.body ≡ true

abbrev AllCovered : Judgement → Type 0
AllCovered j = (f : TFunction) → In j.functions f → BodyCovered f

none_there : {A : Type 0} (x : A) → In [] x → ⊥
none_there x (k, is) = absurd cc

-- what a function leaves
defined_covered : (f : Function) (result : Option Ty) (locals : List LocalInfo) (body : Option TStmt) → IfThere StmtCovered body →
    (g : TFunction) → In (function_of f result locals body) g → BodyCovered g
defined_covered f None locals body is g has = absurd (none_there g has)
defined_covered f (Some t) locals None is g has = absurd (none_there g has)
defined_covered f (Some t) locals (Some st) is g has = subst BodyCovered (in-one _ g has) is

-- what is said of a body
abbrev said_in : Judgement → Option Ty → Outcome (List Ty) → Stmt → Outcome TStmt
said_in j result params s = (statement s).body (env_of_body j params result)

abbrev made_in : Judgement → Function → Option Ty → Outcome (List Ty) → Stmt → List TFunction
made_in j f result params s =
    function_of f result (params.locals ++ (said_in j result params s).locals) (said_in j result params s).known

body_covered : (j : Judgement) (f : Function) (result : Option Ty) (params : Outcome (List Ty)) (s : Option Stmt) →
    fits_if constants_fit_stmt s ≡ true → AllCovered j → AllCovered (with_function j f result params s)
body_covered j f result params None fits all = all
body_covered j f result params (Some s) fits all = λ g has. by_part g (in-split j.functions (made_in j f result params s) g has)
  where
    by_part : (g : TFunction) → (In j.functions g) ⊎ (In (made_in j f result params s) g) → BodyCovered g
    by_part g (inl before) = all g before
    by_part g (inr here) =
        let o = said_in j result params s in
        defined_covered f result (params.locals ++ o.locals) o.known
        ((statement-covered s fits).body.known (env_of_body j params result)) g here

-- ---- the parts of a file

struct_covered : (j : Judgement) (d : StructDecl) → AllCovered j → AllCovered (struct_judged j d)
struct_covered j d all = of_members d.members
  where
    tagged : Judgement
    tagged = with_tag j d.name (tag_number j.env.structs d.name)

    of_tag : (o : Option ℕ) → AllCovered (with_tag j d.name o)
    of_tag (Some number) = all
    of_tag None = all

    of_body : (o : Option ℕ) (ds : List Decl) → AllCovered (with_body tagged d o ds)
    of_body None ds = of_tag (tag_number j.env.structs d.name)
    of_body (Some number) ds = of_tag (tag_number j.env.structs d.name)

    of_members : (ds : Option (List Decl)) → AllCovered (with_members tagged d ds)
    of_members None = of_tag (tag_number j.env.structs d.name)
    of_members (Some ds) = of_body (tag_number tagged.env.structs d.name) ds

objects_covered : (names : FileNames) (c : Storage) (j : Judgement) (ds : List Decl) → AllCovered j →
    AllCovered (objects_judged names c j ds)
objects_covered names c j [] all = all
objects_covered names c j (d ∷ ds) all = objects_covered names c (object_judged names c j d) ds all

part_covered : (names : FileNames) (j : Judgement) (e : External) → constants_fit_part e ≡ true → AllCovered j →
    AllCovered (part_judged names j e)
part_covered names j external.Include fits all = all
part_covered names j (external.Struct d) fits all = struct_covered j d all
part_covered names j (external.Objects c ds) fits all = objects_covered names c j ds all
part_covered names j (external.Function f) fits all =
    body_covered (head_judged names j f) f (result_type f j.env).known (parameters_in j f) f.body fits all

parts_covered : (names : FileNames) (j : Judgement) (es : List External) → constants_fit_parts es ≡ true → AllCovered j →
    AllCovered (parts_judged names j es)
parts_covered names j [] fits all = all
parts_covered names j (e ∷ es) fits all =
    parts_covered names (part_judged names j e) es (second-of (constants_fit_part e) (constants_fit_parts es) fits)
    (part_covered names j e (first-of (constants_fit_part e) (constants_fit_parts es) fits) all)

-- ---- programs

-- Each function of a well-typed file: each expression in its body that is plain is covered, if the constants of the text fit.
pub file-covered : (text : Program) (u : Typed) → WellTyped text u → constants_fit_in text ≡ true → (k : ℕ) (f : TFunction) →
    slice_get u.functions k ≡ Some f → all_covered_in f.body ≡ true
file-covered text u well fits k f is =
    let among : In (typed_by (file_names text) (judged text)).functions f =
    subst (λ (u : Typed). In u.functions f) well.typed_is (k, is) in
    parts_covered (file_names text) start text.items fits (λ g has. absurd (none_there g has)) f
    (by-names-in (λ (f : TFunction). f.name) (file_names text).functions (judged text).functions f among)

-- the constants of each text of a program fit
abbrev pub ConstantsFit : (program : running.Program) → WellTypedProgram program → Type 0
ConstantsFit program well = (unit : ℕ) (u : Typed) (is : slice_get program.units unit ≡ Some u) →
    constants_fit_in (well.files unit u is).text ≡ true

in_file : (program : running.Program) (well : WellTypedProgram program) → ConstantsFit program well → (unit number : ℕ)
    (o : Option Typed) → slice_get program.units unit ≡ o → (f : TFunction) → function_in o number ≡ Some f → all_covered_in f.body ≡ true
in_file program well fits unit number None is f there = absurd cc
in_file program well fits unit number (Some u) is f there =
    let file = well.files unit u is in
    file-covered file.text u file.well (fits unit u is) number f there

-- Each function of a well-typed program: each expression in its body that is plain is covered, if the constants of the texts fit.
pub program-covered : (program : running.Program) (well : WellTypedProgram program) → ConstantsFit program well →
    (name : running.Function) (f : TFunction) → function_named program.units name ≡ Some f → all_covered_in f.body ≡ true
program-covered program well fits name f there =
    in_file program well fits name.unit name.number (slice_get program.units name.unit) refl f there
