-- No object of a well-typed file is called `main`.
use Rattle.std.proofs.Common.{◌≡◌, ◌⊎◌, refl, sym, subst, ◌∙◌, inl, inr, ℕ, zero, suc, Bool, true, false, not}
use Rattle.std.proofs.Common.{List, [], ◌∷◌, ◌++◌, Option, Some, None}
use Rattle.std.specs.Prelude.{if◌then◌else◌}
use Rattle.std.specs.Str.{bytes_eq}
use Rattle.c_ast.specs.declared.declaration.Decl.{Decl}
use Rattle.c_ast.specs.declared.declaration.Storage.{Storage}
use Rattle.c_ast.specs.declared.declaration.StructDecl.{StructDecl}
use Rattle.c_ast.specs.declared.program.External.{External}
use Rattle.c_ast.specs.declared.program.External.TheVariants as external
use Rattle.c_ast.specs.declared.program.Function.{Function}
use Rattle.c_ast.specs.declared.program.Program.{Program}
use Rattle.c_ast.specs.declared.statement.Stmt.{Stmt}
use Rattle.c_type_base.specs.declared.ty.Ty.{Ty}
use Rattle.c_type_base.specs.declared.typed.GlobalInfo.{GlobalInfo}
use Rattle.c_type_base.specs.declared.typed.InitPiece.{InitPiece}
use Rattle.c_type_base.specs.declared.typed.Typed.{Typed}
use Rattle.c_type_expr.specs.Environment.{tag_number}
use Rattle.c_type_expr.specs.Faults.{rule}
use Rattle.c_type_expr.specs.Outcomes.{Outcome}
use Rattle.c_type_stmt.specs.Declarations.{declared_type, object_rules, init_of}
use Rattle.c_types.specs.Files.{is_extern, is_static, file_names}
use Rattle.c_types.specs.Functions.{main_name, result_type}
use Rattle.c_types.specs.Redeclarations.{may_stand}
use Rattle.c_types.specs.Units.{Judgement, start, global_of, object_judged, objects_judged, part_judged, parts_judged, judged}
use Rattle.c_types.specs.Units.{with_outcome, with_tag, with_body, with_members, struct_judged, with_function, head_judged, parameters_in}
use Rattle.c_types.specs.Units.{object_declared, extern_rules, pieces_in}
use Rattle.c_types.specs.WellTyped.{WellTyped}
use Rattle.c_types.specs.declared.names.FileNames.{FileNames}
use Rattle.well_typed_order.specs.Laws.Binary.{kept-first, kept-rest}
use Rattle.well_typed_order.specs.Laws.FileTables.{by-names-in}
use Rattle.well_typed_order.specs.Laws.Good.{back}
use Rattle.well_typed_order.specs.Laws.Growth.{In, grows-objects, grows-parts}
use Rattle.well_typed_order.specs.Laws.Objects.{object_named, object_begun}
use Rattle.well_typed_order.specs.Laws.Walk.{in-split}

-- none of these objects is called so
abbrev NoneMain : List GlobalInfo → Type 0
NoneMain gs = (g : GlobalInfo) → In gs g → bytes_eq g.name main_name ≡ false

no_object : NoneMain []
no_object g (k, is) = absurd cc

not_true : (b : Bool) → not b ≡ true → b ≡ false
not_true false is = refl
not_true true is = absurd cc

one_of : (xs ys : List GlobalInfo) → NoneMain xs → NoneMain ys → NoneMain (xs ++ ys)
one_of xs ys first second g has = by_side (in-split xs ys g has)
  where
    by_side : (In xs g) ⊎ (In ys g) → bytes_eq g.name main_name ≡ false
    by_side (inl there) = first g there
    by_side (inr there) = second g there

only_one : (x : GlobalInfo) → bytes_eq x.name main_name ≡ false → NoneMain (x ∷ [])
only_one x other g (zero, is) = subst (λ (o : Option GlobalInfo). NameOf o) is other
  where
    NameOf : Option GlobalInfo → Type 0
    NameOf None = Unit {0}
    NameOf (Some g) = bytes_eq g.name main_name ≡ false
only_one x other g (suc k, is) = absurd cc

none_in : (d : Decl) (c : Storage) (o : Option Ty) (pieces : List InitPiece) → bytes_eq d.name main_name ≡ false →
    NoneMain (global_of c d o pieces)
none_in d c None pieces other = no_object
none_in d c (Some t) pieces other = by_storage (is_extern c)
  where
    by_storage : (b : Bool) →
        NoneMain (if b then [] else record { name = d.name; ty = t; local = is_static c; init = pieces; span = d.span } ∷ [])
    by_storage true = no_object
    by_storage false = only_one _ other

-- ---- an object

object_other : (names : FileNames) (c : Storage) (j : Judgement) (d : Decl) → (object_judged names c j d).faults ≡ [] →
    bytes_eq d.name main_name ≡ false
object_other names c j d kept =
    let o = (declared_type d j.env).known in
    let read = with_outcome (object_named names j d o) (object_begun names j d o) in
    let may = may_stand names j.declared (object_declared c d o) in
    let other = not (bytes_eq d.name main_name) in
    let more = object_rules j.env.structs o in
    not_true (bytes_eq d.name main_name)
    (kept-first d.span 19 other more (kept-rest d.span 10 may (rule 19 other ∷ more)
    (back (extern_rules c (init_of d)) _ (back read.faults _ kept))))

objects_none : (names : FileNames) (c : Storage) (j : Judgement) (ds : List Decl) → (objects_judged names c j ds).faults ≡ [] →
    NoneMain j.globals → NoneMain (objects_judged names c j ds).globals
objects_none names c j [] kept none = none
objects_none names c j (d ∷ ds) kept none =
    let after = object_judged names c j d in
    let o = (declared_type d j.env).known in
    let other = object_other names c j d ((grows-objects names c after ds).kept kept) in
    objects_none names c after ds kept
    (one_of j.globals (global_of c d o (pieces_in (object_begun names j d o).known)) none
    (none_in d c o (pieces_in (object_begun names j d o).known) other))

-- ---- the other parts

tag_globals : (j : Judgement) (name : List ℕ) (o : Option ℕ) → (with_tag j name o).globals ≡ j.globals
tag_globals j name None = refl
tag_globals j name (Some k) = refl

body_globals : (j : Judgement) (d : StructDecl) (o : Option ℕ) (ds : List Decl) → (with_body j d o ds).globals ≡ j.globals
body_globals j d None ds = refl
body_globals j d (Some k) ds = refl

members_globals : (j : Judgement) (d : StructDecl) (o : Option (List Decl)) → (with_members j d o).globals ≡ j.globals
members_globals j d None = refl
members_globals j d (Some ds) = body_globals j d (tag_number j.env.structs d.name) ds

struct_globals : (j : Judgement) (d : StructDecl) → (struct_judged j d).globals ≡ j.globals
struct_globals j d =
    members_globals (with_tag j d.name (tag_number j.env.structs d.name)) d d.members
    ∙ tag_globals j d.name (tag_number j.env.structs d.name)

function_globals : (j : Judgement) (f : Function) (result : Option Ty) (params : Outcome (List Ty)) (s : Option Stmt) →
    (with_function j f result params s).globals ≡ j.globals
function_globals j f result params None = refl
function_globals j f result params (Some s) = refl

part_none : (names : FileNames) (j : Judgement) (e : External) → (part_judged names j e).faults ≡ [] → NoneMain j.globals →
    NoneMain (part_judged names j e).globals
part_none names j external.Include kept none = none
part_none names j (external.Struct d) kept none = subst NoneMain (sym (struct_globals j d)) none
part_none names j (external.Objects c ds) kept none = objects_none names c j ds kept none
part_none names j (external.Function f) kept none =
    subst NoneMain (sym (function_globals (head_judged names j f) f (result_type f j.env).known (parameters_in j f) f.body)) none

parts_none : (names : FileNames) (j : Judgement) (es : List External) → (parts_judged names j es).faults ≡ [] → NoneMain j.globals →
    NoneMain (parts_judged names j es).globals
parts_none names j [] kept none = none
parts_none names j (e ∷ es) kept none =
    let after = part_judged names j e in
    parts_none names after es kept (part_none names j e ((grows-parts names after es).kept kept) none)

-- ---- a file

pub no-main-object : (p : Program) (u : Typed) → WellTyped p u → (g : GlobalInfo) → In u.globals g → bytes_eq g.name main_name ≡ false
no-main-object p u well g has =
    let there = by-names-in (λ (g : GlobalInfo). g.name) (file_names p).globals (judged p).globals g
    (subst (λ (u : Typed). In u.globals g) well.typed_is has) in
    parts_none (file_names p) start p.items well.kept no_object g there
