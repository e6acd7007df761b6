-- A whole file (ISO C11 6.9): its parts in order, each with what was declared before it.
use Rattle.std.specs.Prelude.{ℕ, true, false, not, List, [], ◌∷◌, ◌++◌, length, slice_set, Option, Some, None, if◌then◌else◌}
use Rattle.std.specs.Str.{bytes_eq}
use Rattle.c_ast.specs.declared.declaration.Decl.{Decl}
use Rattle.c_ast.specs.declared.declaration.Storage.{Storage}
use Rattle.c_ast.specs.declared.declaration.StructDecl.{StructDecl}
use Rattle.c_ast.specs.declared.statement.Stmt.{Stmt}
use Rattle.c_ast.specs.declared.program.Program.{Program}
use Rattle.c_ast.specs.declared.program.Function.{Function}
use Rattle.c_ast.specs.declared.program.External.{External}
use Rattle.c_ast.specs.declared.program.External.TheVariants as external
use Rattle.c_type_base.specs.declared.ty.Ty.{Ty}
use Rattle.c_type_base.specs.declared.expr.Callee.TheVariants as callee
use Rattle.c_type_base.specs.declared.statement.TStmt.{TStmt}
use Rattle.c_type_base.specs.declared.typed.Typed.{Typed}
use Rattle.c_type_base.specs.declared.typed.StructInfo.{StructInfo}
use Rattle.c_type_base.specs.declared.typed.GlobalInfo.{GlobalInfo}
use Rattle.c_type_base.specs.declared.typed.InitPiece.{InitPiece}
use Rattle.c_type_base.specs.declared.typed.TFunction.{TFunction}
use Rattle.c_type_base.specs.declared.typed.LocalInfo.{LocalInfo}
use Rattle.c_type_base.specs.Types.{is_there}
use Rattle.c_type_expr.specs.declared.fault.Fault.{Fault}
use Rattle.c_type_expr.specs.Faults.{rule, fault, broken}
use Rattle.c_type_expr.specs.declared.scopes.Binding.{Binding}
use Rattle.c_type_expr.specs.declared.scopes.Signature.{Signature}
use Rattle.c_type_expr.specs.declared.scopes.Meaning.TheVariants as means
use Rattle.c_type_expr.specs.Environment.{Env, binds, tag_number}
use Rattle.c_type_expr.specs.Outcomes.{Outcome, behind}
use Rattle.c_type_stmt.specs.declared.fitted.Fitted.{Fitted}
use Rattle.c_type_stmt.specs.Initials.{InitSaid}
use Rattle.c_type_stmt.specs.Declarations.{init_of, declared_type, object_rules, initialised, eof_name}
use Rattle.c_type_stmt.specs.Statements.{statement}
use Rattle.c_types.specs.Files.{FileNames, file_names, is_extern, is_static, object_place, function_callee, putchar_name, getchar_name}
use Rattle.c_types.specs.Redeclarations.{AnObject, AFunction, Declared, may_stand, putchar_type, getchar_type}
use Rattle.c_types.specs.Ordered.{globals_by, functions_by, externs_by}
use Rattle.c_types.specs.Functions.{parameters, signature_of, head_rules, main_name, result_type}
use Rattle.c_types.specs.Structs.{Member, members, struct_with, tag_alone, body_rules}

-- what is said of the parts so far, and what they declare
pub record Judgement : Type 0 where
  -- where the next part stands: one scope, that of the file
  pub env : Env
  -- the declarations of objects and functions
  pub declared : List Declared
  pub faults : List Fault
  pub texts : List (List ℕ)
  -- what the file defines, in the order of definitions
  pub globals : List GlobalInfo
  pub functions : List TFunction

-- before the first part
abbrev pub start : Judgement
start = record {
  env = record { structs = []; scopes = [] ∷ []; texts = 0; locals = 0; result = None; stdio = false };
  declared = [];
  faults = [];
  texts = [];
  globals = [];
  functions = [];
}

-- with the faults, the texts and the names of something in the file's scope
abbrev pub with_outcome : {A : Type 0} → Judgement → Outcome A → Judgement
with_outcome j o = record j {
  env = record (behind o j.env) { locals = 0 };
  faults = j.faults ++ o.faults;
  texts = j.texts ++ o.texts;
}

abbrev pub with_faults : Judgement → List Fault → Judgement
with_faults j faults = record j { faults = j.faults ++ faults }

abbrev pub with_names : Judgement → List Binding → Judgement
with_names j names =
    let o : Outcome (Unit {0}) = record { faults = []; texts = []; locals = []; names = names; known = None } in
    with_outcome j o

-- ---- the include line

-- it declares its names from its place on; a second one changes nothing (7.21.7.6, 7.21.7.8)
abbrev pub included : Judgement → Judgement
included j =
    let named = with_names j (
    binds eof_name means.Eof ∷
    binds getchar_name (means.Function callee.Getchar (Some getchar_type)) ∷
    binds putchar_name (means.Function callee.Putchar (Some putchar_type)) ∷ []) in
    record named { env = record named.env { stdio = true } }

-- ---- structs (6.7.2.1, 6.7.2.3)

abbrev pub with_structs : Judgement → List StructInfo → Judgement
with_structs j structs = record j { env = record j.env { structs = structs } }

-- the tag is declared where it is not yet (6.2.1 paragraph 7)
abbrev pub with_tag : Judgement → List ℕ → Option ℕ → Judgement
with_tag j tag (Some number) = j
with_tag j tag None = with_structs j (j.env.structs ++ tag_alone tag ∷ [])

abbrev pub known_members : Option (List Member) → List Member
known_members None = []
known_members (Some ms) = ms

abbrev pub with_body : Judgement → StructDecl → Option ℕ → List Decl → Judgement
with_body j d None ds = j
with_body j d (Some number) ds =
    let o = members [] ds j.env in
    let ms = known_members o.known in
    let read = with_outcome j o in
    with_structs (with_faults read (broken d.span (body_rules j.env.structs number ms)))
    (slice_set j.env.structs number (struct_with j.env.structs d.name ms))

abbrev pub with_members : Judgement → StructDecl → Option (List Decl) → Judgement
with_members j d None = j
with_members j d (Some ds) = with_body j d (tag_number j.env.structs d.name) ds

abbrev pub struct_judged : Judgement → StructDecl → Judgement
struct_judged j d = with_members (with_tag j d.name (tag_number j.env.structs d.name)) d d.members

-- ---- objects (6.7, 6.9.2)

abbrev pub misfits : Option InitSaid → List Fault
misfits None = []
misfits (Some i) = fault 16 i.span ∷ []

-- an `extern` object has no initialiser, whatever its type and the initialiser's
abbrev pub extern_rules : Storage → Option InitSaid → List Fault
extern_rules c i = (if is_extern c then misfits i else [])

abbrev pub pieces_in : Option (Option Fitted) → List InitPiece
pieces_in (Some (Some f)) = f.pieces
pieces_in _ = []

abbrev pub global_of : Storage → Decl → Option Ty → List InitPiece → List GlobalInfo
global_of c d None pieces = []
global_of c d (Some t) pieces =
    (if is_extern c then [] else record { name = d.name; ty = t; local = is_static c; init = pieces; span = d.span } ∷ [])

abbrev pub object_declared : Storage → Decl → Option Ty → Declared
object_declared c d t = record { name = d.name; kind = AnObject t; local = is_static c; defined = not (is_extern c) }

-- an object of the file: its type, its name, its initialiser, and then its rules
abbrev pub object_judged : FileNames → Storage → Judgement → Decl → Judgement
object_judged names c j d =
    let t = declared_type d j.env in
    let typed = with_outcome j t in
    let named = with_names typed (binds d.name (means.Object (object_place names d.name) t.known) ∷ []) in
    let i = initialised true t.known (init_of d) named.env in
    let this = object_declared c d t.known in
    let rules = rule 10 (may_stand names j.declared this) ∷ rule 19 (not (bytes_eq d.name main_name)) ∷
    object_rules j.env.structs t.known in
    let judged = with_faults (with_outcome named i) (extern_rules c (init_of d) ++ broken d.span rules) in
    record judged { declared = this ∷ j.declared; globals = j.globals ++ global_of c d t.known (pieces_in i.known) }

abbrev pub objects_judged : FileNames → Storage → Judgement → List Decl → Judgement
objects_judged names c j [] = j
objects_judged names c j (d ∷ ds) = objects_judged names c (object_judged names c j d) ds

-- ---- functions (6.9.1)

abbrev pub function_declared : Function → Option Signature → Declared
function_declared f s = record { name = f.name; kind = AFunction s; local = is_static f.storage; defined = is_there f.body }

abbrev pub function_of : Function → Option Ty → List LocalInfo → Option TStmt → List TFunction
function_of f (Some result) locals (Some body) = record {
  name = f.name;
  local = is_static f.storage;
  params = length f.params;
  result = result;
  locals = locals;
  body = body;
  span = f.span;
} ∷ []
function_of f _ locals _ = []

-- the body, whose outermost names share the scope of the parameters
abbrev pub with_function : Judgement → Function → Option Ty → Outcome (List Ty) → Option Stmt → Judgement
with_function j f result params None = j
with_function j f result params (Some s) =
    let inside = record j.env { scopes = params.names ∷ j.env.scopes; locals = length params.locals; result = result } in
    let o = (statement s).body inside in
    let judged = with_outcome j (record o { names = [] }) in
    record judged { functions = j.functions ++ function_of f result (params.locals ++ o.locals) o.known }

-- the parameters, behind the result
abbrev pub parameters_in : Judgement → Function → Outcome (List Ty)
parameters_in j f = parameters (is_there f.body) f.params (with_outcome j (result_type f j.env)).env

-- the head: its result, its parameters, and then its name; its rules belong to the whole
abbrev pub head_judged : FileNames → Judgement → Function → Judgement
head_judged names j f =
    let result = result_type f j.env in
    let params = parameters_in j f in
    let s = signature_of result.known params.known in
    let this = function_declared f s in
    let rules = head_rules f (may_stand names j.declared this) result.known in
    let headed = with_faults (with_outcome (with_outcome j result) (record params { names = [] })) (broken f.span rules) in
    let named = with_names headed (binds f.name (means.Function (function_callee names f.name) s) ∷ []) in
    record named { declared = this ∷ j.declared }

-- a function: its head, and then its body
abbrev pub function_judged : FileNames → Judgement → Function → Judgement
function_judged names j f = with_function (head_judged names j f) f (result_type f j.env).known (parameters_in j f) f.body

-- ---- all of it

abbrev pub part_judged : FileNames → Judgement → External → Judgement
part_judged names j external.Include = included j
part_judged names j (external.Struct d) = struct_judged j d
part_judged names j (external.Objects c ds) = objects_judged names c j ds
part_judged names j (external.Function f) = function_judged names j f

abbrev pub parts_judged : FileNames → Judgement → List External → Judgement
parts_judged names j [] = j
parts_judged names j (e ∷ es) = parts_judged names (part_judged names j e) es

-- what is said of a program
abbrev pub judged : Program → Judgement
judged p = parts_judged (file_names p) start p.items

-- ---- the typed program: what it defines in the order of first declarations, as the numbers in it say

abbrev pub typed_by : FileNames → Judgement → Typed
typed_by names j = record {
  structs = j.env.structs;
  globals = globals_by names.globals j.globals;
  functions = functions_by names.functions j.functions;
  externs = externs_by names.externs j.declared;
  texts = j.texts;
}
