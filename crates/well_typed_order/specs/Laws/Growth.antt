-- What is said of the parts of a file so far stays: faults, texts, declarations and structs that are complete.
use Rattle.std.proofs.Common.{◌≡◌, refl, ◌∙◌, ap, ℕ, suc, List, [], ◌∷◌, ◌++◌, map, slice_get}
use Rattle.std.proofs.Common.{Option, Some, None}
use Rattle.std.specs.Prelude.{not, leb}
use Rattle.c_ast.specs.declared.declaration.Decl.{Decl}
use Rattle.c_ast.specs.declared.declaration.Storage.{Storage}
use Rattle.c_ast.specs.declared.declaration.StructDecl.{StructDecl}
use Rattle.c_ast.specs.declared.statement.Stmt.{Stmt}
use Rattle.c_ast.specs.declared.program.Function.{Function}
use Rattle.c_ast.specs.declared.program.External.{External}
use Rattle.c_ast.specs.declared.program.External.TheVariants as external
use Rattle.c_type_base.specs.Laws.GrowthLaws.{Extends}
use Rattle.c_type_base.specs.Layout.{struct_size}
use Rattle.c_type_base.specs.Sizes.{complete_struct, largest}
use Rattle.c_type_base.specs.declared.ty.Ty.{Ty}
use Rattle.c_type_base.specs.declared.typed.StructInfo.{StructInfo}
use Rattle.c_type_expr.specs.declared.fault.Fault.{Fault}
use Rattle.c_type_expr.specs.declared.scopes.Binding.{Binding}
use Rattle.c_type_expr.specs.Environment.{tag_number}
use Rattle.c_type_expr.specs.Faults.{rule, broken}
use Rattle.c_type_expr.specs.Outcomes.{Outcome}
use Rattle.c_types.specs.declared.names.FileNames.{FileNames}
use Rattle.c_types.specs.declared.redeclared.Declared.{Declared}
use Rattle.c_types.specs.Laws.PromiseLaws.{first-kept, open-struct}
use Rattle.c_types.specs.Laws.TableLaws.{get-appended, get-set_other}
use Rattle.c_types.specs.Structs.{ty_in, members, struct_with, tag_alone, has_body, body_rules}
use Rattle.c_types.specs.Units.{Judgement, with_outcome, with_faults, with_names, included, with_tag, known_members, with_body}
use Rattle.c_types.specs.Units.{with_members}
use Rattle.c_types.specs.Units.{struct_judged, object_judged, objects_judged, with_function, parameters_in, head_judged, function_judged}
use Rattle.c_types.specs.Units.{part_judged, parts_judged}
use Rattle.c_types.specs.Functions.{result_type}
use Rattle.block_meaning.specs.ExpressionsInOrder.{Scope}
use Rattle.well_typed_order.specs.Standing.{TextsIn}
use Rattle.well_typed_order.specs.Laws.Good.{front, back, texts-front}

-- an element of a list
abbrev pub In : {A : Type 0} → List A → A → Type 0
In xs x = (k : ℕ) × (slice_get xs k ≡ Some x)

pub in-later : {A : Type 0} (y : A) (xs : List A) (x : A) → In xs x → In (y ∷ xs) x
in-later y xs x (k, is) = (suc k, is)

pub record Grows (j after : Judgement) : Type 0 where
  pub kept : after.faults ≡ [] → j.faults ≡ []
  pub texts : (s : Scope) → TextsIn s 0 after.texts → TextsIn s 0 j.texts
  pub declared : (d : Declared) → In j.declared d → In after.declared d
  pub structs : after.faults ≡ [] → Extends j.env.structs after.env.structs

pub grows-self : (j : Judgement) → Grows j j
grows-self j = record { kept = λ is. is; texts = λ s all. all; declared = λ d is. is; structs = λ is n complete. refl }

extends_then : (a b c : List StructInfo) → Extends a b → Extends b c → Extends a c
extends_then a b c first next n complete =
    let same = first n complete in next n (ap complete_struct same ∙ complete) ∙ same

pub grows-then : (a b c : Judgement) → Grows a b → Grows b c → Grows a c
grows-then a b c first next = record {
  kept = λ is. first.kept (next.kept is);
  texts = λ s all. first.texts s (next.texts s all);
  declared = λ d is. next.declared d (first.declared d is);
  structs = λ is. extends_then a.env.structs b.env.structs c.env.structs (first.structs (next.kept is)) (next.structs is);
}

pub grows-outcome : {A : Type 0} (j : Judgement) (o : Outcome A) → Grows j (with_outcome j o)
grows-outcome j o = record {
  kept = λ is. front j.faults o.faults is;
  texts = λ s all. texts-front s 0 j.texts o.texts all;
  declared = λ d is. is;
  structs = λ is n complete. refl;
}

grows_faults : (j : Judgement) (faults : List Fault) → Grows j (with_faults j faults)
grows_faults j faults = record {
  kept = λ is. front j.faults faults is;
  texts = λ s all. all;
  declared = λ d is. is;
  structs = λ is n complete. refl;
}

grows_names : (j : Judgement) (names : List Binding) → Grows j (with_names j names)
grows_names j names = let o : Outcome (Unit {0}) = record { faults = []; texts = []; locals = []; names = names; known = None } in
    grows-outcome j o

-- ---- objects

pub grows-object : (names : FileNames) (c : Storage) (j : Judgement) (d : Decl) → Grows j (object_judged names c j d)
grows-object names c j d = record {
  kept = λ is. front j.faults _ (front _ [] (front _ _ (front _ _ is)));
  texts = λ s all. texts-front s 0 j.texts _ (texts-front s 0 _ [] (texts-front s 0 _ _ all));
  declared = λ e is. in-later _ j.declared e is;
  structs = λ is n complete. refl;
}

pub grows-objects : (names : FileNames) (c : Storage) (j : Judgement) (ds : List Decl) → Grows j (objects_judged names c j ds)
grows-objects names c j [] = grows-self j
grows-objects names c j (d ∷ ds) =
    grows-then j (object_judged names c j d) (objects_judged names c j (d ∷ ds)) (grows-object names c j d)
    (grows-objects names c (object_judged names c j d) ds)

-- ---- functions

pub grows-head : (names : FileNames) (j : Judgement) (f : Function) → Grows j (head_judged names j f)
grows-head names j f = record {
  kept = λ is. front j.faults _ (front _ _ (front _ _ (front _ [] is)));
  texts = λ s all. texts-front s 0 j.texts _ (texts-front s 0 _ _ (texts-front s 0 _ [] all));
  declared = λ e is. in-later _ j.declared e is;
  structs = λ is n complete. refl;
}

pub grows-body : (j : Judgement) (f : Function) (result : Option Ty) (params : Outcome (List Ty)) (s : Option Stmt) →
    Grows j (with_function j f result params s)
grows-body j f result params None = grows-self j
grows-body j f result params (Some st) = record {
  kept = λ is. front j.faults _ is;
  texts = λ s all. texts-front s 0 j.texts _ all;
  declared = λ e is. is;
  structs = λ is n complete. refl;
}

pub grows-function : (names : FileNames) (j : Judgement) (f : Function) → Grows j (function_judged names j f)
grows-function names j f =
    grows-then j (head_judged names j f) (function_judged names j f) (grows-head names j f)
    (grows-body (head_judged names j f) f (result_type f j.env).known (parameters_in j f) f.body)

-- ---- structs

grows_tag : (j : Judgement) (tag : List ℕ) (o : Option ℕ) → Grows j (with_tag j tag o)
grows_tag j tag (Some number) = grows-self j
grows_tag j tag None = record {
  kept = λ is. is;
  texts = λ s all. all;
  declared = λ d is. is;
  structs = λ is. get-appended j.env.structs (tag_alone tag);
}

grows_body : (j : Judgement) (d : StructDecl) (o : Option ℕ) (ds : List Decl) → Grows j (with_body j d o ds)
grows_body j d None ds = grows-self j
grows_body j d (Some number) ds = record {
  kept = λ is. front j.faults _ (front _ _ is);
  texts = λ s all. texts-front s 0 j.texts _ all;
  declared = λ d is. is;
  structs = λ is.
      let o = members [] ds j.env in
      let ms = known_members o.known in
      let own : broken d.span (body_rules j.env.structs number ms) ≡ [] = back (j.faults ++ o.faults) _ is in
      let fits = rule 17 (leb (struct_size j.env.structs (map ty_in ms)) largest) ∷ [] in
      get-set_other j.env.structs number (struct_with j.env.structs d.name ms)
      (open-struct (slice_get j.env.structs number)
      (first-kept d.span 10 (not (has_body (slice_get j.env.structs number))) fits own));
}

grows_members : (j : Judgement) (d : StructDecl) (ds : Option (List Decl)) → Grows j (with_members j d ds)
grows_members j d None = grows-self j
grows_members j d (Some ds) = grows_body j d (tag_number j.env.structs d.name) ds

pub grows-struct : (j : Judgement) (d : StructDecl) → Grows j (struct_judged j d)
grows-struct j d =
    let o = tag_number j.env.structs d.name in
    grows-then j (with_tag j d.name o) (struct_judged j d) (grows_tag j d.name o) (grows_members (with_tag j d.name o) d d.members)

-- ---- all of them

grows_included : (j : Judgement) → Grows j (included j)
grows_included j = record {
  kept = λ is. front j.faults [] is;
  texts = λ s all. texts-front s 0 j.texts [] all;
  declared = λ d is. is;
  structs = λ is n complete. refl;
}

pub grows-part : (names : FileNames) (j : Judgement) (e : External) → Grows j (part_judged names j e)
grows-part names j external.Include = grows_included j
grows-part names j (external.Struct d) = grows-struct j d
grows-part names j (external.Objects c ds) = grows-objects names c j ds
grows-part names j (external.Function f) = grows-function names j f

pub grows-parts : (names : FileNames) (j : Judgement) (es : List External) → Grows j (parts_judged names j es)
grows-parts names j [] = grows-self j
grows-parts names j (e ∷ es) = grows-then j (part_judged names j e) (parts_judged names j (e ∷ es)) (grows-part names j e)
    (grows-parts names (part_judged names j e) es)
