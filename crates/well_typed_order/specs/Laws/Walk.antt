-- The walk over a file that breaks no rule, part by part.
use Rattle.std.proofs.Common.{◌⊎◌, inl, inr, ◌≡◌, refl, sym, ◌∙◌, ap, subst, ℕ, zero, suc, ◌+◌, ◌≤◌, arith, Bool, true, false, ◌&&◌, ◌||◌}
use Rattle.std.proofs.Common.{List, [], ◌∷◌, ◌++◌, map, length, Option, Some, None}
use Rattle.std.specs.Prelude.{not, leb, take, if◌then◌else◌}
use Rattle.std.specs.Str.{bytes_eq}
use Rattle.std.specs.List.{AllByRecursion}
use Rattle.std.proofs.lemmas.Bool.{leb-true}
use Rattle.std.proofs.lemmas.Option.{same_Some}
use Rattle.c_ast.specs.declared.declaration.Decl.{Decl}
use Rattle.c_ast.specs.declared.declaration.Storage.{Storage}
use Rattle.c_ast.specs.declared.program.Function.{Function}
use Rattle.c_ast.specs.declared.program.External.{External}
use Rattle.c_ast.specs.declared.program.External.TheVariants as external
use Rattle.c_ast.specs.declared.statement.Stmt.{Stmt}
use Rattle.c_type_base.specs.Types.{is_void, is_scalar, is_there}
use Rattle.c_type_base.specs.declared.ty.Ty.{Ty}
use Rattle.c_type_base.specs.declared.statement.TStmt.{TStmt}
use Rattle.c_type_base.specs.declared.typed.GlobalInfo.{GlobalInfo}
use Rattle.c_type_base.specs.declared.typed.InitPiece.{InitPiece}
use Rattle.c_type_base.specs.declared.typed.LocalInfo.{LocalInfo}
use Rattle.c_type_base.specs.declared.typed.TFunction.{TFunction}
use Rattle.c_type_expr.specs.Outcomes.{Outcome}
use Rattle.c_type_stmt.specs.Declarations.{declared_type}
use Rattle.c_type_stmt.specs.Statements.{statement}
use Rattle.c_types.specs.declared.names.FileNames.{FileNames}
use Rattle.c_types.specs.declared.redeclared.Declared.{Declared}
use Rattle.c_types.specs.declared.redeclared.Kind.{Kind}
use Rattle.c_types.specs.declared.redeclared.Kind.TheVariants.{AnObject, AFunction}
use Rattle.c_types.specs.Files.{is_static, is_extern}
use Rattle.c_type_expr.specs.declared.fault.Fault.{Fault}
use Rattle.c_type_expr.specs.Faults.{broken}
use Rattle.c_types.specs.Redeclarations.{may_stand}
use Rattle.c_types.specs.Functions.{head_rules, signature_of, main_form, main_name, is_int_in, result_type}
use Rattle.c_types.specs.Laws.PromiseLaws.{front, back}
use Rattle.c_types.specs.Units.{Judgement, pieces_in, global_of, object_declared, object_judged, objects_judged}
use Rattle.c_types.specs.Units.{function_declared, function_of, with_function, parameters_in, head_judged, function_judged, part_judged}
use Rattle.c_types.specs.Units.{parts_judged}
use Rattle.block_meaning.specs.ExpressionsInOrder.{Scope}
use Rattle.block_meaning.specs.Linkage.{parameter_types, type_of_local}
use Rattle.block_meaning.specs.Running.{Program}
use Rattle.well_typed_order.specs.Bodied.{BlockIfThere, PartBodied}
use Rattle.well_typed_order.specs.Standing.{There}
use Rattle.well_typed_order.specs.Laws.Bodies.{function_with, env_of_body, function-in-order, body-known}
use Rattle.well_typed_order.specs.Laws.Good.{texts-front}
use Rattle.well_typed_order.specs.Laws.Growth.{In, in-later, grows-objects}
use Rattle.well_typed_order.specs.Laws.Growth.{grows-body, grows-parts}
use Rattle.well_typed_order.specs.Laws.Heads.{HeadFine, head-fine, parameters-in, with_parameters}
use Rattle.well_typed_order.specs.Laws.FirstBytes.{PieceIn}
use Rattle.well_typed_order.specs.Laws.Judged.{At, at-outcome, at-texts}
use Rattle.well_typed_order.specs.Laws.Objects.{object-fine, object_begun}
use Rattle.well_typed_order.specs.Laws.Scopes.{outside}
use Rattle.well_typed_order.specs.Laws.StatementRows.{Any}
use Rattle.well_typed_order.specs.Laws.Statements.{BodyFine, body-fine}
use Rattle.well_typed_order.specs.Laws.Unary.{complete-object}
use Rattle.well_typed_order.specs.Laws.Walked.{Sound, sound-before, KindFine, GlobalFine, FunctionFine, Left, Walked, FinalObjects}
use Rattle.well_typed_order.specs.Laws.Walked.{walked-struct, walked-included}

-- ---- lists

pub in-front : {A : Type 0} (xs ys : List A) (x : A) → In xs x → In (xs ++ ys) x
in-front [] ys x (k, is) = absurd cc
in-front (y ∷ xs) ys x (zero, is) = (zero, is)
in-front (y ∷ xs) ys x (suc k, is) = let found = in-front xs ys x (k, is) in (suc found.0, found.1)

pub in-back : {A : Type 0} (xs ys : List A) (x : A) → In ys x → In (xs ++ ys) x
in-back [] ys x has = has
in-back (y ∷ xs) ys x has = let found = in-back xs ys x has in (suc found.0, found.1)

later : {A : Type 0} (y : A) (xs ys : List A) (x : A) → (In xs x) ⊎ (In ys x) → (In (y ∷ xs) x) ⊎ (In ys x)
later y xs ys x (inl has) = inl (suc has.0, has.1)
later y xs ys x (inr has) = inr has

pub in-split : {A : Type 0} (xs ys : List A) (x : A) → In (xs ++ ys) x → (In xs x) ⊎ (In ys x)
in-split [] ys x has = inr has
in-split (y ∷ xs) ys x (zero, is) = inl (zero, is)
in-split (y ∷ xs) ys x (suc k, is) = later y xs ys x (in-split xs ys x (k, is))

pub in-one : {A : Type 0} (y x : A) → In (y ∷ []) x → y ≡ x
in-one y x (zero, is) = same_Some y x is
in-one y x (suc k, is) = absurd cc

module _ (program : Program) (unit : ℕ) (names : FileNames) where
  -- the rules that the head of a function breaks
  abbrev head_faults : Judgement → Function → List Fault
  head_faults j f = broken f.span (head_rules f (may_stand names j.declared
      (function_declared f (signature_of (result_type f j.env).known (parameters_in j f).known))) (result_type f j.env).known)

  abbrev here : Scope
  here = outside program unit

  -- ---- what was there before stays

  global_later : (d : Declared) (ds : List Declared) (g : GlobalInfo) → GlobalFine here ds g → GlobalFine here (d ∷ ds) g
  global_later d ds g fine = record {
    by = fine.by;
    declared = in-later d ds fine.by fine.declared;
    name_is = fine.name_is;
    kind_is = fine.kind_is;
    pieces = fine.pieces;
  }

  function_later : (d : Declared) (ds : List Declared) (f : TFunction) → FunctionFine program unit ds f →
      FunctionFine program unit (d ∷ ds) f
  function_later d ds f fine = record {
    by = fine.by;
    declared = in-later d ds fine.by fine.declared;
    name_is = fine.name_is;
    kind_is = fine.kind_is;
    in_order = fine.in_order;
    main = fine.main;
  }

  kinds_more : (d : Declared) (ds : List Declared) → KindFine d.kind → ((e : Declared) → In ds e → KindFine e.kind) → (e : Declared) →
      In (d ∷ ds) e → KindFine e.kind
  kinds_more d ds fine rest e (zero, is) = subst (λ (e : Declared). KindFine e.kind) (same_Some d e is) fine
  kinds_more d ds fine rest e (suc k, is) = rest e (k, is)

  -- ---- objects

  kind_of : (t : Ty) (o : Option Ty) → o ≡ Some t → is_void t ≡ false → KindFine (AnObject o)
  kind_of t None is object = absurd cc
  kind_of t (Some u) is object = subst (λ t. is_void t ≡ false) (sym (same_Some u t is)) object

  global_new : (c : Storage) (d : Decl) (o : Option Ty) (ps : List InitPiece) (ds : List Declared) → AllByRecursion (PieceIn here) ps →
      (g : GlobalInfo) → In (global_of c d o ps) g → GlobalFine here (object_declared c d o ∷ ds) g
  global_new c d None ps ds pieces g (k, is) = absurd cc
  global_new c d (Some t) ps ds pieces g has = by_storage (is_extern c) has
    where
      by_storage : (b : Bool) → In (if b then [] else record { name = d.name; ty = t; local = is_static c; init = ps; span = d.span } ∷ [])
          g → GlobalFine here (object_declared c d (Some t) ∷ ds) g
      by_storage true (k, is) = absurd cc
      by_storage false has = subst (λ g. GlobalFine here (object_declared c d (Some t) ∷ ds) g)
          (in-one (record { name = d.name; ty = t; local = is_static c; init = ps; span = d.span }) g has) (record {
            by = object_declared c d (Some t);
            declared = (zero, refl);
            name_is = refl;
            kind_is = refl;
            pieces = pieces;
          })

  object_left : (j : List GlobalInfo) (c : Storage) (d : Decl) (t : Ty) (o : Option Ty) (ps : List InitPiece) → o ≡ Some t →
      not (is_extern c) ≡ true → (g : GlobalInfo) × In (j ++ global_of c d o ps) g × (g.name ≡ d.name)
  object_left j c d t None ps is defines = absurd cc
  object_left j c d t (Some u) ps is defines = by_storage (is_extern c) defines
    where
      by_storage : (b : Bool) → not b ≡ true → (g : GlobalInfo) × In (j ++ (if b then [] else
          record { name = d.name; ty = u; local = is_static c; init = ps; span = d.span } ∷ [])) g × (g.name ≡ d.name)
      by_storage true defines = absurd cc
      by_storage false defines =
          let g : GlobalInfo = record { name = d.name; ty = u; local = is_static c; init = ps; span = d.span } in
          (g, in-back j (g ∷ []) g (zero, refl), refl)

  left_more : (ds : List Declared) (e d : Declared) (globals more : List GlobalInfo) (functions other : List TFunction) →
      (j after : Judgement) → after.globals ≡ j.globals ++ more → after.functions ≡ j.functions ++ other →
      Left j d.kind d.name → Left after d.kind d.name
  left_more ds e d globals more functions other j after gs fs left = by_kind d.kind left
    where
      by_kind : (k : Kind) → Left j k d.name → Left after k d.name
      by_kind (AnObject t) (g, has, named) = (g, subst (λ gs. In gs g) (sym gs) (in-front j.globals more g has), named)
      by_kind (AFunction sig) (f, has, named) = (f, subst (λ fs. In fs f) (sym fs) (in-front j.functions other f has), named)

  all_empty : {A : Type 0} (xs : List A) → xs ≡ xs ++ []
  all_empty [] = refl
  all_empty (x ∷ xs) = ap (λ l. x ∷ l) (all_empty xs)

  object_walked : (c : Storage) (j : Judgement) (d : Decl) → Sound here names (object_judged names c j d) → Walked program unit j →
      Walked program unit (object_judged names c j d)
  object_walked c j d sound walked =
      let o = (declared_type d j.env).known in
      let this = object_declared c d o in
      let after = object_judged names c j d in
      let fine = object-fine here names c j d walked.at sound.kept sound.texts
      (λ t is complete. sound.tables.object this t (zero, refl) (ap AnObject is) (complete-object j.env.structs t complete)) in
      let ps = pieces_in (object_begun names j d o).known in
      record {
        at = record { env = fine.at.env; texts_are = fine.at.texts_are };
        ready = walked.ready;
        kinds = kinds_more this j.declared (kind_of fine.ty o fine.known (complete-object j.env.structs fine.ty fine.complete))
            walked.kinds;
        globals = λ g has. either_global this j.declared j.globals (global_of c d o ps) (walked.globals)
            (global_new c d o ps j.declared fine.pieces) g (in-split j.globals (global_of c d o ps) g has);
        functions = λ f has. function_later this j.declared f (walked.functions f has);
        left = object_left_all c d o ps fine.ty fine.known j after refl (sym (sym (all_empty j.functions))) walked.left;
      }
    where
      either_global : (this : Declared) (ds : List Declared) (gs more : List GlobalInfo) →
          ((g : GlobalInfo) → In gs g → GlobalFine here ds g) → ((g : GlobalInfo) → In more g → GlobalFine here (this ∷ ds) g) →
          (g : GlobalInfo) → (In gs g) ⊎ (In more g) → GlobalFine here (this ∷ ds) g
      either_global this ds gs more old new g (inl has) = global_later this ds g (old g has)
      either_global this ds gs more old new g (inr has) = new g has

      object_left_all : (c : Storage) (d : Decl) (o : Option Ty) (ps : List InitPiece) (t : Ty) → o ≡ Some t → (j after : Judgement) →
          after.globals ≡ j.globals ++ global_of c d o ps → after.functions ≡ j.functions ++ [] →
          ((e : Declared) → In j.declared e → e.defined ≡ true → Left j e.kind e.name) → (e : Declared) →
          In (object_declared c d o ∷ j.declared) e → e.defined ≡ true → Left after e.kind e.name
      object_left_all c d o ps t is j after gs fs old e (zero, same) defines =
          let this = object_declared c d o in
          let eq : this ≡ e = same_Some this e same in
          subst (λ (e : Declared). e.defined ≡ true → Left after e.kind e.name) eq (λ defines.
          subst (λ gs. (g : GlobalInfo) × In gs g × (g.name ≡ d.name)) (sym gs) (object_left j.globals c d t o ps is defines)) defines
      object_left_all c d o ps t is j after gs fs old e (suc k, same) defines =
          left_more j.declared e e j.globals (global_of c d o ps) j.functions [] j after gs fs (old e (k, same) defines)

  objects_walked : (c : Storage) (j : Judgement) (ds : List Decl) → Sound here names (objects_judged names c j ds) →
      Walked program unit j → Walked program unit (objects_judged names c j ds)
  objects_walked c j [] sound walked = walked
  objects_walked c j (d ∷ ds) sound walked =
      let next = object_judged names c j d in
      objects_walked c next ds sound
      (object_walked c j d (sound-before here names next (objects_judged names c next ds) (grows-objects names c next ds) sound) walked)

  -- ---- functions

  kind_sig : (r : Ty) (ts : List Ty) (o : Option Ty) (os : Option (List Ty)) → o ≡ Some r → os ≡ Some ts →
      (is_void r || is_scalar r) ≡ true → KindFine (AFunction (signature_of o os))
  kind_sig r ts None os is its gives = absurd cc
  kind_sig r ts (Some u) None is its gives = absurd cc
  kind_sig r ts (Some u) (Some us) is its gives = subst (λ t. (is_void t || is_scalar t) ≡ true) (sym (same_Some u r is)) gives

  sig_is : (r : Ty) (ts : List Ty) (o : Option Ty) (os : Option (List Ty)) → o ≡ Some r → os ≡ Some ts →
      signature_of o os ≡ Some (record { result = r; params = ts })
  sig_is r ts o os is its = ap (λ o. signature_of o os) is ∙ ap (λ os. signature_of (Some r) os) its

  head_walked : (j : Judgement) (f : Function) → Sound here names (head_judged names j f) → Walked program unit j →
      HeadFine here names j f (result_type f j.env).known (parameters_in j f).known
  head_walked j f sound walked =
      let this = function_declared f (signature_of (result_type f j.env).known (parameters_in j f).known) in
      head-fine program unit names j f walked.at sound.kept sound.texts
      (λ sig is gives. sound.tables.function this sig (zero, refl) (ap AFunction is) gives)

  leb_zero : (n : ℕ) → leb n 0 ≡ true → n ≡ 0
  leb_zero n is = let less : n ≤ 0 = leb-true n 0 is in omega (arith, less)

  main_count : (f : Function) (r : Option Ty) → main_form f r ≡ true → bytes_eq f.name main_name ≡ true → length f.params ≡ 0
  main_count f r form is = by_name (bytes_eq f.name main_name) is form
    where
      middle : (a b c : Bool) → (a && b && c) ≡ true → b ≡ true
      middle true true c is = refl
      middle true false c is = absurd cc
      middle false b c is = absurd cc

      by_name : (b : Bool) → b ≡ true →
          (if b then is_int_in r && leb (length f.params) 0 && not (is_static f.storage) else true) ≡ true → length f.params ≡ 0
      by_name true is form = leb_zero (length f.params)
          (middle (is_int_in r) (leb (length f.params) 0) (not (is_static f.storage)) form)
      by_name false is form = absurd cc

  take_front : (n : ℕ) (xs ys : List LocalInfo) → length xs ≡ n → take n (xs ++ ys) ≡ xs
  take_front zero [] ys is = refl
  take_front zero (x ∷ xs) ys is = absurd (omega (arith, is))
  take_front (suc n) [] ys is = absurd (omega (arith, is))
  take_front (suc n) (x ∷ xs) ys is = ap (λ l. x ∷ l) (take_front n xs ys (omega (arith, is)))

  -- what a function leaves, by its body
  module _ (j : Judgement) (f : Function) (walked : Walked program unit j) where
    abbrev params : Outcome (List Ty)
    params = parameters_in j f

    abbrev head : Judgement
    head = head_judged names j f

    abbrev this : Declared
    this = function_declared f (signature_of (result_type f j.env).known params.known)

    old_left : (after : Judgement) (fs : List TFunction) → after.globals ≡ j.globals → after.functions ≡ j.functions ++ fs →
        (e : Declared) →
        In j.declared e → e.defined ≡ true → Left after e.kind e.name
    old_left after fs gs same e has defines =
        left_more j.declared e e j.globals [] j.functions fs j after (gs ∙ all_empty j.globals) same (walked.left e has defines)

    no_body : (b : Option Stmt) → f.body ≡ b → b ≡ None → Sound here names head →
        HeadFine here names j f (result_type f j.env).known params.known → Walked program unit head
    no_body b same none sound fine = record {
      at = record { env = fine.at.env; texts_are = fine.at.texts_are };
      ready = walked.ready;
      kinds = kinds_more this j.declared
          (kind_sig fine.result fine.types (result_type f j.env).known params.known fine.result_is fine.types_are fine.gives) walked.kinds;
      globals = λ g has. global_later this j.declared g (walked.globals g has);
      functions = λ g has. function_later this j.declared g (walked.functions g has);
      left = nothing_left (is_there f.body) refl;
    }
      where
        not_there : is_there f.body ≡ true → ⊥
        not_there is = let no : false ≡ true = ap is_there (sym (same ∙ none)) ∙ is in absurd cc

        nothing_left : (d : Bool) → is_there f.body ≡ d → (e : Declared) → In (this ∷ j.declared) e → e.defined ≡ true →
            Left head e.kind e.name
        nothing_left d is e (zero, eq) defines =
            absurd (not_there (ap (λ (e : Declared). e.defined) (same_Some this e eq) ∙ defines))
        nothing_left d is e (suc k, eq) defines = old_left head [] refl (all_empty j.functions) e (k, eq) defines

    module _ (body : Stmt) (fine : HeadFine here names j f (result_type f j.env).known params.known) (block : BodyFine (statement
        body).body)
      where
        abbrev after : Option Ty → Judgement
        after r = with_function head f r params (Some body)

        made_by : Ty → List LocalInfo → TStmt → TFunction
        made_by r more t = function_with f r (params.locals ++ more) t

        kind_made : (r : Ty) (more : List LocalInfo) (t : TStmt) → (result_type f j.env).known ≡ Some r →
            this.kind ≡ AFunction (Some (record { result = r; params = parameter_types (function_with f r (params.locals ++ more) t) }))
        kind_made r more t is =
            let types : fine.types ≡ map type_of_local (take (length f.params) (params.locals ++ more)) =
            fine.of_locals ∙ ap (map type_of_local) (sym (take_front (length f.params) params.locals more fine.count)) in
            ap AFunction (sig_is r fine.types (result_type f j.env).known params.known is fine.types_are
            ∙ ap (λ ts. Some (record { result = r; params = ts })) types)

        with_tree : (r : Ty) → (result_type f j.env).known ≡ Some r → Sound here names (after (Some r)) → At here head →
            let o = (statement body).body (env_of_body head params (Some r)) in
            (k : Option TStmt) → o.known ≡ k → There o.known Any →
            (g : TFunction) → In (function_of f (Some r) (params.locals ++ o.locals) k) g →
            FunctionFine program unit (this ∷ j.declared) g
        with_tree r is sound at None same there g (n, has) = absurd cc
        with_tree r is sound at (Some t) same there g has =
            let o = (statement body).body (env_of_body head params (Some r)) in
            let made = function_with f r (params.locals ++ o.locals) t in
            let head_kept = front head.faults o.faults sound.kept in
            let head_texts = texts-front here 0 head.texts o.texts sound.texts in
            let w = with_parameters j f in
            let rules = head_faults j f in
            let kept = front w.faults rules (front (w.faults ++ rules) [] head_kept) in
            let texts = texts-front here 0 w.texts [] head_texts in
            let one : fine.result ≡ r = same_Some fine.result r (sym fine.result_is ∙ is) in
            subst (λ g. FunctionFine program unit (this ∷ j.declared) g) (in-one made g has) (record {
              by = this;
              declared = (zero, refl);
              name_is = refl;
              kind_is = kind_made r o.locals t is;
              in_order = function-in-order program unit head f params r at
                  (λ g ks below locals. parameters-in program unit names j f walked.at g ks below locals kept texts)
                  fine.count (statement body).body block (back head.faults o.faults sound.kept)
                  (at-texts here head (record o { names = [] }) at sound.texts)
                  (subst (λ r. (is_void r || is_scalar r) ≡ true) one fine.gives) t same;
              main = λ named. main_count f _ fine.main named;
            })

        tree_there : (r : Ty) → (result_type f j.env).known ≡ Some r → Sound here names (after (Some r)) → At here head →
            There ((statement body).body (env_of_body head params (Some r))).known Any
        tree_there r is sound at =
            let o = (statement body).body (env_of_body head params (Some r)) in
            let head_kept = front head.faults o.faults sound.kept in
            let head_texts = texts-front here 0 head.texts o.texts sound.texts in
            let w = with_parameters j f in
            let rules = head_faults j f in
            let kept = front w.faults rules (front (w.faults ++ rules) [] head_kept) in
            let texts = texts-front here 0 w.texts [] head_texts in
            body-known program unit head f params r at
            (λ g ks below locals. parameters-in program unit names j f walked.at g ks below locals kept texts)
            fine.count (statement body).body block (back head.faults o.faults sound.kept)
            (at-texts here head (record o { names = [] }) at sound.texts)

        -- it has left its function
        left_made : (r : Ty) (more : List LocalInfo) (k : Option TStmt) → There k Any → (gs : List TFunction) →
            (g : TFunction) × In (gs ++ function_of f (Some r) (params.locals ++ more) k) g × (g.name ≡ f.name)
        left_made r more None there gs = absurd there
        left_made r more (Some t) there gs =
            let made = function_with f r (params.locals ++ more) t in
            (made, in-back gs (made ∷ []) made (zero, refl), refl)

        either_function : (more : List TFunction) → ((g : TFunction) → In more g → FunctionFine program unit (this ∷ j.declared) g) →
            (g : TFunction) → (In j.functions g) ⊎ (In more g) → FunctionFine program unit (this ∷ j.declared) g
        either_function more new g (inl has) = function_later this j.declared g (walked.functions g has)
        either_function more new g (inr has) = new g has

        some_body : (o : Option Ty) (r : Ty) → (result_type f j.env).known ≡ o → o ≡ Some r → Sound here names (after o) →
            Walked program unit (after o)
        some_body None r same is sound = absurd cc
        some_body (Some u) r same is sound =
            let at : At here head = record { env = fine.at.env; texts_are = fine.at.texts_are } in
            let o = (statement body).body (env_of_body head params (Some u)) in
            let more = function_of f (Some u) (params.locals ++ o.locals) o.known in
            let at_body = at-outcome here head (record o { names = [] }) tt at in
            let there = tree_there u same sound at in
            record {
              at = record { env = at_body.env; texts_are = at_body.texts_are };
              ready = walked.ready;
              kinds = kinds_more this j.declared
                  (kind_sig fine.result fine.types (result_type f j.env).known params.known fine.result_is fine.types_are fine.gives)
                  walked.kinds;
              globals = λ g has. global_later this j.declared g (walked.globals g has);
              functions = λ g has. either_function more (with_tree u same sound at o.known refl there) g
                  (in-split j.functions more g has);
              left = body_left u (left_made u o.locals o.known there j.functions);
            }
          where
            body_left : (u : Ty) → (let o = (statement body).body (env_of_body head params (Some u)) in
                (g : TFunction) × In (j.functions ++ function_of f (Some u) (params.locals ++ o.locals) o.known) g × (g.name ≡ f.name)) →
                (e : Declared) → In (this ∷ j.declared) e → e.defined ≡ true → Left (after (Some u)) e.kind e.name
            body_left u made e (zero, eq) defines =
                subst (λ (e : Declared). Left (after (Some u)) e.kind e.name) (same_Some this e eq) made
            body_left u made e (suc k, eq) defines =
                let o = (statement body).body (env_of_body head params (Some u)) in
                old_left (after (Some u)) (function_of f (Some u) (params.locals ++ o.locals) o.known) refl refl e (k, eq) defines

  by_body : (j : Judgement) (f : Function) (b : Option Stmt) → f.body ≡ b → BlockIfThere b → Walked program unit j →
      HeadFine here names j f (result_type f j.env).known (parameters_in j f).known →
      Sound here names (with_function (head_judged names j f) f (result_type f j.env).known (parameters_in j f) b) →
      Walked program unit (with_function (head_judged names j f) f (result_type f j.env).known (parameters_in j f) b)
  by_body j f None same block walked fine sound = no_body j f walked None same refl sound fine
  by_body j f (Some body) same block walked fine sound =
      some_body j f walked body fine (subst (λ s. BodyFine (statement s).body) (sym block.is) (body-fine block.items))
      (result_type f j.env).known fine.result refl fine.result_is sound

  function_walked : (j : Judgement) (f : Function) → BlockIfThere f.body → Sound here names (function_judged names j f) →
      Walked program unit j → Walked program unit (function_judged names j f)
  function_walked j f block sound walked =
      let head = head_judged names j f in
      let before = sound-before here names head (function_judged names j f)
      (grows-body head f (result_type f j.env).known (parameters_in j f) f.body) sound in
      by_body j f f.body refl block walked (head_walked j f before walked) sound

  -- ---- all of it

  part_walked : (j : Judgement) (e : External) → PartBodied e → FinalObjects here → Sound here names (part_judged names j e) →
      Walked program unit j → Walked program unit (part_judged names j e)
  part_walked j external.Include bodied objects sound walked = walked-included program unit j walked
  part_walked j (external.Struct d) bodied objects sound walked = walked-struct program unit names j d objects sound walked
  part_walked j (external.Objects c ds) bodied objects sound walked = objects_walked c j ds sound walked
  part_walked j (external.Function f) bodied objects sound walked = function_walked j f bodied sound walked

  -- where all parts keep all rules
  pub parts-walked : (j : Judgement) (es : List External) → AllByRecursion PartBodied es → FinalObjects here →
      Sound here names (parts_judged names j es) → Walked program unit j → Walked program unit (parts_judged names j es)
  parts-walked j [] bodied objects sound walked = walked
  parts-walked j (e ∷ es) bodied objects sound walked =
      let next = part_judged names j e in
      parts-walked next es bodied.1 objects sound
      (part_walked j e bodied.0 objects (sound-before here names next (parts_judged names next es) (grows-parts names next es) sound)
      walked)
