-- Declarations of locals that keep all rules are in order.
use Rattle.std.proofs.Common.{◌≡◌, refl, sym, ap, subst, ℕ, ◌+◌, arith, Bool, true, false, List, [], ◌∷◌, ◌++◌, slice_get}
use Rattle.std.proofs.Common.{Option, Some, None}
use Rattle.std.specs.Prelude.{IfSome, if◌then◌else◌, leb}
use Rattle.std.specs.List.{Contains}
use Rattle.std.proofs.lemmas.Option.{same_Some}
use Rattle.c_ast.specs.declared.token.Span.{Span}
use Rattle.c_ast.specs.declared.declaration.Decl.{Decl}
use Rattle.c_ast.specs.declared.declaration.Init.{Init}
use Rattle.c_type_base.specs.Laws.Opened.{given_typed}
use Rattle.c_type_base.specs.Sizes.{size, is_complete, largest}
use Rattle.c_type_base.specs.declared.ty.Ty.{Ty}
use Rattle.c_type_base.specs.declared.statement.TDecl.{TDecl}
use Rattle.c_type_base.specs.declared.statement.TInit.{out-TInit}
use Rattle.c_type_base.specs.declared.typed.LocalInfo.{LocalInfo}
use Rattle.c_type_base.specs.declared.typed.StructInfo.{StructInfo}
use Rattle.c_type_expr.specs.declared.scopes.Meaning.{Meaning}
use Rattle.c_type_expr.specs.declared.scopes.Place.TheVariants as place
use Rattle.c_type_expr.specs.Environment.{Env}
use Rattle.c_type_expr.specs.Expressions.{written}
use Rattle.c_type_expr.specs.Faults.{rule}
use Rattle.c_type_expr.specs.Outcomes.{Judged, behind, joined, sure, option_map}
use Rattle.c_type_stmt.specs.declared.fitted.Fitted.{Fitted}
use Rattle.c_type_stmt.specs.Declarations.{init_of, object_type, declared_type, object_rules, fits_object, initialised, is_new}
use Rattle.c_type_stmt.specs.Declarations.{declares_local, tdecl, local}
use Rattle.c_type_stmt.specs.Initials.{initialiser, tree_of}
use Rattle.block_meaning.specs.ExpressionsInOrder as order
use Rattle.block_meaning.specs.ExpressionsInOrder.{Scope}
use Rattle.block_meaning.specs.Statements.{local_of}
use Rattle.block_meaning.specs.StatementsInOrder.{Initialises, DeclarationInOrder}
use Rattle.well_typed_order.specs.Standing.{MeansIn, ObjectIn, GoodIf, Good, Silent, There, Names, Stands, Holds, Part}
use Rattle.well_typed_order.specs.Laws.Binary.{kept-first, kept-rest}
use Rattle.well_typed_order.specs.Laws.Expressions.{written-good}
use Rattle.well_typed_order.specs.Laws.Good.{good-on, good-sure, silent-on, none-is}
use Rattle.well_typed_order.specs.Laws.FirstBytes.{FitsIn}
use Rattle.well_typed_order.specs.Laws.Initials.{initialiser-good}
use Rattle.well_typed_order.specs.Laws.Parts.{Split, Perhaps, stands-behind, first-adds, second-adds}
use Rattle.well_typed_order.specs.Laws.Parts.{first-names, second-names, first-kept, second-kept, no-names, names-both}
use Rattle.well_typed_order.specs.Laws.Scopes.{HeldIn, Bounds, contains-here}
use Rattle.well_typed_order.specs.Laws.Unary.{complete-object, each-kept}

-- what follows the type of a declaration
abbrev pub typed_local : Decl → Option Ty → Judged TDecl
typed_local d t here =
    let b = declares_local d.name d.span (rule 10 (is_new here d.name) ∷ object_rules here.structs t) t here in
    let i = initialised false t (init_of d) (behind b here) in
    joined b i (tdecl here.locals d.span b.known i.known)

module _ (s : Scope) where
  -- ---- the type

  pub declared-good : (d : Decl) → Good s (λ (t : Ty). Unit {0}) (declared_type d)
  declared-good d = good-on (written d.ty d.span) (λ w. sure (object_type (init_of d) w)) (written-good s d.ty d.span) (λ w env. refl)
      (λ w known. good-sure (object_type (init_of d) w) tt)

  -- ---- the initialiser

  abbrev Whole : Ty → List StructInfo → Type 0
  Whole t structs = is_complete structs t ≡ true

  begun_good : (b : Bool) (t : Ty) (o : Option Init) →
      GoodIf (Whole t) s (Perhaps (FitsIn s t)) (initialised b (Some t) (option_map initialiser o))
  begun_good b t None = good-sure None tt
  begun_good b t (Some i) = good-on ((initialiser i).fitted b t) (λ f. sure (Some f)) ((initialiser-good s i).fits b t) (λ f env. refl)
      (λ f known. good-sure (Some f) known)

  pub initialised-good : (b : Bool) (d : Decl) (t : Ty) →
      GoodIf (Whole t) s (Perhaps (FitsIn s t)) (initialised b (Some t) (init_of d))
  initialised-good b d t = begun_good b t d.init

  begun_silent : (b : Bool) (o : Option Init) → Silent (initialised b None (option_map initialiser o))
  begun_silent b None = λ env. refl
  begun_silent b (Some i) = silent-on (fits_object b None (initialiser i)) (λ f. sure (Some f))
      (silent-on (initialiser i).loose _ (initialiser-good s i).loose.silent (λ x env. refl)) (λ f env. refl)

  pub initialised-silent : (b : Bool) (d : Decl) (t : Option Ty) → Silent (initialised b t (init_of d))
  initialised-silent b d None = begun_silent b d.init
  initialised-silent b d (Some t) = (initialised-good b d t).silent

  -- ---- a declaration

  init_there : (t : Ty) (o : Option Fitted) → Perhaps (FitsIn s t) o →
      IfSome (option_map tree_of o) (λ i. Initialises s t (out-TInit i))
  init_there t None fits = tt
  init_there t (Some f) fits = fits.tree

  decl_there : (t : Ty) (name : List ℕ) (span at : Span) (local : ℕ) → Contains s.locals local →
      slice_get s.function.locals local ≡ Some (record { name = name; ty = t; span = at }) → (o : Option (Option Fitted)) →
      There o (Perhaps (FitsIn s t)) → There (tdecl local span (Some t) o) (DeclarationInOrder s)
  decl_there t name span at local contains is None fits = fits
  decl_there t name span at local contains is (Some init) fits = record {
    info = record { name = name; ty = t; span = at };
    info_is = is;
    in_scope = contains;
    init = init_there t init fits;
  }

  pub object-there : (t : Ty) (k : ℕ) (name : List ℕ) (span : Span) → Contains s.locals k →
      slice_get s.function.locals k ≡ Some (record { name = name; ty = t; span = span }) → (structs : List StructInfo) →
      is_complete structs t ≡ true → ObjectIn s (place.Local k) t
  unfolding given_typed
  object-there t k name span contains is structs complete =
      record { designates = order.local contains is; object = complete-object structs t complete; address = tt }

  module _ {G : Meaning → Type 0} (bounds : Bounds s G) where
    typed_part : (d : Decl) (t : Ty) → Part s G (DeclarationInOrder s) (typed_local d (Some t))
    typed_part d t = record {
      holds = λ env stands names adds kept.
          let new = is_new env d.name in
          let rules = rule 10 new ∷ object_rules env.structs (Some t) in
          let b = declares_local d.name d.span rules (Some t) env in
          let i = initialised false (Some t) (init_of d) (behind b env) in
          let split : Split s G env b i = record { names = names; texts = adds.texts; locals = adds.locals; kept = kept } in
          let own = first-kept b i split in
          let small = rule 17 (leb (size env.structs t) largest) ∷ [] in
          let complete = kept-first d.span 15 (is_complete env.structs t) small
          (kept-rest d.span 10 new (object_rules env.structs (Some t)) own) in
          let info : LocalInfo = record { name = d.name; ty = t; span = d.span } in
          let zero_on : env.locals + 0 ≡ env.locals = omega arith in
          let there = subst (λ k. slice_get s.function.locals k ≡ Some info) zero_on ((first-adds b i split).locals 0 info refl) in
          let contains = bounds env.locals (Some t) info (first-names b i split).0 there in
          let object = object-there t env.locals d.name d.span contains there env.structs complete in
          let next = stands-behind s env b (object, tt) stands in
          let fits = (initialised-good false d t).holds (behind b env) (record { here = next.here; more = complete })
          (second-kept b i split) (second-adds b i split).texts in
          let known = decl_there t d.name d.span d.span env.locals contains there i.known fits in
          record {
            known = subst (λ b. There (tdecl env.locals d.span (if b then Some t else None) i.known) (DeclarationInOrder s))
                (sym (each-kept d.span rules own)) known;
            names = names-both (MeansIn s) i.names b.names
                (no-names (MeansIn s) i.names (initialised-silent false d (Some t) (behind b env))) (object, tt);
          };
    }

    local_holds : (d : Decl) (env : Env) → Stands env s → (o : Option Ty) → (declared_type d env).known ≡ o →
        There (declared_type d env).known (λ (t : Ty). Unit {0}) →
        let t = declared_type d env in
        let r = typed_local d o (behind t env) in
        Split s G env t r → Holds s (DeclarationInOrder s) (joined t r r.known)
    local_holds d env stands None is known split = absurd (none-is (λ (t : Ty). Unit {0}) (declared_type d env).known is known)
    local_holds d env stands (Some ty) is known split =
        let t = declared_type d env in
        let r = typed_local d (Some ty) (behind t env) in
        let silent = no-names (MeansIn s) t.names ((declared-good d).silent env) in
        let next = (typed_part d ty).holds (behind t env) (stands-behind s env t silent stands) (second-names t r split)
        (second-adds t r split) (second-kept t r split) in
        record { known = next.known; names = names-both (MeansIn s) r.names t.names next.names silent }

    -- a declaration of a local that breaks no rule is in order
    pub local-part : (d : Decl) → Part s G (DeclarationInOrder s) (local d)
    local-part d = record {
      holds = λ env stands names adds kept.
          let t = declared_type d env in
          let r = typed_local d t.known (behind t env) in
          let split : Split s G env t r = record { names = names; texts = adds.texts; locals = adds.locals; kept = kept } in
          local_holds d env stands t.known refl
          ((declared-good d).holds env (record { here = stands.here; more = tt }) (first-kept t r split) (first-adds t r split).texts)
          split;
    }

  -- ---- what it declares

  local_is : (k : ℕ) (span : Span) (t : Option Ty) (o : Option (Option Fitted)) (d : TDecl) → tdecl k span t o ≡ Some d → d.local ≡ k
  local_is k span None o d is = absurd cc
  local_is k span (Some t) None d is = absurd cc
  local_is k span (Some t) (Some i) d is =
      ap (λ (d : TDecl). d.local) (sym (same_Some (record { local = k; init = option_map tree_of i; span = span }) d is))

  pub local-named : (d : Decl) (env : Env) (v : TDecl) → (local d env).known ≡ Some v →
      Names (HeldIn (local_of v ∷ [])) (local d env).names
  local-named d env v is =
      let t = declared_type d env in
      let here = behind t env in
      let b = declares_local d.name d.span (rule 10 (is_new here d.name) ∷ object_rules here.structs t.known) t.known here in
      let i = initialised false t.known (init_of d) (behind b here) in
      let G = HeldIn (local_of v ∷ []) in
      names-both G (i.names ++ b.names) t.names
      (names-both G i.names b.names (no-names G i.names (initialised-silent false d t.known (behind b here)))
      (subst (λ k. Contains (local_of v ∷ []) k) (local_is here.locals d.span b.known i.known v is) (contains-here (local_of v) []), tt))
      (no-names G t.names ((declared-good d).silent env))
