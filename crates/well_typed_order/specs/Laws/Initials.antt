-- Initialisers of locals that keep all rules are in order.
use Rattle.std.proofs.Common.{◌≡◌, refl, sym, ◌∙◌, ap, subst, ℕ, suc, ◌+◌, arith, Bool, true, false, ◌&&◌, ◌||◌, List, [], ◌∷◌, ◌++◌}
use Rattle.std.proofs.Common.{map, Option, Some, None, slice_get}
use Rattle.std.specs.Prelude.{if◌then◌else◌, flat_map, ltb, ◌%◌, ◌^◌, ◌*◌}
use Rattle.std.specs.List.{AllByRecursion}
use Rattle.std.proofs.lemmas.Option.{same_Some}
use Rattle.c_ast.specs.declared.token.Span.{Span}
use Rattle.c_ast.specs.declared.int_type.IntType.TheVariants as int
use Rattle.c_ast.specs.declared.expr.Expr.{Expr}
use Rattle.c_ast.specs.declared.declaration.Init.{Init, roll-Init, map-Init}
use Rattle.c_ast.specs.declared.declaration.Init.TheOpen.{Init-F}
use Rattle.c_ast.specs.declared.declaration.Init.TheFolds.{fold-roll-Init, ind-Init}
use Rattle.c_type_base.specs.Laws.Opened.{given_types, given_typed}
use Rattle.c_type_base.specs.Laws.SizeLaws.{complete-struct, complete-int, complete-array}
use Rattle.c_type_base.specs.Layout.{members_of, first_scalar}
use Rattle.c_type_base.specs.Sizes.{size, is_complete, complete_struct}
use Rattle.c_type_base.specs.declared.ty.Ty.{Ty, out-Ty, roll-Ty, roll-out-Ty}
use Rattle.c_type_base.specs.declared.ty.Ty.TheVariants as ty
use Rattle.c_type_base.specs.declared.ty.Ty.TheOpen.{Ty-F}
use Rattle.c_type_base.specs.declared.statement.TInit.{TInit, out-TInit, out-roll-TInit}
use Rattle.c_type_base.specs.declared.statement.TInit.TheVariants as tinit
use Rattle.c_type_base.specs.declared.statement.TInit.TheOpen.{TInit-F}
use Rattle.c_type_base.specs.declared.typed.InitValue.TheVariants as initial
use Rattle.c_type_base.specs.declared.typed.MemberInfo.{MemberInfo}
use Rattle.c_type_base.specs.declared.typed.StructInfo.{StructInfo}
use Rattle.c_type_base.specs.Known.{value}
use Rattle.c_type_base.specs.Types.{TyLayer, element_of_level, struct_of_level}
use Rattle.c_type_base.specs.Types.{is_integer, is_struct, is_array, element_of, struct_of}
use Rattle.c_type_expr.specs.Environment.{Env}
use Rattle.c_type_expr.specs.Expressions.{expression}
use Rattle.c_type_expr.specs.Faults.{fault}
use Rattle.c_type_expr.specs.Operators.{breaks}
use Rattle.c_type_expr.specs.Outcomes.{Judged, continued, listed, each, behind, sure, not_known, both, on}
use Rattle.c_type_expr.specs.Said.{text}
use Rattle.c_type_stmt.specs.declared.fitted.Fitted.{Fitted}
use Rattle.c_type_stmt.specs.declared.initial.Slot.{Slot}
use Rattle.c_type_stmt.specs.Initials.{loose_all, moved_fitted, too_many, fit_all, tree_of, member_slot, in_braces, is_zero_list, zero_list}
use Rattle.c_type_stmt.specs.Initials.{is_aggregate_slot, list_by, slots, init_step, initialiser}
use Rattle.c_type_stmt.specs.Initials.{piece}
use Rattle.c_type_stmt.specs.Initials.{pieces_of}
use Rattle.c_type_stmt.specs.Initials.{InitSaid, expression_for}
use Rattle.block_meaning.specs.ExpressionsInOrder.{Scope}
use Rattle.block_meaning.specs.StatementsInOrder as order
use Rattle.block_meaning.specs.StatementsInOrder.{Initialises, Elements, Members}
use Rattle.well_typed_order.specs.Standing.{EnvIn, TextsIn, Silent, NoMore, GoodIf, Good, TableIn, There}
use Rattle.well_typed_order.specs.Laws.Expressions.{expression-good}
use Rattle.well_typed_order.specs.Laws.Good.{good-if, good-from, good-on, good-both}
use Rattle.well_typed_order.specs.Laws.Good.{good-sure}
use Rattle.well_typed_order.specs.Laws.Good.{good-never, good-none, good-more, none-after, silent-on, silent-both, front}
use Rattle.well_typed_order.specs.Laws.Good.{texts-front}
use Rattle.well_typed_order.specs.Laws.Types.{and_second}
use Rattle.well_typed_order.specs.Laws.FirstBytes.{PieceIn, FitsIn, moved_in, joined_in, expression_for_good}

module _ (s : Scope) where
  -- ---- lists

  -- where an initialiser breaks no rule, it fits an object of a complete type
  pub record InitGood (i : InitSaid) : Type 0 where
    pub loose : Good s (λ (x : Unit {0}). Unit {0}) i.loose
    pub fits : (b : Bool) (t : Ty) → GoodIf (λ structs. is_complete structs t ≡ true) s ((FitsIn s) t) (i.fitted b t)

  abbrev SlotFits : Option Slot → Fitted → Type 0
  SlotFits None f = ⊥
  SlotFits (Some x) f = (FitsIn s) x.ty f

  -- each fits the place of its number
  abbrev FitsFrom : (ℕ → Option Slot) → ℕ → List Fitted → Type 0
  FitsFrom slot k [] = Unit {0}
  FitsFrom slot k (f ∷ fs) = SlotFits (slot k) f × FitsFrom slot (k + 1) fs

  -- places have complete types
  abbrev Wholes : (ℕ → Option Slot) → List StructInfo → Type 0
  Wholes slot structs = (k : ℕ) (x : Slot) → slot k ≡ Some x → is_complete structs x.ty ≡ true

  loose_good : (is : List InitSaid) → AllByRecursion InitGood is → Good s (AllByRecursion (λ (x : Unit {0}). Unit {0})) (loose_all is)
  loose_good [] all = good-none
  loose_good (i ∷ is) all = good-more i.loose (map (λ i. i.loose) is) all.0.loose (loose_good is all.1)

  loose_silent : (is : List InitSaid) → AllByRecursion InitGood is → Silent (loose_all is)
  loose_silent is all = (loose_good is all).silent

  many_silent : (i : InitSaid) (is : List InitSaid) → InitGood i → AllByRecursion InitGood is → Silent (both (too_many i) (loose_all is))
  many_silent i is good all = silent-both (too_many i) (loose_all is) good.loose.silent (loose_silent is all)

  not_none : {A : Type 0} (xs : List A) (x : A) → xs ++ x ∷ [] ≡ [] → ⊥
  not_none [] x is = absurd cc
  not_none (y ∷ xs) x is = absurd cc

  many_never : (i : InitSaid) (is : List InitSaid) (env : Env) → (both (too_many i) (loose_all is) env).faults ≡ [] → ⊥
  many_never i is env kept = not_none (i.loose env).faults (fault 16 i.span) (front (too_many i env).faults _ kept)

  abbrev fit_rest : (ℕ → Option Slot) → Bool → ℕ → InitSaid → List InitSaid → Option Slot → Judged (List Fitted)
  fit_rest slot b k i is o = elim o [
    | None ↦ on (both (too_many i) (loose_all is)) (λ x. not_known)
    | Some s ↦ on (both (i.fitted b s.ty) (fit_all slot b (k + 1) is)) (λ (f, fs). sure (moved_fitted s.offset f ∷ fs))
  ]

  on_never : {A B : Type 0} (p : Judged A) (f : A → Judged B) → ((env : Env) → (p env).faults ≡ [] → ⊥) → (env : Env) →
      (on p f env).faults ≡ [] → ⊥
  on_never p f never env = by_known (p env).known
    where
      by_known : (o : Option _) → (continued (p env) o f env).faults ≡ [] → ⊥
      by_known None kept = never env kept
      by_known (Some v) kept = never env (front (p env).faults _ kept)

  rest_good : (slot : ℕ → Option Slot) (b : Bool) (k : ℕ) (i : InitSaid) (is : List InitSaid) → InitGood i →
      AllByRecursion InitGood is → GoodIf (Wholes slot) s (FitsFrom slot (k + 1)) (fit_all slot b (k + 1) is) → (o : Option Slot) →
      slot k ≡ o → GoodIf (Wholes slot) s (FitsFrom slot k) (fit_rest slot b k i is o)
  rest_good slot b k i is good all rest None same =
      good-never (on (both (too_many i) (loose_all is)) (λ x. not_known {A = List Fitted}))
      (silent-on (both (too_many i) (loose_all is)) (λ x. not_known {A = List Fitted}) (many_silent i is good all) (λ x env. refl))
      (on_never (both (too_many i) (loose_all is)) (λ x. not_known {A = List Fitted}) (many_never i is))
  rest_good slot b k i is good all rest (Some x) same = good-on (both (i.fitted b x.ty) (fit_all slot b (k + 1) is)) _
      (good-both (i.fitted b x.ty) (fit_all slot b (k + 1) is)
      (good-from (λ structs. is_complete structs x.ty ≡ true) (Wholes slot) (i.fitted b x.ty) (λ env inside whole. whole k x same)
      (good.fits b x.ty)) rest) (λ v env. refl)
      (λ v known. good-sure (moved_fitted x.offset v.0 ∷ v.1) (
        subst (λ o. SlotFits o (moved_fitted x.offset v.0)) (sym same)
            (record { tree = known.0.tree; pieces = (moved_in s) x.offset v.0.pieces known.0.pieces }),
        known.1,
      ))

  all_good : (slot : ℕ → Option Slot) (b : Bool) (k : ℕ) (is : List InitSaid) → AllByRecursion InitGood is →
      GoodIf (Wholes slot) s (FitsFrom slot k) (fit_all slot b k is)
  all_good slot b k [] all = good-sure [] tt
  all_good slot b k (i ∷ is) all = rest_good slot b k i is all.0 all.1 (all_good slot b (k + 1) is all.1) (slot k) refl

  -- an initialiser of an int is one of an array or struct as the 0 of `{0}`
  int_no_array : (is_array (ty.Int int.Int) || is_struct (ty.Int int.Int)) ≡ false
  unfolding given_types
  int_no_array = refl

  int_no_element : (element : Ty) → element_of (ty.Int int.Int) ≡ Some element → ⊥
  unfolding given_types
  int_no_element element is = cc

  int_no_struct : (number : ℕ) → struct_of (ty.Int int.Int) ≡ Some number → ⊥
  unfolding given_types
  int_no_struct number is = cc

  int_is_integer : is_integer (ty.Int int.Int) ≡ true
  unfolding given_types
  int_is_integer = refl

  zero_fits : (t u : Ty) (x : TInit-F TInit) → t ≡ ty.Int int.Int → (is_array u || is_struct u) ≡ true →
      Initialises s t x → Initialises s u x
  zero_fits t u x is kinds (order.scalar {e = e} scalar value same) =
      order.zero_of_list kinds value (ap is_integer (same ∙ is) ∙ int_is_integer)
  zero_fits t u x is kinds (order.struct_value {e = e} struct value same) =
      order.zero_of_list kinds value (ap is_integer (same ∙ is) ∙ int_is_integer)
  zero_fits t u x is kinds (order.text {element = element} there node_is text) =
      absurd (int_no_element element (ap element_of (sym is) ∙ there))
  zero_fits t u x is kinds (order.zero_of_list arrays value integer) =
      let no : true ≡ false = sym arrays ∙ ap (λ t. is_array t || is_struct t) is ∙ int_no_array in absurd cc
  zero_fits t u x is kinds (order.elements {element = element} there all) = absurd (int_no_element element (ap element_of (sym is) ∙ there))
  zero_fits t u x is kinds (order.members {number = number} there all) = absurd (int_no_struct number (ap struct_of (sym is) ∙ there))

  -- places of an array
  slot_element : (element : Ty) (f : Fitted) (o : Option Slot) → ((x : Slot) → o ≡ Some x → x.ty ≡ element) → SlotFits o f →
      Initialises s element (out-TInit f.tree)
  slot_element element f None all fits = absurd fits
  slot_element element f (Some x) all fits = subst (λ t. Initialises s t (out-TInit f.tree)) (all x refl) fits.tree

  elements_in : (slot : ℕ → Option Slot) (element : Ty) → ((k : ℕ) (x : Slot) → slot k ≡ Some x → x.ty ≡ element) → (k : ℕ)
      (fs : List Fitted) → FitsFrom slot k fs → Elements s element (map tree_of fs)
  elements_in slot element all k [] fits = order.no_element
  elements_in slot element all k (f ∷ fs) fits =
      order.element (slot_element element f (slot k) (all k) fits.0) (elements_in slot element all (k + 1) fs fits.1)

  -- places of a struct
  slot_none : (f : Fitted) (o : Option MemberInfo) → o ≡ None → SlotFits (member_slot o) f → ⊥
  slot_none f None is fits = fits
  slot_none f (Some m) is fits = absurd cc

  slot_member : (f : Fitted) (m : MemberInfo) (o : Option MemberInfo) → o ≡ Some m → SlotFits (member_slot o) f →
      Initialises s m.ty (out-TInit f.tree)
  slot_member f m None is fits = absurd fits
  slot_member f m (Some n) is fits = subst (λ (m : MemberInfo). Initialises s m.ty (out-TInit f.tree)) (same_Some n m is) fits.tree

  members_in : (ms rest : List MemberInfo) (k : ℕ) → ((j : ℕ) → slice_get ms (k + j) ≡ slice_get rest j) → (fs : List Fitted) →
      FitsFrom (λ k. member_slot (slice_get ms k)) k fs → Members s rest (map tree_of fs)
  members_in ms rest k same [] fits = order.no_member
  members_in ms [] k same (f ∷ fs) fits =
      let zero_on : k + 0 ≡ k = omega arith in
      absurd (slot_none f (slice_get ms k) (subst (λ j. slice_get ms j ≡ None) zero_on (same 0)) fits.0)
  members_in ms (m ∷ rest) k same (f ∷ fs) fits =
      let zero_on : k + 0 ≡ k = omega arith in
      order.member (slot_member f m (slice_get ms k) (subst (λ j. slice_get ms j ≡ Some m) zero_on (same 0)) fits.0)
      (members_in ms rest (k + 1) (λ j.
      let next : k + suc j ≡ k + 1 + j = omega arith in subst (λ i. slice_get ms i ≡ slice_get rest j) next (same (suc j))) fs fits.1)

  -- ---- a list for what has places

  abbrev ListFits : Ty → Span → (ℕ → Option Slot) → Type 0
  ListFits t span slot = (fs : List Fitted) → FitsFrom slot 0 fs → Initialises s t (TInit-F.List (map tree_of fs) span)

  braces_in : (t : Ty) (span : Span) (ts : List TInit) → Initialises s t (TInit-F.List ts span) →
      Initialises s t (out-TInit (tinit.List ts span))
  unfolding given_typed
  braces_in t span ts init = subst (Initialises s t) (sym (out-roll-TInit (TInit-F.List ts span))) init

  abbrev OneFits : Ty → List Fitted → Type 0
  OneFits t [] = ⊥
  OneFits t (f ∷ []) = (FitsIn s) t f
  OneFits t (f ∷ g ∷ fs) = ⊥

  one_listed : (t : Ty) (o : Option Fitted) → There o ((FitsIn s) t) → There (listed o (Some [])) (OneFits t)
  one_listed t None holds = holds
  one_listed t (Some f) holds = holds

  one_good : {M : List StructInfo → Type 0} (t : Ty) (p : Judged Fitted) → GoodIf M s ((FitsIn s) t) p →
      GoodIf M s (OneFits t) (each (p ∷ []))
  one_good t p good = record {
    silent = λ env. good.silent env;
    holds = λ env inside kept texts. one_listed t (p env).known (good.holds env inside (front (p env).faults [] kept)
        (texts-front s env.texts (p env).texts [] texts));
  }

  slot_there : (o : Option Slot) → is_aggregate_slot o ≡ true → (f : Fitted) → (FitsIn s) (ty.Int int.Int) f → SlotFits o f
  slot_there None kinds f fits = absurd cc
  slot_there (Some x) kinds f fits =
      record { tree = zero_fits (ty.Int int.Int) x.ty (out-TInit f.tree) refl kinds fits.tree; pieces = fits.pieces }

  zero_made : (t : Ty) (span : Span) (bytes : ℕ) (slot : ℕ → Option Slot) → ListFits t span slot → is_aggregate_slot (slot 0) ≡ true →
      (fs : List Fitted) → OneFits (ty.Int int.Int) fs →
      (FitsIn s) t (record { tree = tinit.List (map tree_of fs) span; pieces = piece 0 (initial.Number 0 bytes) ∷ [] })
  zero_made t span bytes slot fits kinds [] one = absurd one
  zero_made t span bytes slot fits kinds (f ∷ []) one = record {
    tree = braces_in t span (map tree_of (f ∷ [])) (fits (f ∷ []) (slot_there (slot 0) kinds f one, tt));
    pieces = (tt, tt);
  }
  zero_made t span bytes slot fits kinds (f ∷ g ∷ fs) one = absurd one

  int_complete : (structs : List StructInfo) → is_complete structs (ty.Int int.Int) ≡ true
  int_complete structs = complete-int structs int.Int

  zero_good : {M : List StructInfo → Type 0} (t : Ty) (span : Span) (bytes : ℕ) (is : List InitSaid) → AllByRecursion InitGood is →
      is_zero_list is ≡ true → (slot : ℕ → Option Slot) → ListFits t span slot → is_aggregate_slot (slot 0) ≡ true →
      GoodIf M s ((FitsIn s) t) (zero_list span is bytes)
  zero_good t span bytes [] all zeros slot fits kinds = absurd cc
  zero_good {M = M} t span bytes (i ∷ []) all zeros slot fits kinds =
      good-on (each (i.fitted false (ty.Int int.Int) ∷ [])) _
      (one_good (ty.Int int.Int) (i.fitted false (ty.Int int.Int))
      (good-from (λ structs. is_complete structs (ty.Int int.Int) ≡ true) M (i.fitted false (ty.Int int.Int))
      (λ env inside more. int_complete env.structs) (all.0.fits false (ty.Int int.Int))))
      (λ fs env. refl) (λ fs one. good-sure _ (zero_made t span bytes slot fits kinds fs one))
  zero_good t span bytes (i ∷ j ∷ is) all zeros slot fits kinds = absurd cc

  pieces_in : (slot : ℕ → Option Slot) (k : ℕ) (fs : List Fitted) → FitsFrom slot k fs → AllByRecursion (PieceIn s) (flat_map pieces_of fs)
  pieces_in slot k [] fits = tt
  pieces_in slot k (f ∷ fs) fits =
      (joined_in s) f.pieces (flat_map pieces_of fs) (slot_pieces (slot k) f fits.0) (pieces_in slot (k + 1) fs fits.1)
    where
      slot_pieces : (o : Option Slot) (f : Fitted) → SlotFits o f → AllByRecursion (PieceIn s) f.pieces
      slot_pieces None f fits = absurd fits
      slot_pieces (Some x) f fits = fits.pieces

  braced : (t : Ty) (span : Span) (slot : ℕ → Option Slot) → ListFits t span slot → (fs : List Fitted) → FitsFrom slot 0 fs →
      (FitsIn s) t (in_braces span fs)
  braced t span slot fits fs known =
      record { tree = braces_in t span (map tree_of fs) (fits fs known); pieces = pieces_in slot 0 fs known }

  plain_list : (t : Ty) (span : Span) (b : Bool) (is : List InitSaid) → AllByRecursion InitGood is → (slot : ℕ → Option Slot) →
      ListFits t span slot → GoodIf (Wholes slot) s ((FitsIn s) t) (on (fit_all slot b 0 is) (λ fs. sure (in_braces span fs)))
  plain_list t span b is all slot fits = good-on (fit_all slot b 0 is) _ (all_good slot b 0 is all) (λ fs env. refl)
      (λ fs known. good-sure (in_braces span fs) (braced t span slot fits fs known))

  list_if : (t : Ty) (span : Span) (b : Bool) (bytes : ℕ) (is : List InitSaid) → AllByRecursion InitGood is → (slot : ℕ → Option Slot) →
      ListFits t span slot → (x y : Bool) → is_zero_list is ≡ x → is_aggregate_slot (slot 0) ≡ y →
      GoodIf (Wholes slot) s ((FitsIn s) t)
      (if x && y then zero_list span is bytes else on (fit_all slot b 0 is) (λ fs. sure (in_braces span fs)))
  list_if t span b bytes is all slot fits true true zeros kinds = zero_good t span bytes is all zeros slot fits kinds
  list_if t span b bytes is all slot fits true false zeros kinds = plain_list t span b is all slot fits
  list_if t span b bytes is all slot fits false y zeros kinds = plain_list t span b is all slot fits

  list_by_good : (t : Ty) (span : Span) (b : Bool) (bytes : ℕ) (is : List InitSaid) → AllByRecursion InitGood is →
      (slot : ℕ → Option Slot) → ListFits t span slot → GoodIf (Wholes slot) s ((FitsIn s) t) (list_by span is b bytes (Some slot))
  list_by_good t span b bytes is all slot fits =
      list_if t span b bytes is all slot fits (is_zero_list is) (is_aggregate_slot (slot 0)) refl refl

  -- ---- lists, by what they are for

  fitted_silent : (is : List InitSaid) → AllByRecursion InitGood is → Silent (each (map (λ i. i.fitted false (ty.Int int.Int)) is))
  fitted_silent [] all env = refl
  fitted_silent (i ∷ is) all env =
      let a = i.fitted false (ty.Int int.Int) env in
      none-after (each (map (λ i. i.fitted false (ty.Int int.Int)) is) (behind a env)).names a.names
      (fitted_silent is all.1 (behind a env)) ((all.0.fits false (ty.Int int.Int)).silent env)

  list_silent : (span : Span) (b : Bool) (bytes : ℕ) (is : List InitSaid) → AllByRecursion InitGood is → (slot : ℕ → Option Slot) →
      (x : Bool) → Silent (if x then zero_list span is bytes else on (fit_all slot b 0 is) (λ fs. sure (in_braces span fs)))
  list_silent span b bytes is all slot true = silent-on (each (map (λ i. i.fitted false (ty.Int int.Int)) is)) _ (fitted_silent is all)
      (λ fs env. refl)
  list_silent span b bytes is all slot false = silent-on (fit_all slot b 0 is) _ (all_good slot b 0 is all).silent (λ fs env. refl)

  by_silent : (span : Span) (b : Bool) (bytes : ℕ) (is : List InitSaid) → AllByRecursion InitGood is → (o : Option (ℕ → Option Slot)) →
      Silent (list_by span is b bytes o)
  by_silent span b bytes is all None = silent-on (loose_all is) _ (loose_silent is all) (λ x env. refl)
  by_silent span b bytes is all (Some slot) = list_silent span b bytes is all slot (is_zero_list is && is_aggregate_slot (slot 0))

  for_silent : (span : Span) (from : Bool) (t : Ty) (is : List InitSaid) → AllByRecursion InitGood is → (env : Env) (b : Bool) →
      (if b then on (loose_all is) (λ x. not_known {A = Fitted}) env
      else list_by span is from (first_scalar env.structs t) (slots env.structs (out-Ty t)) env).names ≡ []
  for_silent span from t is all env true = silent-on (loose_all is) (λ x. not_known) (loose_silent is all) (λ x env. refl) env
  for_silent span from t is all env false =
      by_silent span from (first_scalar env.structs t) is all (slots env.structs (out-Ty t)) env

  nowhere_good : {M : List StructInfo → Type 0} (t : Ty) (span : Span) (b : Bool) (bytes : ℕ) (is : List InitSaid) →
      AllByRecursion InitGood is → GoodIf M s ((FitsIn s) t) (list_by span is b bytes None)
  nowhere_good t span b bytes is all = good-on (loose_all is) _ (good-if (loose_all is) (loose_good is all)) (λ x env. refl)
      (λ x known. good-never (breaks 16 span) (λ env. refl) (λ env is. absurd cc))

  slot_is : (b : Bool) (element : Ty) (offset : ℕ) (x : Slot) →
      ◌≡◌ {A = Option Slot} (if b then Some (record { ty = element; offset = offset }) else None) (Some x) → x.ty ≡ element
  slot_is true element offset x is = ap (λ (x : Slot). x.ty) (sym (same_Some (record { ty = element; offset = offset }) x is))
  slot_is false element offset x is = absurd cc

  no_incomplete : (a b : Bool) → b ≡ true → (a && (if b then false else true)) ≡ true → ⊥
  no_incomplete true true is its = absurd cc
  no_incomplete false true is its = absurd cc
  no_incomplete a false is its = absurd cc

  struct_slots : (t : Ty) (span : Span) (env : Env) → TableIn env s → (number : ℕ) → out-Ty t ≡ Ty-F.Struct number →
      is_complete env.structs t ≡ true → ListFits t span (λ k. member_slot (slice_get (members_of (slice_get env.structs number)) k))
  unfolding given_types
  struct_slots t span env table number is complete fs fits =
      let whole : ty.Struct number ≡ t = ap roll-Ty (sym is) ∙ roll-out-Ty t in
      let there : complete_struct (slice_get env.structs number) ≡ true =
      sym (complete-struct env.structs number) ∙ ap (is_complete env.structs) whole ∙ complete in
      let same = table.extends number there in
      order.members (ap struct_of_level is)
      (subst (λ o. Members s (members_of o) (map tree_of fs)) (sym same)
      (members_in (members_of (slice_get env.structs number)) (members_of (slice_get env.structs number)) 0 (λ j.
      let zero_on : 0 + j ≡ j = omega arith in ap (slice_get (members_of (slice_get env.structs number))) zero_on) fs fits))

  array_slots : (t : Ty) (span : Span) (env : Env) (element : Ty) (n : ℕ) → out-Ty t ≡ Ty-F.Array element n →
      ListFits t span (λ k. (if ltb k n then Some (record { ty = element; offset = k * size env.structs element % 2 ^ 64 }) else None))
  array_slots t span env element n is fs fits =
      order.elements (ap element_of_level is) (elements_in _ element (λ k x same. slot_is (ltb k n) element _ x same) 0 fs fits)

  -- what stands in a complete array or struct is complete
  array_whole : (structs : List StructInfo) (element : Ty) (n : ℕ) → is_complete structs (ty.Array element n) ≡ true →
      is_complete structs element ≡ true
  array_whole structs element n is =
      and_second (ltb 0 n) (is_complete structs element) (sym (complete-array structs element n) ∙ is)

  array_wholes : (structs : List StructInfo) (element : Ty) (n : ℕ) → is_complete structs (ty.Array element n) ≡ true →
      Wholes (λ k. (if ltb k n then Some (record { ty = element; offset = k * size structs element % 2 ^ 64 }) else None)) structs
  array_wholes structs element n is k x same =
      subst (λ t. is_complete structs t ≡ true) (sym (slot_is (ltb k n) element _ x same)) (array_whole structs element n is)

  member_is : (o : Option MemberInfo) (x : Slot) → member_slot o ≡ Some x → (m : MemberInfo) × (o ≡ Some m) × (m.ty ≡ x.ty)
  member_is None x is = absurd cc
  member_is (Some m) x is =
      (m, refl, ap (λ (x : Slot). x.ty) (same_Some (record { ty = m.ty; offset = m.offset }) x is))

  struct_wholes : (env : Env) → TableIn env s → (number : ℕ) →
      Wholes (λ k. member_slot (slice_get (members_of (slice_get env.structs number)) k)) env.structs
  struct_wholes env table number k x same =
      let found = member_is (slice_get (members_of (slice_get env.structs number)) k) x same in
      subst (λ t. is_complete env.structs t ≡ true) found.2 (table.complete number k found.0 found.1)

  rolled : (t : Ty) (l : TyLayer) → out-Ty t ≡ l → roll-Ty l ≡ t
  rolled t l is = ap roll-Ty (sym is) ∙ roll-out-Ty t

  level_holds : (t : Ty) (span : Span) (b : Bool) (bytes : ℕ) (is : List InitSaid) → AllByRecursion InitGood is → (env : Env) →
      EnvIn env s → is_complete env.structs t ≡ true → (l : TyLayer) → out-Ty t ≡ l →
      let o = list_by span is b bytes (slots env.structs l) env in
      o.faults ≡ [] → TextsIn s env.texts o.texts → There o.known ((FitsIn s) t)
  unfolding given_types
  level_holds t span b bytes is all env inside complete (Ty-F.Array element n) same =
      let whole = array_wholes env.structs element n (ap (is_complete env.structs) (rolled t (Ty-F.Array element n) same) ∙ complete) in
      (list_by_good t span b bytes is all _ (array_slots t span env element n same)).holds env (record { here = inside; more = whole })
  level_holds t span b bytes is all env inside complete (Ty-F.Struct number) same =
      (list_by_good t span b bytes is all _ (struct_slots t span env inside.table number same complete)).holds env
      (record { here = inside; more = struct_wholes env inside.table number })
  level_holds t span b bytes is all env inside complete Ty-F.Void same =
      (nowhere_good {M = NoMore} t span b bytes is all).holds env (record { here = inside; more = tt })
  level_holds t span b bytes is all env inside complete (Ty-F.Int i) same =
      (nowhere_good {M = NoMore} t span b bytes is all).holds env (record { here = inside; more = tt })
  level_holds t span b bytes is all env inside complete (Ty-F.Pointer u) same =
      (nowhere_good {M = NoMore} t span b bytes is all).holds env (record { here = inside; more = tt })

  for_holds : (t : Ty) (span : Span) (from : Bool) (is : List InitSaid) → AllByRecursion InitGood is → (env : Env) → EnvIn env s →
      is_complete env.structs t ≡ true → (b : Bool) → (is_struct t && (if is_complete env.structs t then false else true)) ≡ b →
      let o = (if b then on (loose_all is) (λ x. not_known {A = Fitted}) env
      else list_by span is from (first_scalar env.structs t) (slots env.structs (out-Ty t)) env) in
      o.faults ≡ [] → TextsIn s env.texts o.texts → There o.known ((FitsIn s) t)
  for_holds t span from is all env inside complete true same kept texts =
      absurd (no_incomplete (is_struct t) (is_complete env.structs t) complete same)
  for_holds t span from is all env inside complete false same kept texts =
      level_holds t span from (first_scalar env.structs t) is all env inside complete (out-Ty t) refl kept texts

  list_good : (is : List InitSaid) (span : Span) → AllByRecursion InitGood is → InitGood (init_step (Init-F.List is span))
  list_good is span all = record {
    loose = good-on (loose_all is) _ (loose_good is all) (λ x env. refl) (λ x known. good-sure tt tt);
    fits = λ b t. record {
      silent = λ env. for_silent span b t is all env (is_struct t && (if is_complete env.structs t then false else true));
      holds = λ env inside kept texts. for_holds t span b is all env inside.here inside.more _ refl kept texts;
    };
  }

  one_init_good : (e : Expr) → InitGood (init_step (Init-F.One e))
  one_init_good e = record {
    loose = good-on (expression e).judged _ (expression-good s e) (λ k env. refl)
        (λ k known. record { silent = λ env. refl; holds = λ env inside kept texts. tt });
    fits = λ b t. good-if (expression_for (expression e) b t (out-Ty t)) ((expression_for_good s) e b t (out-Ty t) refl);
  }

  -- ---- all of them

  abbrev WithInit : Type 0
  WithInit = (i : Init) × InitGood (initialiser i)

  inits_with : Init-F WithInit → Init-F Init
  inits_with = map-Init WithInit Init (λ i. i.0)

  each_init : (is : List WithInit) → AllByRecursion InitGood (map initialiser (map (λ i. i.0) is))
  each_init [] = tt
  each_init (i ∷ is) = (i.1, each_init is)

  init_is : (d : Init-F Init) → InitGood (init_step (map-Init Init InitSaid initialiser d)) → InitGood (initialiser (roll-Init d))
  init_is d good = subst InitGood (sym (fold-roll-Init InitSaid init_step d)) good

  init_good : (y : Init-F WithInit) → InitGood (initialiser (roll-Init (inits_with y)))
  unfolding inits_with
  init_good (Init-F.One e) = init_is (Init-F.One e) (one_init_good e)
  init_good (Init-F.List is span) = init_is (Init-F.List (map (λ i. i.0) is) span)
      (list_good (map initialiser (map (λ i. i.0) is)) span (each_init is))

  inits_good : (x : Init-F Init) (y : Init-F WithInit) → inits_with y ≡ x → InitGood (initialiser (roll-Init x))
  inits_good x y is = subst (λ x. InitGood (initialiser (roll-Init x))) is (init_good y)

  -- an initialiser of a local without a fault is in order
  pub initialiser-good : (i : Init) → InitGood (initialiser i)
  unfolding inits_with
  initialiser-good = ind-Init (λ i. InitGood (initialiser i)) inits_good
