-- The code of declarations of locals does what they mean (this project's own).
use Rattle.std.specs.Prelude.{◌≡◌, ℕ, ◌||◌, Bool, true, false, List, [], ◌∷◌, map, slice_get, Option, Some, None, IfSome, refl}
use Rattle.std.specs.List.{All}
use Rattle.std.proofs.Common.{arith, ap, sym, subst, ◌∙◌}
use Rattle.std.proofs.lemmas.List.Elements.{All-head, All-tail, All-nil, All-cons}
use Rattle.c_type_base.specs.Types.{TyLayer, is_scalar, is_array, is_there, is_struct, struct_of_level}
use Rattle.c_type_base.specs.declared.statement.TDecl.{TDecl}
use Rattle.c_type_base.specs.declared.statement.TInit.{TInit, out-TInit}
use Rattle.c_type_base.specs.declared.statement.TInit.TheOpen.{TInit-F}
use Rattle.c_type_base.specs.declared.ty.Ty.{out-Ty}
use Rattle.c_type_base.specs.declared.ty.Ty.TheOpen.{Ty-F}
use Rattle.c_type_base.specs.declared.typed.LocalInfo.{LocalInfo}
use Rattle.block_meaning.specs.Expressions.{ExprParts, parts_at}
use Rattle.block_meaning.specs.Locals.{declaration as meaning, declarations as meant}
use Rattle.block_meaning.specs.Running.{Run, gives, and_then, Context}
use Rattle.block_meaning.specs.ExpressionsInOrder.{Scope}
use Rattle.block_meaning.specs.StatementsInOrder.{DeclarationInOrder, Initialises, scalar, struct_value, text, zero_of_list, elements}
use Rattle.block_meaning.specs.StatementsInOrder.{members}
use Rattle.gen_base.specs.Code.{Code as Items, in_turn}
use Rattle.gen_stmt.specs.Loops.{result}
use Rattle.gen_stmt.specs.Statements.{declaration, declarations}
use Rattle.code_follows.specs.Parts.{Yields}
use Rattle.code_follows.specs.Scene.{Scene, IsScene, structs_in, frame_in, Lies, calls_in}
use Rattle.code_follows.specs.Laws.Coming.{pays, pays-some}
use Rattle.code_follows.specs.Laws.Going.{Goes-same, Goes-part, Goes-done, On-at}
use Rattle.code_follows.specs.Laws.Here.{and_then-gives}
use Rattle.code_follows.specs.Laws.Lying.{Lies-turn, Lies-none}
use Rattle.code_follows.specs.Laws.Scalars.{is_scalar_level}
use Rattle.stmt_follows.specs.Declarations.{ScalarInit, InitRuns, DeclarationRuns}
use Rattle.stmt_follows.specs.Expressions.{IsPlace, IsReady, moved, ExpressionsFollow}
use Rattle.stmt_follows.specs.Laws.Locals.Initialised.{Comes-only, not_array, never, starts_on, init_yields}
use Rattle.stmt_follows.specs.Laws.Proceeding.{Proceeds-part, Proceeds-same, Proceeds-done, Bounds-here}
use Rattle.stmt_follows.specs.Parts.{DeclsPart}
use Rattle.stmt_follows.specs.Ready.{ReadyInit, MaybeReadyInit, ReadyDecls, DeclarationsFollow}
use Rattle.stmt_follows.specs.Laws.Conditions.{ValueRuns-follows}

-- ---- one after another

-- codes in turn do what their runs do in turn
module _ {k : Scene} (scene : IsScene k) {X : Type 0} (P : X → Type 0) (code : X → Items) (run : X → Run (Unit {0}))
    (whole : List X → Run (Unit {0})) (none : whole [] ≡ gives tt)
    (more : (x : X) (xs : List X) → whole (x ∷ xs) ≡ and_then (run x) (λ y. whole xs))
    (each : (x : X) → P x → (from to : ℕ) → Lies k (code x) from to → Yields k 0 result false Comes-only from to 0 (run x)) where
  two_yield : (m n : Run (Unit {0})) (from middle to : ℕ) → Yields k 0 result false Comes-only from middle 0 m →
      Yields k 0 result false Comes-only middle to 0 n → Yields k 0 result false Comes-only from to 0 (and_then m (λ y. n))
  two_yield m n from middle to first rest = record {
    goes = λ now s within relates at.
        Goes-part first (omega arith) never (pays-some scene) (starts_on within relates at)
        (λ x then u j came gave. Goes-same (and_then-gives n then)
        (Goes-part {f = gives} rest (omega arith) never (pays-some scene) came
        (λ y last w i done gave. Goes-done tt done (omega arith) tt)));
  }

  in_turn_yield : (xs : List X) → All P xs → (from to : ℕ) → Lies k (in_turn (map code xs)) from to →
      Yields k 0 result false Comes-only from to 0 (whole xs)
  in_turn_yield [] of from to lies = subst (λ m. Yields k 0 result false Comes-only from to 0 m) (sym none) (record {
    goes = λ now s within relates at. Goes-done tt (On-at (Lies-none lies) (starts_on within relates at)) (omega arith) tt;
  })
  in_turn_yield (x ∷ xs) of from to lies =
      let parts = Lies-turn (code x) (map code xs) lies in
      subst (λ m. Yields k 0 result false Comes-only from to 0 m) (sym (more x xs))
      (two_yield (run x) (whole xs) from parts.middle to (each x (All-head P x xs of) from parts.middle parts.front)
      (in_turn_yield xs (All-tail P x xs of) parts.middle to parts.back))

pub declarations_yield : {k : Scene} {from to : ℕ} → IsPlace k → (parts : ExprParts) (depth : ℕ) (ds : List TDecl) →
    All (DeclarationRuns k parts) ds → Lies k (declarations (structs_in k) (frame_in k) ds) from to →
    Yields k 0 result false Comes-only from to 0 (meant k.here parts depth ds)
declarations_yield {k} {from} {to} place parts depth ds runs lies =
    in_turn_yield place.scene (DeclarationRuns k parts) (declaration (structs_in k) (frame_in k)) (meaning k.here parts depth)
    (meant k.here parts depth) refl (λ x xs. refl)
    (λ d of from to lies. init_yields place parts d depth d.init of.init from to lies) ds runs from to lies

-- declarations, wherever they stand
decls_part : {k : Scene} → IsPlace k → (parts : ExprParts) (depth : ℕ) (ds : List TDecl) → All (DeclarationRuns k parts) ds →
    DeclsPart k (declarations (structs_in k) (frame_in k) ds) (meant k.here parts depth ds)
decls_part {k} place parts depth ds runs = record {
  part = λ from to lies now s within relates at. Proceeds-same (and_then-gives (meant k.here parts depth ds) now)
      (Proceeds-part {f = gives} (declarations_yield place parts depth ds runs lies) (pays place.scene) (starts_on within relates at)
      (λ x then u n came is. Proceeds-done tt (Bounds-here came) (omega arith) came.came.comes));
}

-- ---- declarations in order

not_struct : (l : TyLayer) → is_scalar_level l ≡ true → is_there (struct_of_level l) ≡ false
not_struct (Ty-F.Int i) is = refl
not_struct (Ty-F.Pointer t) is = refl
not_struct _ is = absurd (cc)

neither : (x y : Bool) → x ≡ false → y ≡ false → (x || y) ≡ false
neither false false one other = refl
neither true y one other = absurd (cc)
neither x true one other = absurd (cc)

-- a scalar is initialised by an expression of its type
scalar_init : (s : Scope) (d : TDecl) (i : TInit) (info : LocalInfo) → slice_get s.function.locals d.local ≡ Some info →
    is_scalar info.ty ≡ true → (x : TInit-F TInit) → out-TInit i ≡ x → Initialises s info.ty x → ScalarInit s d i
scalar_init s d i info there is _ out (scalar {e = e} of order same) = record {
  e = e;
  is = out;
  info = info;
  info_is = there;
  type_is = sym same;
  scalar = ap (λ t. is_scalar t) same ∙ is;
  in_order = order;
}
scalar_init s d i info there is _ out (struct_value of order same) =
    let other : is_struct info.ty ≡ false = not_struct (out-Ty info.ty) is in
    absurd (cc)
scalar_init s d i info there is _ out (text of node bytes) =
    let other : is_array info.ty ≡ false = not_array (out-Ty info.ty) is in
    let array : is_array info.ty ≡ true = ap (λ o. is_there o) of in
    absurd (cc)
scalar_init s d i info there is _ out (zero_of_list of order int) =
    let other : (is_array info.ty || is_struct info.ty) ≡ false =
    neither (is_array info.ty) (is_struct info.ty) (not_array (out-Ty info.ty) is) (not_struct (out-Ty info.ty) is) in
    absurd (cc)
scalar_init s d i info there is _ out (elements of each) =
    let other : is_array info.ty ≡ false = not_array (out-Ty info.ty) is in
    let array : is_array info.ty ≡ true = ap (λ o. is_there o) of in
    absurd (cc)
scalar_init s d i info there is _ out (members of each) =
    let other : is_struct info.ty ≡ false = not_struct (out-Ty info.ty) is in
    let whole : is_struct info.ty ≡ true = ap (λ o. is_there o) of in
    absurd (cc)

module _ (k : Scene) (follow : ExpressionsFollow k) (scope : Scope) (here : Context) (depth : ℕ)
    (place : IsPlace (moved k scope here)) where
  abbrev parts : ExprParts
  parts = parts_at (calls_in k) here depth

  init_runs : (d : TDecl) (o : Option TInit) (info : LocalInfo) → slice_get scope.function.locals d.local ≡ Some info →
      IfSome o (λ i. Initialises scope info.ty (out-TInit i)) → MaybeReadyInit (frame_in k) scope.function d.local o →
      IfSome o (λ i. InitRuns (moved k scope here) parts d i)
  init_runs d None info there order ready = tt
  init_runs d (Some i) info there order ready =
      let init : ScalarInit scope d i = scalar_init scope d i info there (ready.0 info there) (out-TInit i) refl order in
      let is : IsReady (frame_in k) init.e = subst (λ x. ReadyInit (frame_in k) x) init.is ready.1 in
      record { init = init; runs = ValueRuns-follows is (follow.follows scope here depth init.e place.scene init.in_order is.covered_is) }

  all_run : (ds : List TDecl) → All (DeclarationInOrder scope) ds → ReadyDecls (frame_in k) scope.function ds →
      All (DeclarationRuns (moved k scope here) parts) ds
  all_run [] order ready = All-nil (DeclarationRuns (moved k scope here) parts)
  all_run (d ∷ ds) order ready =
      let one : DeclarationInOrder scope d = All-head (DeclarationInOrder scope) d ds order in
      All-cons (DeclarationRuns (moved k scope here) parts) d ds
      (record { init = init_runs d d.init one.info one.info_is one.init ready.0 })
      (all_run ds (All-tail (DeclarationInOrder scope) d ds order) ready.1)

-- the code of declarations that are ready does what they mean, where that of expressions does
pub declarations_follow : (k : Scene) → ExpressionsFollow k → DeclarationsFollow k
declarations_follow k follow = record {
  follows = λ scope here depth ds place order ready.
      decls_part place (parts_at (calls_in k) here depth) depth ds (all_run k follow scope here depth place ds order ready);
}
