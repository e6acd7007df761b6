-- Objects at file scope that keep all rules: their types are known, and the addresses that they begin with are there.
use Rattle.std.proofs.Common.{◌≡◌, refl, true, [], ◌∷◌, ◌++◌, Option, Some, None}
use Rattle.std.specs.Prelude.{not, leb}
use Rattle.std.specs.List.{AllByRecursion}
use Rattle.std.specs.Str.{bytes_eq}
use Rattle.c_ast.specs.declared.declaration.Decl.{Decl}
use Rattle.c_ast.specs.declared.declaration.Storage.{Storage}
use Rattle.c_type_base.specs.Sizes.{size, is_complete, largest}
use Rattle.c_type_base.specs.declared.ty.Ty.{Ty}
use Rattle.c_type_expr.specs.declared.scopes.Meaning.TheVariants as means
use Rattle.c_type_expr.specs.Environment.{binds}
use Rattle.c_type_expr.specs.Faults.{rule, broken}
use Rattle.c_type_expr.specs.Outcomes.{Outcome}
use Rattle.c_type_stmt.specs.Declarations.{init_of, declared_type, object_rules, initialised}
use Rattle.c_type_stmt.specs.declared.fitted.Fitted.{Fitted}
use Rattle.c_types.specs.Files.{object_place}
use Rattle.c_types.specs.declared.names.FileNames.{FileNames}
use Rattle.c_types.specs.Functions.{main_name}
use Rattle.c_types.specs.Redeclarations.{may_stand}
use Rattle.c_types.specs.Units.{Judgement, with_outcome, with_names, with_faults, extern_rules, pieces_in, global_of, object_declared}
use Rattle.c_types.specs.Units.{object_judged}
use Rattle.block_meaning.specs.ExpressionsInOrder.{Scope}
use Rattle.well_typed_order.specs.Standing.{MeansIn, TextsIn, There}
use Rattle.well_typed_order.specs.Laws.Binary.{kept-first, kept-rest}
use Rattle.well_typed_order.specs.Laws.Good.{front, back, texts-front, none-is}
use Rattle.well_typed_order.specs.Laws.FirstBytes.{FitsIn, PieceIn}
use Rattle.well_typed_order.specs.Laws.Judged.{At, env-like, at-outcome, at-names, at-good}
use Rattle.well_typed_order.specs.Laws.Locals.{declared-good, initialised-good, initialised-silent}
use Rattle.well_typed_order.specs.Laws.Parts.{Perhaps, no-names}

-- behind the name of an object whose type is known or not
abbrev pub object_named : FileNames → Judgement → Decl → Option Ty → Judgement
object_named names j d t =
    with_names (with_outcome j (declared_type d j.env)) (binds d.name (means.Object (object_place names d.name) t) ∷ [])

-- its initialiser
abbrev pub object_begun : FileNames → Judgement → Decl → Option Ty → Outcome (Option Fitted)
object_begun names j d t = initialised true t (init_of d) (object_named names j d t).env

-- and all of it
abbrev pub object_by : FileNames → Storage → Judgement → Decl → Option Ty → Judgement
object_by names c j d t =
    let this = object_declared c d t in
    let i = object_begun names j d t in
    let rules = rule 10 (may_stand names j.declared this) ∷ rule 19 (not (bytes_eq d.name main_name)) ∷ object_rules j.env.structs t in
    let judged = with_faults (with_outcome (object_named names j d t) i) (extern_rules c (init_of d) ++ broken d.span rules) in
    record judged { declared = this ∷ j.declared; globals = j.globals ++ global_of c d t (pieces_in i.known) }

pub record ObjectFine (s : Scope) (names : FileNames) (c : Storage) (j : Judgement) (d : Decl) (o : Option Ty) : Type 0 where
  pub at : At s (object_by names c j d o)
  pub ty : Ty
  pub known : o ≡ Some ty
  pub complete : is_complete j.env.structs ty ≡ true
  pub may : may_stand names j.declared (object_declared c d o) ≡ true
  pub pieces : AllByRecursion (PieceIn s) (pieces_in (object_begun names j d o).known)

module _ (s : Scope) (names : FileNames) (c : Storage) (j : Judgement) (d : Decl) (at : At s j) where
  pieces_there : (t : Ty) (o : Option (Option Fitted)) → There o (Perhaps (FitsIn s t)) → AllByRecursion (PieceIn s) (pieces_in o)
  pieces_there t None fits = tt
  pieces_there t (Some None) fits = tt
  pieces_there t (Some (Some f)) fits = fits.pieces

  abbrev type_there : Outcome Ty
  type_there = declared_type d j.env

  at_typed : At s (with_outcome j type_there)
  at_typed = at-outcome s j type_there (no-names (MeansIn s) type_there.names ((declared-good s d).silent j.env)) at

  type_known : (with_outcome j type_there).faults ≡ [] → TextsIn s 0 (with_outcome j type_there).texts →
      There type_there.known (λ (t : Ty). Unit {0})
  type_known kept texts = at-good s j (declared_type d) (declared-good s d) at tt kept texts

  by_type : (o : Option Ty) → type_there.known ≡ o → (object_by names c j d o).faults ≡ [] →
      TextsIn s 0 (object_by names c j d o).texts →
      ((t : Ty) → o ≡ Some t → is_complete j.env.structs t ≡ true → MeansIn s (means.Object (object_place names d.name) (Some t))) →
      ObjectFine s names c j d o
  by_type None is kept texts mean =
      let typed = with_outcome j type_there in
      let named = object_named names j d None in
      let read = with_outcome named (object_begun names j d None) in
      let typed_kept = front typed.faults [] (front named.faults (object_begun names j d None).faults (front read.faults _ kept)) in
      let typed_texts = texts-front s 0 typed.texts [] (texts-front s 0 named.texts (object_begun names j d None).texts texts) in
      absurd (none-is (λ (t : Ty). Unit {0}) type_there.known is (type_known typed_kept typed_texts))
  by_type (Some t) is kept texts mean =
      let o = Some t in
      let named = object_named names j d o in
      let i = object_begun names j d o in
      let read = with_outcome named i in
      let may = may_stand names j.declared (object_declared c d o) in
      let no_main = not (bytes_eq d.name main_name) in
      let small = rule 17 (leb (size j.env.structs t) largest) ∷ [] in
      let whole = rule 15 (is_complete j.env.structs t) ∷ small in
      let own = back (extern_rules c (init_of d)) _ (back read.faults _ kept) in
      let complete = kept-first d.span 15 (is_complete j.env.structs t) small
      (kept-rest d.span 19 no_main whole (kept-rest d.span 10 may (rule 19 no_main ∷ whole) own)) in
      let at_named : At s named = at-names s (with_outcome j type_there)
      (binds d.name (means.Object (object_place names d.name) o) ∷ []) (mean t refl complete, tt) at_typed in
      let fits = at-good s named (initialised true o (init_of d)) (initialised-good s true d t) at_named complete
      (front read.faults _ kept) texts in
      let at_read = at-outcome s named i (no-names (MeansIn s) i.names (initialised-silent s true d o named.env)) at_named in
      record {
        at = record { env = env-like s read.env (object_by names c j d o).env refl refl at_read.env; texts_are = at_read.texts_are };
        ty = t;
        known = refl;
        complete = complete;
        may = kept-first d.span 10 may (rule 19 no_main ∷ whole) own;
        pieces = pieces_there t i.known fits;
      }

  -- where no rule is broken, and what its name means is there
  pub object-fine : (object_judged names c j d).faults ≡ [] → TextsIn s 0 (object_judged names c j d).texts →
      ((t : Ty) → (declared_type d j.env).known ≡ Some t → is_complete j.env.structs t ≡ true →
      MeansIn s (means.Object (object_place names d.name) (Some t))) →
      ObjectFine s names c j d (declared_type d j.env).known
  object-fine kept texts mean = by_type type_there.known refl kept texts mean
