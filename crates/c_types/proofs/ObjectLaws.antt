-- An object at file scope is walked part by part.
use Rattle.std.proofs.Common.{◌≡◌, refl, sym, ◌∙◌, ap, subst, ℕ, ◌+◌, ◌<◌, Bool, true, false, not, List, [], ◌∷◌, ◌++◌, length, take}
use Rattle.std.proofs.Common.{get_or, Option, Some, None}
use Rattle.std.specs.Prelude.{leb}
use Rattle.std.specs.Str.{bytes_eq}
use Rattle.std.proofs.lemmas.List.{take_more}
use Rattle.c_ast.specs.declared.declaration.Decl.{Decl}
use Rattle.c_ast.specs.declared.declaration.Storage.{Storage}
use Rattle.c_ast.specs.declared.declaration.Storage.TheVariants as storage
use Rattle.c_ast.specs.declared.token.Span.{Span}
use Rattle.c_type_base.specs.declared.ty.Ty.{Ty}
use Rattle.c_type_base.specs.Sizes.{is_complete, size, largest}
use Rattle.c_type_expr.specs.declared.fault.Fault.{Fault}
use Rattle.c_type_expr.specs.declared.scopes.Meaning.TheVariants as means
use Rattle.c_type_expr.specs.declared.walk.Walk.{Walk}
use Rattle.c_type_expr.specs.Environment.{binds}
use Rattle.c_type_expr.specs.Faults.{Rule, rule, broken}
use Rattle.c_type_expr.specs.Scoping.{with_binding}
use Rattle.c_type_expr.specs.Walked.{blamed}
use Rattle.c_type_expr.specs.Laws.WalkedLaws.{first_with-append}
use Rattle.c_type_stmt.specs.declared.fitted.Fitted.{Fitted}
use Rattle.c_type_stmt.specs.Declarations.{init_of, declared_type, object_rules, initialised}
use Rattle.c_type_stmt.specs.Initials.{InitSaid}
use Rattle.c_types.specs.declared.file_walk.FileWalk.{FileWalk}
use Rattle.c_types.specs.Files.{FileNames, object_place, is_extern}
use Rattle.c_types.specs.Functions.{main_name}
use Rattle.c_types.specs.Recalled.{Recalls}
use Rattle.c_types.specs.Redeclarations.{Declared, may_stand}
use Rattle.c_types.specs.Standing.{Stands, FileStands, Passed}
use Rattle.c_types.specs.Units.{Judgement, with_outcome, with_faults, with_names, extern_rules, pieces_in, global_of}
use Rattle.c_types.specs.Units.{object_declared, object_judged, objects_judged}
use Rattle.c_types.specs.Laws.StandingLaws.{stands_faults, stands_names}

-- ---- its rules

pub blamed_after_two : (w : Walk) (span : Span) (m n : ℕ) (a b : Bool) (rs : List Rule) →
    blamed (blamed w (broken span (rule m a ∷ rule n b ∷ []))) (broken span rs) ≡ blamed w (broken span (rule m a ∷ rule n b ∷ rs))
blamed_after_two w span m n true true rs = refl
blamed_after_two w span m n true false rs = refl
blamed_after_two w span m n false true rs = refl
blamed_after_two w span m n false false rs = refl

pub typed_asked : (w w1 w2 : Walk) (span : Span) (agrees other complete small : Bool) (t : Ty) →
    w1 ≡ blamed w (broken span (rule 10 agrees ∷ rule 19 other ∷ [])) →
    w2 ≡ blamed w1 (broken span (rule 15 complete ∷ rule 17 small ∷ [])) → complete ≡ is_complete w.structs t →
    small ≡ leb (size w.structs t) largest →
    w2 ≡ blamed w (broken span (rule 10 agrees ∷ rule 19 other ∷ object_rules w.structs (Some t)))
typed_asked w w1 w2 span agrees other complete small t first second whole fits =
    second ∙ ap (λ (x : Walk). blamed x (broken span (rule 15 complete ∷ rule 17 small ∷ []))) first
    ∙ blamed_after_two w span 10 19 agrees other (rule 15 complete ∷ rule 17 small ∷ [])
    ∙ (λ i. blamed w (broken span (rule 10 agrees ∷ rule 19 other ∷ rule 15 (whole i) ∷ rule 17 (fits i) ∷ [])))

pub extern_asked : (w : Walk) (c : Storage) (i : InitSaid) →
    blamed w (broken i.span (rule 16 (not (is_extern c)) ∷ [])) ≡ blamed w (extern_rules c (Some i))
extern_asked w storage.None i = refl
extern_asked w storage.Static i = refl
extern_asked w storage.Extern i = refl

pub extern_none : (w : Walk) (c : Storage) → w ≡ blamed w (extern_rules c None)
extern_none w storage.None = refl
extern_none w storage.Static = refl
extern_none w storage.Extern = refl

blamed_both : (w w1 w2 : Walk) (xs ys : List Fault) → w1 ≡ blamed w xs → w2 ≡ blamed w1 ys → w2 ≡ blamed w (xs ++ ys)
blamed_both w w1 w2 xs ys first second =
    second ∙ ap (λ (x : Walk). blamed x ys) first ∙ (λ i. record w { first = sym (first_with-append w.first xs ys) i })

-- ---- its parts

-- an object behind its type
abbrev behind_type : FileNames → Storage → Judgement → Decl → Judgement → Option Ty → Judgement
behind_type names c j d typed t =
    let named = with_names typed (binds d.name (means.Object (object_place names d.name) t) ∷ []) in
    let i = initialised true t (init_of d) named.env in
    let this = object_declared c d t in
    let rules = rule 10 (may_stand names j.declared this) ∷ rule 19 (not (bytes_eq d.name main_name)) ∷ object_rules j.env.structs t in
    let judged = with_faults (with_outcome named i) (extern_rules c (init_of d) ++ broken d.span rules) in
    record judged { declared = this ∷ j.declared; globals = j.globals ++ global_of c d t (pieces_in i.known) }

-- what the code finds of an object behind its type
pub record Found (names : FileNames) (c : Storage) (d : Decl) (f : FileWalk) (w1 : Walk) (t : Option Ty) (after : FileWalk) : Type 0 where
  pub i : Option (Option Fitted)
  pub this : Declared
  pub agrees : Bool
  pub w2 : Walk
  pub w3 : Walk
  pub w4 : Walk
  pub named : w2 ≡ record w1 { scopes = with_binding w1.scopes (binds d.name (means.Object (object_place names d.name) t)) }
  pub begins : (j : Judgement) → Stands w2 j → Passed (initialised true t (init_of d)) j w3 i
  pub this_is : this ≡ object_declared c d t
  pub agrees_is : (ds : List Declared) → Recalls f.declared ds → agrees ≡ may_stand names ds this
  pub apart : w4 ≡ blamed w3 (extern_rules c (init_of d))
  pub asked : after.walk ≡
      blamed w4 (broken d.span (rule 10 agrees ∷ rule 19 (not (bytes_eq d.name main_name)) ∷ object_rules w4.structs t))
  pub grows : (ds : List Declared) → Recalls f.declared ds → Recalls after.declared (this ∷ ds)
  pub globals_are : after.globals ≡ f.globals ++ global_of c d t (pieces_in i)
  pub functions_are : after.functions ≡ f.functions

found_stands : (names : FileNames) (c : Storage) (d : Decl) (f after : FileWalk) (w1 : Walk) (t : Option Ty) →
    Found names c d f w1 t after → (j typed : Judgement) → FileStands f j → Stands w1 typed → typed.env.structs ≡ j.env.structs →
    typed.functions ≡ j.functions → FileStands after (behind_type names c j d typed t)
found_stands names c d f after w1 t found j typed before first same functions =
    let binding = binds d.name (means.Object (object_place names d.name) t) ∷ [] in
    let named = with_names typed binding in
    let i = initialised true t (init_of d) named.env in
    let second : Stands found.w2 named =
    stands_names binding w1 found.w2 typed first found.named in
    let third = found.begins named second in
    let structs : found.w4.structs ≡ j.env.structs =
    ap (λ (x : Walk). x.structs) found.apart ∙ ap (λ e. e.structs) third.stands.env_is ∙ same in
    let agrees : found.agrees ≡ may_stand names j.declared (object_declared c d t) =
    found.agrees_is j.declared before.recalls ∙ ap (may_stand names j.declared) found.this_is in
    let rules = rule 10 (may_stand names j.declared (object_declared c d t)) ∷ rule 19 (not (bytes_eq d.name main_name)) ∷
    object_rules j.env.structs t in
    let asked : after.walk ≡ blamed found.w4 (broken d.span rules) =
    found.asked
    ∙ (λ k. blamed found.w4 (broken d.span
    (rule 10 (agrees k) ∷ rule 19 (not (bytes_eq d.name main_name)) ∷ object_rules (structs k) t))) in
    let last : Stands after.walk (with_faults (with_outcome named i) (extern_rules c (init_of d) ++ broken d.span rules)) =
    stands_faults (extern_rules c (init_of d) ++ broken d.span rules) found.w3 after.walk (with_outcome named i) third.stands
    (blamed_both found.w3 found.w4 after.walk (extern_rules c (init_of d)) (broken d.span rules) found.apart asked) in
    record {
      walk_stands = record {
        env_is = last.env_is;
        texts_are = last.texts_are;
        locals_are = last.locals_are;
        first_is = last.first_is;
      };
      recalls = subst (λ this. Recalls after.declared (this ∷ j.declared)) found.this_is (found.grows j.declared before.recalls);
      globals_are = found.globals_are ∙ ap (λ g. g ++ global_of c d t (pieces_in found.i)) before.globals_are
          ∙ ap (λ k. j.globals ++ global_of c d t (pieces_in k)) third.known_is;
      functions_are = found.functions_are ∙ before.functions_are ∙ sym functions;
    }

pub object_stands : (names : FileNames) (c : Storage) (d : Decl) (f after : FileWalk) (w1 : Walk) (t : Option Ty) →
    ((j : Judgement) → Stands f.walk j → Passed (declared_type d) j w1 t) → Found names c d f w1 t after →
    (j : Judgement) → FileStands f j → FileStands after (object_judged names c j d)
object_stands names c d f after w1 t passes found j before =
    let first = passes j before.walk_stands in
    let typed = with_outcome j (declared_type d j.env) in
    subst (λ k. FileStands after (behind_type names c j d typed k)) first.known_is
    (found_stands names c d f after w1 t found j typed before first.stands refl refl)

-- ---- several in a row

objects-append : (names : FileNames) (c : Storage) (j : Judgement) (ds : List Decl) (d : Decl) →
    objects_judged names c j (ds ++ d ∷ []) ≡ object_judged names c (objects_judged names c j ds) d
objects-append names c j [] d = refl
objects-append names c j (e ∷ ds) d = objects-append names c (object_judged names c j e) ds d

pub objects_next : (names : FileNames) (c : Storage) (ds : List Decl) (i : ℕ) (d : Decl) (f f1 f2 : FileWalk) → i < length ds →
    d ≡ get_or ds i d → ((j : Judgement) → FileStands f j → FileStands f1 (objects_judged names c j (take i ds))) →
    ((j : Judgement) → FileStands f1 j → FileStands f2 (object_judged names c j d)) →
    (j : Judgement) → FileStands f j → FileStands f2 (objects_judged names c j (take (i + 1) ds))
objects_next names c ds i d f f1 f2 below is before one j stands =
    let so_far = objects_judged names c j (take i ds) in
    subst (λ l. FileStands f2 (objects_judged names c j l)) (sym (take_more ds i d below))
    (subst (FileStands f2) (sym (objects-append names c j (take i ds) (get_or ds i d)))
    (subst (λ x. FileStands f2 (object_judged names c so_far x)) is (one so_far (before j stands))))
