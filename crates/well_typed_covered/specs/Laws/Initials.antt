-- Initialisers: each expression in them that is plain is covered (this project's own).
use Rattle.std.specs.Prelude.{◌≡◌, ℕ, ◌+◌, Bool, true, false, ◌&&◌, ◌||◌, not, List, [], ◌∷◌, map, Option, Some, None, refl}
use Rattle.std.specs.Prelude.{if◌then◌else◌}
use Rattle.std.specs.List.{AllByRecursion}
use Rattle.std.proofs.Common.{sym, subst, ◌∙◌}
use Rattle.c_ast.specs.declared.declaration.Init.{Init, roll-Init, map-Init}
use Rattle.c_ast.specs.declared.declaration.Init.TheFolds.{fold-roll-Init, ind-Init}
use Rattle.c_ast.specs.declared.declaration.Init.TheOpen.{Init-F}
use Rattle.c_ast.specs.declared.int_type.IntType.TheVariants as int
use Rattle.c_ast.specs.declared.token.Span.{Span}
use Rattle.c_type_base.specs.Known.{value, converted}
use Rattle.c_type_base.specs.Laws.Opened.{given_typed}
use Rattle.c_type_base.specs.Layout.{first_scalar}
use Rattle.c_type_base.specs.Sizes.{is_complete}
use Rattle.c_type_base.specs.Types.{TyLayer, is_char_type, is_struct}
use Rattle.c_type_base.specs.declared.expr.TExpr.{TExpr}
use Rattle.c_type_base.specs.declared.known.Known.{Known}
use Rattle.c_type_base.specs.declared.statement.TInit.{TInit}
use Rattle.c_type_base.specs.declared.statement.TInit.TheFolds.{fold-roll-TInit}
use Rattle.c_type_base.specs.declared.statement.TInit.TheOpen.{TInit-F}
use Rattle.c_type_base.specs.declared.statement.TInit.TheVariants as tinit
use Rattle.c_type_base.specs.declared.ty.Ty.{Ty, out-Ty}
use Rattle.c_type_base.specs.declared.ty.Ty.TheOpen.{Ty-F}
use Rattle.c_type_base.specs.declared.ty.Ty.TheVariants as ty
use Rattle.c_type_expr.specs.Environment.{Env}
use Rattle.c_type_expr.specs.Expressions.{expression}
use Rattle.c_type_expr.specs.Faults.{rule}
use Rattle.c_type_expr.specs.Operators.{breaks}
use Rattle.c_type_expr.specs.Outcomes.{Judged, sure, not_known, both, each, on, either, asked}
use Rattle.c_type_expr.specs.Said.{Said}
use Rattle.c_type_stmt.specs.Initials.{InitSaid, spelled, assigned, array_by, may_fit, expression_for, loose_all, too_many, fit_all}
use Rattle.c_type_stmt.specs.Initials.{moved_fitted, tree_of, in_braces, is_zero_list, is_aggregate_slot, zero_list, list_by, list_for}
use Rattle.c_type_stmt.specs.Initials.{slots, init_step, initialiser}
use Rattle.c_type_stmt.specs.declared.fitted.Fitted.{Fitted}
use Rattle.c_type_stmt.specs.declared.initial.Slot.{Slot}
use Rattle.code_follows.specs.Covered.{covered}
use Rattle.well_typed_covered.specs.Always.{IfThere, Always}
use Rattle.well_typed_covered.specs.Constants.{all_fit, init_fits, constants_fit_init}
use Rattle.well_typed_covered.specs.CoveredBodies.{covered_if_plain}
use Rattle.well_typed_covered.specs.Everywhere.{all_pass, init_passes, each_in_init}
use Rattle.well_typed_covered.specs.Laws.Always.{always-any, always-sure, always-on, always-both, always-each, always-either}
use Rattle.well_typed_covered.specs.Laws.Expressions.{expression-covered}
use Rattle.well_typed_covered.specs.Laws.Known.{KnownCovers, value-covers, converted-covers}
use Rattle.well_typed_covered.specs.Laws.Trees.{Covers, and-true, first-of, second-of}
use Rattle.well_typed_covered.specs.Plain.{is_plain}

implied : (a b : Bool) → (a ≡ true → b ≡ true) → (not a || b) ≡ true
implied true b is = is refl
implied false b is = refl

pub passes-by : {n : ℕ} (e : TExpr) → Covers n e → covered_if_plain e ≡ true
passes-by e covers = implied (is_plain e) (covered e) covers.covers

-- ---- trees

abbrev pub InitCovered : TInit → Type 0
InitCovered i = each_in_init covered_if_plain i ≡ true

abbrev pub FittedCovered : Fitted → Type 0
FittedCovered f = InitCovered f.tree

one_covered : {n : ℕ} (e : TExpr) → Covers n e → InitCovered (tinit.One e)
unfolding given_typed
one_covered e covers = fold-roll-TInit Bool (init_passes covered_if_plain) (TInit-F.One e) ∙ passes-by e covers

all_trees : (fs : List Fitted) → AllByRecursion FittedCovered fs →
    all_pass (map (each_in_init covered_if_plain) (map tree_of fs)) ≡ true
all_trees [] all = refl
all_trees (f ∷ fs) all = and-true (each_in_init covered_if_plain f.tree) (all_pass (map (each_in_init covered_if_plain) (map tree_of fs)))
    all.0 (all_trees fs all.1)

list_covered : (fs : List Fitted) (span : Span) → AllByRecursion FittedCovered fs → InitCovered (tinit.List (map tree_of fs) span)
unfolding given_typed
list_covered fs span all =
    fold-roll-TInit Bool (init_passes covered_if_plain) (TInit-F.List (map tree_of fs) span) ∙ all_trees fs all

-- ---- an expression

assigned_always : (span : Span) (b : Bool) (t : Ty) (k : Known) → KnownCovers k → Always FittedCovered (assigned span b t k)
assigned_always span b t k known = record { known = λ env. one_covered (converted t k).tree (converted-covers t k known) }

-- no text for an array
no_text : (span : Span) (e : Judged Known) (f : Known → Judged Fitted) → ((k : Known) → Always FittedCovered (f k)) →
    Always FittedCovered (either e (breaks 16 span) f)
no_text span e f each = always-either e (breaks 16 span) f (always-any e) (record { known = λ env. tt }) (λ k any. each k)

array_always : (span : Span) (e : Judged Known) → Always KnownCovers e → (text : Option (List ℕ)) (char : Bool) (n : ℕ) →
    Always FittedCovered (array_by span e text char n)
array_always span e of_e (Some bytes) true n =
    always-on e (spelled span n bytes) of_e (λ k known. record { known = λ env. one_covered k.tree known })
array_always span e of_e None char n = no_text span e _ (λ k. record { known = λ env. tt })
array_always span e of_e (Some bytes) false n = no_text span e _ (λ k. record { known = λ env. tt })

value_always : (e : Said) (b : Bool) (t : Ty) (fits : Bool) → Always KnownCovers e.judged →
    Always FittedCovered (either e.judged (asked e.span (rule 16 fits ∷ [])) (λ k. assigned e.span b t (value k)))
value_always e b t fits of_e = always-either e.judged (asked e.span (rule 16 fits ∷ [])) (λ k. assigned e.span b t (value k)) of_e
    (record { known = λ env. tt }) (λ k known. assigned_always e.span b t (value k) (value-covers k known))

for_always : (e : Said) (b : Bool) (t : Ty) (l : TyLayer) → Always KnownCovers e.judged → Always FittedCovered (expression_for e b t l)
for_always e b t (Ty-F.Array element n) of_e = array_always e.span e.judged of_e e.text (is_char_type element) n
for_always e b t Ty-F.Void of_e = value_always e b t (may_fit b e.computes Ty-F.Void) of_e
for_always e b t (Ty-F.Int i) of_e = value_always e b t (may_fit b e.computes (Ty-F.Int i)) of_e
for_always e b t (Ty-F.Pointer u) of_e = value_always e b t (may_fit b e.computes (Ty-F.Pointer u)) of_e
for_always e b t (Ty-F.Struct n) of_e = value_always e b t (may_fit b e.computes (Ty-F.Struct n)) of_e

-- ---- a list

-- whatever it is for
abbrev pub InitAlways : InitSaid → Type 0
InitAlways i = (b : Bool) (t : Ty) → Always FittedCovered (i.fitted b t)

either_known : {A : Type 0} (P : A → Type 0) (c : Bool) (p q : Judged A) (env : Env) → Always P p → Always P q →
    IfThere P ((if c then p env else q env).known)
either_known P true p q env first second = first.known env
either_known P false p q env first second = second.known env

if_always : {A : Type 0} (P : A → Type 0) (c : Bool) (p q : Judged A) → Always P p → Always P q → Always P (if c then p else q)
if_always P true p q first second = first
if_always P false p q first second = second

-- it is not known
nothing : {A B : Type 0} (P : B → Type 0) (p : Judged A) → Always P (on p (λ (x : A). not_known {A = B}))
nothing P p = always-on p (λ x. not_known) (always-any p) (λ x any. record { known = λ env. tt })

abbrev fit_rest : (ℕ → Option Slot) → Bool → ℕ → InitSaid → List InitSaid → Option Slot → Judged (List Fitted)
fit_rest slot b k i is o = elim o [
  | None ↦ on (both (too_many i) (loose_all is)) (λ x. not_known)
  | Some s ↦ on (both (i.fitted b s.ty) (fit_all slot b (k + 1) is)) (λ (f, fs). sure (moved_fitted s.offset f ∷ fs))
]

rest_always : (slot : ℕ → Option Slot) (b : Bool) (k : ℕ) (i : InitSaid) (is : List InitSaid) → InitAlways i →
    Always (AllByRecursion FittedCovered) (fit_all slot b (k + 1) is) → (o : Option Slot) →
    Always (AllByRecursion FittedCovered) (fit_rest slot b k i is o)
rest_always slot b k i is one rest None = nothing (AllByRecursion FittedCovered) (both (too_many i) (loose_all is))
rest_always slot b k i is one rest (Some s) =
    always-on (both (i.fitted b s.ty) (fit_all slot b (k + 1) is)) (λ (f, fs). sure (moved_fitted s.offset f ∷ fs))
    (always-both (i.fitted b s.ty) (fit_all slot b (k + 1) is) (one b s.ty) rest)
    (λ v known. always-sure (moved_fitted s.offset v.0 ∷ v.1) (known.0, known.1))

fit_all_always : (slot : ℕ → Option Slot) (b : Bool) (k : ℕ) (is : List InitSaid) → AllByRecursion InitAlways is →
    Always (AllByRecursion FittedCovered) (fit_all slot b k is)
fit_all_always slot b k [] all = always-sure [] tt
fit_all_always slot b k (i ∷ is) all = rest_always slot b k i is all.0 (fit_all_always slot b (k + 1) is all.1) (slot k)

zeros_always : (is : List InitSaid) → AllByRecursion InitAlways is →
    AllByRecursion (Always FittedCovered) (map (λ (i : InitSaid). i.fitted false (ty.Int int.Int)) is)
zeros_always [] all = tt
zeros_always (i ∷ is) all = (all.0 false (ty.Int int.Int), zeros_always is all.1)

zero_list_always : (span : Span) (is : List InitSaid) (bytes : ℕ) → AllByRecursion InitAlways is →
    Always FittedCovered (zero_list span is bytes)
zero_list_always span is bytes all = always-on (each (map (λ i. i.fitted false (ty.Int int.Int)) is)) _
    (always-each (map (λ i. i.fitted false (ty.Int int.Int)) is) (zeros_always is all))
    (λ fs known. record { known = λ env. list_covered fs span known })

list_by_always : (span : Span) (is : List InitSaid) (b : Bool) (bytes : ℕ) (o : Option (ℕ → Option Slot)) →
    AllByRecursion InitAlways is → Always FittedCovered (list_by span is b bytes o)
list_by_always span is b bytes None all =
    always-on (loose_all is) (λ x. breaks 16 span) (always-any (loose_all is)) (λ x any. record { known = λ env. tt })
list_by_always span is b bytes (Some slot) all =
    if_always FittedCovered (is_zero_list is && is_aggregate_slot (slot 0)) (zero_list span is bytes)
    (on (fit_all slot b 0 is) (λ fs. sure (in_braces span fs))) (zero_list_always span is bytes all)
    (always-on (fit_all slot b 0 is) (λ fs. sure (in_braces span fs)) (fit_all_always slot b 0 is all)
    (λ fs known. always-sure (in_braces span fs) (list_covered fs span known)))

list_always : (span : Span) (is : List InitSaid) → AllByRecursion InitAlways is → (b : Bool) (t : Ty) →
    Always FittedCovered (list_for span is b t)
list_always span is all b t = record {
  known = λ env. either_known FittedCovered (is_struct t && (if is_complete env.structs t then false else true))
      (on (loose_all is) (λ x. not_known)) (list_by span is b (first_scalar env.structs t) (slots env.structs (out-Ty t))) env
      (nothing FittedCovered (loose_all is))
      (list_by_always span is b (first_scalar env.structs t) (slots env.structs (out-Ty t)) all);
}

-- ---- all of them

abbrev InitFine : Init → Type 0
InitFine i = constants_fit_init i ≡ true → InitAlways (initialiser i)

abbrev WithInit : Type 0
WithInit = (i : Init) × InitFine i

inits_with : Init-F WithInit → Init-F Init
inits_with = map-Init WithInit Init (λ i. i.0)

abbrev inits_of : List WithInit → List Init
inits_of is = map (λ i. i.0) is

each_fine : (is : List WithInit) → all_fit (map constants_fit_init (inits_of is)) ≡ true →
    AllByRecursion InitAlways (map initialiser (inits_of is))
each_fine [] fit = tt
each_fine (i ∷ is) fit = (
  i.1 (first-of (constants_fit_init i.0) (all_fit (map constants_fit_init (inits_of is))) fit),
  each_fine is (second-of (constants_fit_init i.0) (all_fit (map constants_fit_init (inits_of is))) fit),
)

init_is : (d : Init-F Init) →
    (init_fits (map-Init Init Bool constants_fit_init d) ≡ true → InitAlways (init_step (map-Init Init InitSaid initialiser d))) →
    InitFine (roll-Init d)
init_is d always fits =
    subst InitAlways (sym (fold-roll-Init InitSaid init_step d)) (always (sym (fold-roll-Init Bool init_fits d) ∙ fits))

init_fine : (y : Init-F WithInit) → InitFine (roll-Init (inits_with y))
unfolding inits_with
init_fine (Init-F.One e) =
    init_is (Init-F.One e) (λ fits b t. for_always (expression e) b t (out-Ty t) (expression-covered e fits))
init_fine (Init-F.List is span) = init_is (Init-F.List (inits_of is) span)
    (λ fits b t. list_always span (map initialiser (inits_of is)) (each_fine is fits) b t)

inits_fine : (x : Init-F Init) (y : Init-F WithInit) → inits_with y ≡ x → InitFine (roll-Init x)
inits_fine x y is = subst (λ x. InitFine (roll-Init x)) is (init_fine y)

-- What is known of an initialiser, whatever it is for: each expression in it that is plain is covered, if its constants fit.
pub initialiser-covered : (i : Init) → constants_fit_init i ≡ true → InitAlways (initialiser i)
unfolding inits_with
initialiser-covered = ind-Init InitFine inits_fine
