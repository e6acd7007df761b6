-- Initialisers declare no local and break rules of the numbers 9 to 19 alone; so does what gives an object its type.
use Rattle.std.proofs.Common.{◌≡◌, refl, sym, subst, ℕ, ◌+◌, Bool, true, false, List, [], ◌∷◌, map, Option, Some, None}
use Rattle.std.specs.Prelude.{◌&&◌, if◌then◌else◌}
use Rattle.c_ast.specs.Laws.Opened.{given_trees}
use Rattle.c_ast.specs.declared.token.Span.{Span}
use Rattle.c_ast.specs.declared.int_type.IntType.TheVariants as int
use Rattle.c_ast.specs.declared.declaration.Decl.{Decl}
use Rattle.c_ast.specs.declared.declaration.Init.{Init, roll-Init, map-Init}
use Rattle.c_ast.specs.declared.declaration.Init.TheOpen.{Init-F}
use Rattle.c_ast.specs.declared.declaration.Init.TheFolds.{ind-Init}
use Rattle.c_type_base.specs.declared.ty.Ty.{Ty, out-Ty}
use Rattle.c_type_base.specs.declared.ty.Ty.TheOpen.{Ty-F}
use Rattle.c_type_base.specs.declared.statement.TInit.TheVariants as tinit
use Rattle.c_type_base.specs.declared.typed.InitValue.TheVariants as initial_value
use Rattle.c_type_stmt.specs.declared.fitted.Fitted.{Fitted}
use Rattle.c_type_stmt.specs.declared.initial.Slot.{Slot}
use Rattle.c_type_stmt.specs.Initials.{InitSaid, initialiser, piece, spelled, array_by, may_fit, expression_for, assigned, slots}
use Rattle.c_type_stmt.specs.Initials.{moved_fitted, loose_all, too_many, fit_all, tree_of, in_braces, is_zero_list, is_aggregate_slot}
use Rattle.c_type_stmt.specs.Initials.{zero_list, list_by, list_for}
use Rattle.c_type_stmt.specs.Declarations.{init_of, object_type, declared_type, fits_object, initialised}
use Rattle.c_type_stmt.specs.Laws.SaidLaws.{said-one, said-list}
use Rattle.c_type_base.specs.declared.known.Known.{Known}
use Rattle.c_type_base.specs.Known.{value, is_value}
use Rattle.c_type_base.specs.Layout.{first_scalar}
use Rattle.c_type_base.specs.Sizes.{is_complete}
use Rattle.c_type_base.specs.Types.{TyLayer, is_char_type, is_struct}
use Rattle.c_type_base.specs.declared.ty.Ty.TheVariants as ty
use Rattle.c_type_expr.specs.Outcomes.{Outcome, Judged, sure, both, each, on, asked, ruled, not_known, option_map}
use Rattle.c_type_expr.specs.Faults.{rule, fault}
use Rattle.c_type_expr.specs.Operators.{breaks}
use Rattle.c_type_expr.specs.Said.{Said}
use Rattle.c_type_expr.specs.Expressions.{expression, written}
use Rattle.c_types.specs.Laws.QuietRows.{IsQuiet, Quiet, at_once, rules_quiet, rules_joined, both_quiet, AllQuiet, each_quiet, on_quiet}
use Rattle.c_types.specs.Laws.QuietRows.{either_quiet, none, some}
use Rattle.c_types.specs.Laws.QuietLaws.{expression_quiet, written_quiet}

text_quiet : (span : Span) (e : Judged Known) (text : Option (List ℕ)) (char : Bool) (n : ℕ) → Quiet e →
    Quiet (array_by span e text char n)
text_quiet span e (Some bytes) true n quiet = on_quiet e (spelled span n bytes) quiet (λ k env. search (rules_quiet))
text_quiet span e _ _ n quiet =
    either_quiet e (breaks 16 span) (λ k. asked span (rule 12 (is_value k) ∷ rule 16 false ∷ [])) quiet
    (λ env. at_once _ refl refl) (λ k env. search (rules_quiet))

for_quiet : (e : Said) (from_start : Bool) (t : Ty) (level : TyLayer) → Quiet e.judged → Quiet (expression_for e from_start t level)
for_quiet e from_start t (Ty-F.Array element n) quiet = text_quiet e.span e.judged e.text (is_char_type element) n quiet
for_quiet e from_start t level quiet =
    either_quiet e.judged (asked e.span (rule 16 (may_fit from_start e.computes level) ∷ [])) (λ k. assigned e.span from_start t (value k))
    quiet (λ env. search (rules_quiet)) (λ k env. search (rules_quiet))

-- what is said of an initialiser declares no local
pub record InitQuiet (i : InitSaid) : Type 0 where
  pub loose : Quiet i.loose
  pub fitted : (from_start : Bool) (t : Ty) → Quiet (i.fitted from_start t)

-- so it is for each of a list
data AllInits : List InitSaid → Type 0 where
  empty : AllInits []
  more : {i : InitSaid} {is : List InitSaid} → InitQuiet i → AllInits is → AllInits (i ∷ is)

looses : (is : List InitSaid) → AllInits is → AllQuiet (map (λ i. i.loose) is)
looses [] empty = none
looses (i ∷ is) (more one all) = some one.loose (looses is all)

loose_quiet : (is : List InitSaid) → AllInits is → Quiet (loose_all is)
loose_quiet is all = each_quiet (map (λ i. i.loose) is) (looses is all)

integers : (is : List InitSaid) → AllInits is → AllQuiet (map (λ i. i.fitted false (ty.Int int.Int)) is)
integers [] empty = none
integers (i ∷ is) (more one all) = some (one.fitted false (ty.Int int.Int)) (integers is all)

zero_quiet : (span : Span) (is : List InitSaid) (bytes : ℕ) → AllInits is → Quiet (zero_list span is bytes)
zero_quiet span is bytes all =
    let fitted = map (λ i. i.fitted false (ty.Int int.Int)) is in
    on_quiet (each fitted)
    (λ fs. sure (record { tree = tinit.List (map tree_of fs) span; pieces = piece 0 (initial_value.Number 0 bytes) ∷ [] }))
    (each_quiet fitted (integers is all)) (λ fs env. at_once _ refl refl)

abbrev spare : InitSaid → List InitSaid → Judged (List Fitted)
spare i is = on (both (too_many i) (loose_all is)) (λ x. not_known)

many_quiet : (i : InitSaid) → InitQuiet i → Quiet (too_many i)
many_quiet i one env = record {
  locals = (one.loose env).locals;
  rules = rules_joined (i.loose env).faults (fault 16 i.span ∷ []) (one.loose env).rules refl;
}

spare_quiet : (i : InitSaid) (is : List InitSaid) → InitQuiet i → AllInits is → Quiet (spare i is)
spare_quiet i is one all =
    on_quiet {B = List Fitted} (both (too_many i) (loose_all is)) (λ x. not_known)
    (both_quiet (too_many i) (loose_all is) (many_quiet i one) (loose_quiet is all)) (λ v env. at_once _ refl refl)

abbrev placed : Bool → Slot → InitSaid → Judged (List Fitted) → Judged (List Fitted)
placed from_start s i rest = on (both (i.fitted from_start s.ty) rest) (λ (f, fs). sure (moved_fitted s.offset f ∷ fs))

placed_quiet : (from_start : Bool) (s : Slot) (i : InitSaid) (rest : Judged (List Fitted)) → InitQuiet i → Quiet rest →
    Quiet (placed from_start s i rest)
placed_quiet from_start s i rest one all =
    on_quiet (both (i.fitted from_start s.ty) rest) (λ (f, fs). sure (moved_fitted s.offset f ∷ fs))
    (both_quiet (i.fitted from_start s.ty) rest (one.fitted from_start s.ty) all) (λ v env. at_once _ refl refl)

fit_quiet : (slot : ℕ → Option Slot) (from_start : Bool) (k : ℕ) (is : List InitSaid) → AllInits is → Quiet (fit_all slot from_start k is)
fit_quiet slot from_start k [] all = λ env. at_once _ refl refl
fit_quiet slot from_start k (i ∷ is) (more one all) =
    let rest = fit_all slot from_start (k + 1) is in
    elim (slot k) as (λ o. Quiet (elim o [ None ↦ spare i is | Some s ↦ placed from_start s i rest ])) [
      | None ↦ spare_quiet i is one all
      | Some s ↦ placed_quiet from_start s i rest one (fit_quiet slot from_start (k + 1) is all)
    ]

if_quiet : {A : Type 0} (b : Bool) (p q : Judged A) → Quiet p → Quiet q → Quiet (if b then p else q)
if_quiet true p q first other = first
if_quiet false p q first other = other

if_none : {A : Type 0} (b : Bool) (x y : Outcome A) → IsQuiet x → IsQuiet y → IsQuiet (if b then x else y)
if_none true x y first other = first
if_none false x y first other = other

list_quiet : (span : Span) (is : List InitSaid) (from_start : Bool) (bytes : ℕ) (slot : Option (ℕ → Option Slot)) → AllInits is →
    Quiet (list_by span is from_start bytes slot)
list_quiet span is from_start bytes None all =
    on_quiet (loose_all is) (λ x. breaks 16 span) (loose_quiet is all) (λ v env. at_once _ refl refl)
list_quiet span is from_start bytes (Some slot) all =
    if_quiet (is_zero_list is && is_aggregate_slot (slot 0)) (zero_list span is bytes)
    (on (fit_all slot from_start 0 is) (λ fs. sure (in_braces span fs)))
    (zero_quiet span is bytes all)
    (on_quiet (fit_all slot from_start 0 is) (λ fs. sure (in_braces span fs)) (fit_quiet slot from_start 0 is all)
    (λ v env. at_once _ refl refl))

list_for_quiet : (span : Span) (is : List InitSaid) (from_start : Bool) (t : Ty) → AllInits is → Quiet (list_for span is from_start t)
list_for_quiet span is from_start t all env =
    if_none (is_struct t && (if is_complete env.structs t then false else true)) (on (loose_all is) (λ x. not_known) env)
    (list_by span is from_start (first_scalar env.structs t) (slots env.structs (out-Ty t)) env)
    (on_quiet (loose_all is) (λ x. not_known) (loose_quiet is all) (λ v env. at_once _ refl refl) env)
    (list_quiet span is from_start (first_scalar env.structs t) (slots env.structs (out-Ty t)) all env)

abbrev InitWith : Type 0
InitWith = (i : Init) × InitQuiet (initialiser i)

inits_with : Init-F InitWith → Init-F Init
inits_with = map-Init InitWith Init (λ e. e.0)

all_inits : (is : List InitWith) → AllInits (map initialiser (map (λ i. i.0) is))
all_inits [] = empty
all_inits (i ∷ is) = more i.1 (all_inits is)

init_row : (y : Init-F InitWith) → InitQuiet (initialiser (roll-Init (inits_with y)))
unfolding inits_with given_trees
init_row (Init-F.One e) =
    subst InitQuiet (sym (said-one e)) (record {
      loose = on_quiet (expression e).judged (λ k. ruled e.span (rule 12 (is_value k) ∷ []) tt) (expression_quiet e)
          (λ k env. search (rules_quiet));
      fitted = λ from_start t. for_quiet (expression e) from_start t (out-Ty t) (expression_quiet e);
    })
init_row (Init-F.List is span) =
    let said = map initialiser (map (λ i. i.0) is) in
    subst InitQuiet (sym (said-list (map (λ i. i.0) is) span)) (record {
      loose = on_quiet (loose_all said) (λ x. sure tt) (loose_quiet said (all_inits is)) (λ v env. at_once _ refl refl);
      fitted = λ from_start t. list_for_quiet span said from_start t (all_inits is);
    })

inits_quiet : (x : Init-F Init) (y : Init-F InitWith) → inits_with y ≡ x → InitQuiet (initialiser (roll-Init x))
inits_quiet x y is = subst (λ x. InitQuiet (initialiser (roll-Init x))) is (init_row y)

-- an initialiser declares no local
initialiser_quiet : (i : Init) → InitQuiet (initialiser i)
unfolding inits_with
initialiser_quiet = ind-Init (λ i. InitQuiet (initialiser i)) inits_quiet

-- ---- declarations

pub declared_type_quiet : (d : Decl) → Quiet (declared_type d)
declared_type_quiet d =
    on_quiet (written d.ty d.span) (λ w. sure (object_type (init_of d) w)) (written_quiet d.ty d.span) (λ w env. at_once _ refl refl)

fits_quiet : (from_start : Bool) (t : Option Ty) (i : InitSaid) → InitQuiet i → Quiet (fits_object from_start t i)
fits_quiet from_start None i quiet = on_quiet i.loose (λ x. not_known) quiet.loose (λ v env. at_once _ refl refl)
fits_quiet from_start (Some t) i quiet = quiet.fitted from_start t

pub initialised_quiet : (from_start : Bool) (t : Option Ty) (i : Option Init) →
    Quiet (initialised from_start t (option_map initialiser i))
initialised_quiet from_start t None = λ env. at_once _ refl refl
initialised_quiet from_start t (Some i) =
    on_quiet (fits_object from_start t (initialiser i)) (λ f. sure (Some f))
    (fits_quiet from_start t (initialiser i) (initialiser_quiet i)) (λ f env. at_once _ refl refl)
