-- A list of initialisers is walked by the type that it is for.
use Rattle.std.proofs.Common.{◌≡◌, refl, sym, ◌∙◌, ap, ℕ, Bool, true, false, ◌&&◌, ◌||◌, List, [], ◌∷◌, map, Option, Some, None}
use Rattle.std.specs.Prelude.{if◌then◌else◌}
use Rattle.c_ast.specs.declared.declaration.Init.{Init}
use Rattle.c_ast.specs.declared.declaration.Init.TheVariants as init
use Rattle.c_ast.specs.declared.expr.Expr.{Expr}
use Rattle.c_ast.specs.declared.token.Span.{Span}
use Rattle.c_type_stmt.specs.declared.fitted.Fitted.{Fitted}
use Rattle.c_type_stmt.specs.declared.initial.Slot.{Slot}
use Rattle.c_type_base.specs.declared.ty.Ty.{Ty, out-Ty}
use Rattle.c_type_base.specs.declared.ty.Ty.TheOpen.{Ty-F}
use Rattle.c_type_base.specs.declared.typed.StructInfo.{StructInfo}
use Rattle.c_type_expr.specs.declared.walk.Walk.{Walk}
use Rattle.c_type_stmt.specs.Declarations.{fits_object, initialised}
use Rattle.c_type_expr.specs.Expressions.{expression}
use Rattle.c_type_expr.specs.Faults.{rule, broken}
use Rattle.c_type_stmt.specs.Initials.{InitSaid, initialiser, loose_all, slots, fit_all, in_braces, is_zero_list, is_aggregate_slot}
use Rattle.c_type_stmt.specs.Initials.{zero_list, list_by, list_for, expression_for}
use Rattle.c_type_stmt.specs.Laws.SaidLaws.{said-one, said-list}
use Rattle.c_type_base.specs.Layout.{first_scalar}
use Rattle.c_type_expr.specs.Operators.{breaks}
use Rattle.c_type_expr.specs.Outcomes.{Judged, sure, not_known, on}
use Rattle.c_type_base.specs.Sizes.{is_complete}
use Rattle.c_type_stmt.specs.Slots.{Passes, fitted_to, place_in, slots_at, fits_all, list_in, scalar_list}
use Rattle.c_type_base.specs.Types.{TyLayer, is_there, is_array, is_struct, element_of_level, struct_of_level}
use Rattle.c_type_expr.specs.Walked.{env_of, blamed, passed_by, Walked}
use Rattle.c_type_stmt.proofs.InitialLaws.{walked_of}
use Rattle.c_type_expr.specs.Laws.NodeLaws.{walked_as, on_none, on_some}
use Rattle.c_type_expr.specs.Laws.WalkedLaws.{walked_unknown, walked_followed, walked_sure, walked_on, walked_on_none, walked_breaks}

-- where the walk stands, two constructs are one
pub walked_at : {A : Type 0} (p q : Judged A) (w w' : Walk) (k : Option A) → p (env_of w) ≡ q (env_of w) → Walked q w w' k → Walked p w w' k
walked_at p q w w' k same walked = record {
  after_is = walked.after_is ∙ ap (passed_by w) (sym same);
  known_is = walked.known_is ∙ ap (λ o. o.known) (sym same);
}

unknown_behind : {A B : Type 0} (p : Judged A) (w w' : Walk) (k : Option A) → Walked p w w' k →
    Walked {A = B} (on p (λ x. not_known)) w w' None
unknown_behind {A} {B} p w w' None first = walked_followed p (λ x. not_known {A = B}) w w' w' None None first (refl, refl)
unknown_behind {A} {B} p w w' (Some v) first =
    walked_followed p (λ x. not_known {A = B}) w w' w' (Some v) None first (walked_unknown {A = B} w')

-- ---- a struct without a body

pub list_bare : (span : Span) (is : List InitSaid) (from_start : Bool) (t : Ty) (w w' : Walk) (b : Bool) → is_struct t ≡ true →
    is_complete w.structs t ≡ false → Passes (loose_all is) w w' b → Walked (list_for span is from_start t) w w' None
list_bare span is from_start t w w' b struct bare passed =
    let p = loose_all is in
    walked_at (list_for span is from_start t) (on p (λ x. not_known)) w w' None
    (ap (λ (x : Bool). (if x && (if is_complete w.structs t then false else true) then on p (λ x. not_known) (env_of w)
    else list_by span is from_start (first_scalar w.structs t) (slots w.structs (out-Ty t)) (env_of w))) struct
    ∙ ap (λ (x : Bool). (if (if x then false else true) then on p (λ x. not_known) (env_of w)
    else list_by span is from_start (first_scalar w.structs t) (slots w.structs (out-Ty t)) (env_of w))) bare)
    (unknown_behind p w w' (p (env_of w)).known (walked_of p w w' b passed))

-- ---- a type with places, and one without

slots_there : (structs : List StructInfo) (level : TyLayer) →
    (is_there (element_of_level level) || is_there (struct_of_level level)) ≡ true →
    is_there (slots structs level) ≡ true
slots_there structs Ty-F.Void placed = absurd (cc)
slots_there structs (Ty-F.Int t) placed = absurd (cc)
slots_there structs (Ty-F.Pointer t) placed = absurd (cc)
slots_there structs (Ty-F.Array t n) placed = refl
slots_there structs (Ty-F.Struct n) placed = refl

slots_missing : (structs : List StructInfo) (level : TyLayer) →
    (is_there (element_of_level level) || is_there (struct_of_level level)) ≡ false →
    slots structs level ≡ None
slots_missing structs Ty-F.Void bare = refl
slots_missing structs (Ty-F.Int t) bare = refl
slots_missing structs (Ty-F.Pointer t) bare = refl
slots_missing structs (Ty-F.Array t n) bare = absurd (cc)
slots_missing structs (Ty-F.Struct n) bare = absurd (cc)

abbrev list_placed : Span → List InitSaid → Bool → ℕ → (ℕ → Option Slot) → Judged Fitted
list_placed span is from_start bytes slot =
    (if is_zero_list is && is_aggregate_slot (slot 0) then zero_list span is bytes
    else on (fit_all slot from_start 0 is) (λ fs. sure (in_braces span fs)))

list_by_some : (span : Span) (is : List InitSaid) (from_start : Bool) (bytes : ℕ) (o : Option (ℕ → Option Slot)) → is_there o ≡ true →
    list_by span is from_start bytes o ≡ list_placed span is from_start bytes (place_in o)
list_by_some span is from_start bytes None there = absurd (cc)
list_by_some span is from_start bytes (Some slot) there = refl

pub list_with_places : (span : Span) (is : List InitSaid) (from_start : Bool) (t : Ty) (w w' : Walk) (k : Option Fitted) →
    (is_struct t && (if is_complete w.structs t then false else true)) ≡ false → (is_array t || is_struct t) ≡ true →
    Walked (list_in span is from_start t) w w' k → Walked (list_for span is from_start t) w w' k
list_with_places span is from_start t w w' k whole placed walked =
    let bytes = first_scalar w.structs t in
    walked_at (list_for span is from_start t) (list_in span is from_start t) w w' k
    (ap (λ (x : Bool). (if x then on (loose_all is) (λ x. not_known) (env_of w)
    else list_by span is from_start bytes (slots w.structs (out-Ty t)) (env_of w))) whole
    ∙ ap (λ (p : Judged Fitted). p (env_of w))
    (list_by_some span is from_start bytes (slots w.structs (out-Ty t)) (slots_there w.structs (out-Ty t) placed)))
    walked

pub list_without_places : (span : Span) (is : List InitSaid) (from_start : Bool) (t : Ty) (w w' : Walk) (k : Option Fitted) →
    (is_struct t && (if is_complete w.structs t then false else true)) ≡ false → (is_array t || is_struct t) ≡ false →
    Walked (scalar_list span is) w w' k → Walked (list_for span is from_start t) w w' k
list_without_places span is from_start t w w' k whole bare walked =
    let bytes = first_scalar w.structs t in
    walked_at (list_for span is from_start t) (scalar_list span is) w w' k
    (ap (λ (x : Bool). (if x then on (loose_all is) (λ x. not_known) (env_of w)
    else list_by span is from_start bytes (slots w.structs (out-Ty t)) (env_of w))) whole
    ∙ ap (λ (o : Option (ℕ → Option Slot)). list_by span is from_start bytes o (env_of w)) (slots_missing w.structs (out-Ty t) bare))
    walked

-- ---- the two lists of a type with places

pub list_of_zero : (span : Span) (is : List InitSaid) (from_start : Bool) (t : Ty) (w w' : Walk) (k : Option Fitted) →
    (is_zero_list is && is_aggregate_slot (slots_at w.structs t 0)) ≡ true → Walked (zero_list span is (first_scalar w.structs t)) w w' k →
    Walked (list_in span is from_start t) w w' k
list_of_zero span is from_start t w w' k zero walked =
    walked_at (list_in span is from_start t) (zero_list span is (first_scalar w.structs t)) w w' k
    (ap (λ (x : Bool). (if x then zero_list span is (first_scalar w.structs t)
    else on (fit_all (slots_at w.structs t) from_start 0 is) (λ fs. sure (in_braces span fs))) (env_of w)) zero) walked

pub list_of_all : (span : Span) (is : List InitSaid) (from_start : Bool) (t : Ty) (w w' : Walk) (k : Option Fitted) →
    (is_zero_list is && is_aggregate_slot (slots_at w.structs t 0)) ≡ false →
    Walked (on (fits_all from_start t is) (λ fs. sure (in_braces span fs))) w w' k → Walked (list_in span is from_start t) w w' k
list_of_all span is from_start t w w' k other walked =
    walked_at (list_in span is from_start t) (on (fits_all from_start t is) (λ fs. sure (in_braces span fs))) w w' k
    (ap (λ (x : Bool). (if x then zero_list span is (first_scalar w.structs t)
    else on (fit_all (slots_at w.structs t) from_start 0 is) (λ fs. sure (in_braces span fs))) (env_of w)) other) walked

-- ---- an initialiser by its form

abbrev by_type : Bool → Ty → InitSaid → Judged Fitted
by_type from_start t i = fitted_to i from_start t

pub fitted_one : (e : Expr) (from_start : Bool) (t : Ty) (w w' : Walk) (k : Option Fitted) →
    Walked (expression_for (expression e) from_start t (out-Ty t)) w w' k →
    Walked (fitted_to (initialiser (init.One e)) from_start t) w w' k
fitted_one e from_start t w w' k walked = walked_as _ _ w w' k (ap (by_type from_start t) (said-one e)) walked

pub fitted_list : (is : List Init) (span : Span) (from_start : Bool) (t : Ty) (w w' : Walk) (k : Option Fitted) →
    Walked (list_for span (map initialiser is) from_start t) w w' k →
    Walked (fitted_to (initialiser (init.List is span)) from_start t) w w' k
fitted_list is span from_start t w w' k walked = walked_as _ _ w w' k (ap (by_type from_start t) (said-list is span)) walked

-- ---- an initialiser of an object

pub initialised_unfit : (i : InitSaid) (from_start : Bool) (w w' : Walk) (b : Bool) → Passes i.loose w w' b →
    Walked (initialised from_start None (Some i)) w w' None
initialised_unfit i from_start w w' b passed =
    walked_on_none (fits_object from_start None i) (λ f. sure (Some f)) w w'
    (unknown_behind i.loose w w' (i.loose (env_of w)).known (walked_of i.loose w w' b passed))

pub initialised_unknown : (i : InitSaid) (from_start : Bool) (t : Ty) (w w' : Walk) (k : Option Fitted) → k ≡ None →
    Walked (fitted_to i from_start t) w w' k → Walked (initialised from_start (Some t) (Some i)) w w' None
initialised_unknown i from_start t w w' k is first = on_none (fitted_to i from_start t) (λ f. sure (Some f)) w w' k is first

pub initialised_known : (i : InitSaid) (from_start : Bool) (t : Ty) (w w' : Walk) (k : Option Fitted) (f : Fitted) → k ≡ Some f →
    Walked (fitted_to i from_start t) w w' k → Walked (initialised from_start (Some t) (Some i)) w w' (Some (Some f))
initialised_known i from_start t w w' k f is first =
    on_some (fitted_to i from_start t) (λ f. sure (Some f)) w w' w' k f (Some (Some f)) is first (walked_sure w' (Some f))

-- ---- a list for what has no places

scalar_at : {A : Type 0} (p : Judged A) (span : Span) (w w1 w2 : Walk) (k : Option A) → Walked p w w1 k → is_there k ≡ true →
    w2 ≡ blamed w1 (broken span (rule 16 false ∷ [])) → Walked {A = Fitted} (on p (λ x. breaks 16 span)) w w2 None
scalar_at p span w w1 w2 None first there asked = absurd (cc)
scalar_at p span w w1 w2 (Some v) first there asked =
    walked_on p (λ x. breaks 16 span) w w1 w2 v None first (walked_breaks {A = Fitted} 16 span w1 w2 asked)

scalar_none : {A : Type 0} (p : Judged A) (span : Span) (w w1 : Walk) (k : Option A) → Walked p w w1 k → is_there k ≡ false →
    Walked {A = Fitted} (on p (λ x. breaks 16 span)) w w1 None
scalar_none p span w w1 None first there = walked_on_none p (λ x. breaks 16 span) w w1 first
scalar_none p span w w1 (Some v) first there = absurd (cc)

pub scalar_known : (span : Span) (is : List InitSaid) (w w1 w2 : Walk) (b : Bool) → b ≡ true → Passes (loose_all is) w w1 b →
    w2 ≡ blamed w1 (broken span (rule 16 false ∷ [])) → Walked (scalar_list span is) w w2 None
scalar_known span is w w1 w2 b known passed asked =
    scalar_at (loose_all is) span w w1 w2 _ (walked_of (loose_all is) w w1 b passed) (sym passed.known_is ∙ known) asked

pub scalar_unknown : (span : Span) (is : List InitSaid) (w w1 : Walk) (b : Bool) → b ≡ false → Passes (loose_all is) w w1 b →
    Walked (scalar_list span is) w w1 None
scalar_unknown span is w w1 b known passed =
    scalar_none (loose_all is) span w w1 _ (walked_of (loose_all is) w w1 b passed) (sym passed.known_is ∙ known)
