-- Lists of initialisers, by the type of what they are for.
use Rattle.std.specs.Prelude.{◌≡◌, ℕ, ◌∷◌, Bool, false, ◌&&◌, List, [], slice_get, Option, Some, None, if◌then◌else◌}
use Rattle.c_ast.specs.declared.token.Span.{Span}
use Rattle.c_ast.specs.declared.expr.Expr.{Expr}
use Rattle.c_ast.specs.declared.declaration.Init.TheVariants as init
use Rattle.c_type_stmt.specs.declared.fitted.Fitted.{Fitted}
use Rattle.c_type_stmt.specs.declared.initial.Slot.{Slot}
use Rattle.c_type_base.specs.declared.ty.Ty.{Ty, out-Ty}
use Rattle.c_type_base.specs.declared.typed.InitPiece.{InitPiece}
use Rattle.c_type_base.specs.declared.typed.InitValue.{InitValue}
use Rattle.c_type_base.specs.declared.typed.MemberInfo.{MemberInfo}
use Rattle.c_type_base.specs.declared.typed.StructInfo.{StructInfo}
use Rattle.c_type_expr.specs.declared.walk.Walk.{Walk}
use Rattle.c_type_expr.specs.Expressions.{expression}
use Rattle.c_type_expr.specs.Faults.{rule}
use Rattle.c_type_stmt.specs.Initials.{InitSaid, initialiser, piece, spelled, may_fit, assigned, slots, loose_all, too_many, fit_all}
use Rattle.c_type_stmt.specs.Initials.{in_braces, is_zero_list, is_aggregate_slot, zero_list}
use Rattle.c_type_base.specs.Known.{value, is_value}
use Rattle.c_type_base.specs.Layout.{members_of, first_scalar}
use Rattle.c_type_expr.specs.Operators.{breaks}
use Rattle.c_type_expr.specs.Outcomes.{Judged, sure, both, on, either, asked, ruled}
use Rattle.c_type_expr.specs.Said.{Said}
use Rattle.c_type_base.specs.Types.{is_there}
use Rattle.c_type_expr.specs.Walked.{env_of, passed_by}

-- the walk passes a construct, of which it tells whether it is known
pub record Passes {A : Type 0} (p : Judged A) (before after : Walk) (known : Bool) : Type 0 where
  pub after_is : after ≡ passed_by before (p (env_of before))
  pub known_is : known ≡ is_there (p (env_of before)).known

abbrev pub loose_in : Expr → Judged (Unit {0})
loose_in e = on (expression e).judged (λ k. ruled e.span (rule 12 (is_value k) ∷ []) tt)

-- the first of some is too many
abbrev pub Spare : List InitSaid → Walk → Walk → Type 0
Spare [] before after = after ≡ before
Spare (i ∷ is) before after = after ≡ passed_by before (both (too_many i) (loose_all is) (env_of before))

-- ---- expressions

abbrev pub pieces_of_value : Option InitValue → List InitPiece
pieces_of_value None = []
pieces_of_value (Some v) = piece 0 v ∷ []

abbrev pub text_row : Said → ℕ → List ℕ → Judged Fitted
text_row s n bytes = on s.judged (spelled s.span n bytes)

abbrev pub no_text_row : Said → Judged Fitted
no_text_row s = either s.judged (breaks 16 s.span) (λ k. asked s.span (rule 12 (is_value k) ∷ rule 16 false ∷ []))

abbrev pub scalar_row : Said → Bool → Ty → Judged Fitted
scalar_row s from_start t =
    either s.judged (asked s.span (rule 16 (may_fit from_start s.computes (out-Ty t)) ∷ [])) (λ k. assigned s.span from_start t (value k))

-- ---- lists

abbrev pub fitted_to : InitSaid → Bool → Ty → Judged Fitted
fitted_to i from_start t = i.fitted from_start t

abbrev pub member_at : List StructInfo → ℕ → ℕ → Option MemberInfo
member_at structs number k = slice_get (members_of (slice_get structs number)) k

abbrev pub place_in : Option (ℕ → Option Slot) → ℕ → Option Slot
place_in None k = None
place_in (Some slot) k = slot k

-- the place of a number
abbrev pub slots_at : List StructInfo → Ty → ℕ → Option Slot
slots_at structs t k = place_in (slots structs (out-Ty t)) k

abbrev pub fits_all : Bool → Ty → List InitSaid → Judged (List Fitted)
fits_all from_start t is env = fit_all (slots_at env.structs t) from_start 0 is env

-- `{0}` by its constant
abbrev pub zero_in : Span → Ty → Expr → Judged Fitted
zero_in span t e env = zero_list span (initialiser (init.One e) ∷ []) (first_scalar env.structs t) env

-- a list for what has places
abbrev pub list_in : Span → List InitSaid → Bool → Ty → Judged Fitted
list_in span is from_start t env =
    (if is_zero_list is && is_aggregate_slot (slots_at env.structs t 0) then zero_list span is (first_scalar env.structs t)
    else on (fit_all (slots_at env.structs t) from_start 0 is) (λ fs. sure (in_braces span fs))) env

-- and for what has none
abbrev pub scalar_list : Span → List InitSaid → Judged Fitted
scalar_list span is = on (loose_all is) (λ x. breaks 16 span)
