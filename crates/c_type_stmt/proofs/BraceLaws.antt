-- A list in braces for what has places, and the list of the one constant 0.
use Rattle.std.proofs.Common.{◌≡◌, refl, sym, ◌∙◌, ap, subst, ℕ, Bool, true, false, ◌&&◌, List, [], ◌∷◌, map, Option, Some, None}
use Rattle.std.specs.Global.{Vec}
use Rattle.c_ast.specs.declared.declaration.Init.{Init}
use Rattle.c_ast.specs.declared.declaration.Init.TheVariants as init
use Rattle.c_ast.specs.declared.expr.Expr.{Expr}
use Rattle.c_ast.specs.declared.int_type.IntType.TheVariants as int
use Rattle.c_ast.specs.declared.token.Span.{Span}
use Rattle.c_type_stmt.specs.declared.fitted.Fitted.{Fitted}
use Rattle.c_type_base.specs.declared.statement.TInit.TheVariants as tinit
use Rattle.c_type_base.specs.declared.ty.Ty.{Ty, out-Ty}
use Rattle.c_type_base.specs.declared.ty.Ty.TheVariants as ty
use Rattle.c_type_base.specs.declared.typed.InitValue.TheVariants as initial_value
use Rattle.c_type_expr.specs.declared.walk.Walk.{Walk}
use Rattle.c_type_expr.specs.Outcomes.{option_map, sure, each, on}
use Rattle.c_type_expr.specs.Expressions.{expression}
use Rattle.c_type_stmt.specs.Initials.{InitSaid, initialiser, expression_for, piece, tree_of, in_braces, is_zero_list, is_aggregate_slot}
use Rattle.c_type_stmt.specs.Initials.{zero_list}
use Rattle.c_type_base.specs.Layout.{first_scalar}
use Rattle.c_type_stmt.specs.Slots.{fitted_to, slots_at, fits_all, list_in, zero_in}
use Rattle.c_type_expr.specs.Sorted.{listed_items}
use Rattle.c_type_expr.specs.Walked.{Walked}
use Rattle.c_type_expr.specs.Laws.EachLaws.{as_known}
use Rattle.c_type_stmt.proofs.InitialLaws.{zero_walked}
use Rattle.c_type_stmt.proofs.ListLaws.{walked_at, fitted_one, list_of_zero, list_of_all}
use Rattle.c_type_expr.specs.Laws.NodeLaws.{on_none, on_some}
use Rattle.c_type_expr.specs.Laws.WalkedLaws.{walked_sure}

abbrev int_of : Ty
int_of = ty.Int int.Int

abbrev zeros : Span → ℕ → List Fitted → Fitted
zeros span bytes fs = record { tree = tinit.List (map tree_of fs) span; pieces = piece 0 (initial_value.Number 0 bytes) ∷ [] }

zero_by : (span : Span) (t : Ty) (e : Expr) (w w' : Walk) (k : Option Fitted) →
    Walked (expression_for (expression e) false int_of (out-Ty int_of)) w w' k →
    Walked (zero_in span t e) w w' (option_map (λ f. zeros span (first_scalar w.structs t) (f ∷ [])) k)
zero_by span t e w w' k first =
    let p = fitted_to (initialiser (init.One e)) false int_of in
    let h = zeros span (first_scalar w.structs t) in
    walked_at (zero_in span t e) (on (each (p ∷ [])) (λ fs. sure (h fs))) w w' (option_map (λ f. h (f ∷ [])) k) refl
    (zero_walked p h w w' k (fitted_one e false int_of w w' k first))

pub zero_unknown : (span : Span) (t : Ty) (e : Expr) (w w' : Walk) (k : Option Fitted) → k ≡ None →
    Walked (expression_for (expression e) false int_of (out-Ty int_of)) w w' k → Walked (zero_in span t e) w w' None
zero_unknown span t e w w' k is first =
    as_known (zero_in span t e) w w' _ None (ap (option_map (λ f. zeros span (first_scalar w.structs t) (f ∷ []))) is)
    (zero_by span t e w w' k first)

pub zero_known : (span : Span) (t : Ty) (e : Expr) (bytes : ℕ) (w w' : Walk) (k : Option Fitted) (f : Fitted) → k ≡ Some f →
    Walked (expression_for (expression e) false int_of (out-Ty int_of)) w w' k → bytes ≡ first_scalar w.structs t →
    Walked (zero_in span t e) w w' (Some (zeros span bytes (f ∷ [])))
zero_known span t e bytes w w' k f is first count =
    as_known (zero_in span t e) w w' _ (Some (zeros span bytes (f ∷ [])))
    (ap (option_map (λ f. zeros span (first_scalar w.structs t) (f ∷ []))) is
    ∙ ap (λ n. Some (zeros span n (f ∷ []))) (sym count))
    (zero_by span t e w w' k first)

pub list_zero : (span : Span) (inits : List Init) (from_start : Bool) (t : Ty) (e : Expr) (w w' : Walk) (k : Option Fitted) →
    inits ≡ init.One e ∷ [] → (is_zero_list (map initialiser inits) && is_aggregate_slot (slots_at w.structs t 0)) ≡ true →
    Walked (zero_in span t e) w w' k → Walked (list_in span (map initialiser inits) from_start t) w w' k
list_zero span inits from_start t e w w' k alone zero walked =
    list_of_zero span (map initialiser inits) from_start t w w' k zero
    (subst (λ (is : List Init). Walked (λ env. zero_list span (map initialiser is) (first_scalar w.structs t) env) w w' k)
    (sym alone) (record { after_is = walked.after_is; known_is = walked.known_is }))

pub list_unknown : (span : Span) (is : List InitSaid) (from_start : Bool) (t : Ty) (w w' : Walk) (o : Option (Vec Fitted)) →
    (is_zero_list is && is_aggregate_slot (slots_at w.structs t 0)) ≡ false → o ≡ None →
    Walked (fits_all from_start t is) w w' (listed_items o) → Walked (list_in span is from_start t) w w' None
list_unknown span is from_start t w w' o other none walked =
    list_of_all span is from_start t w w' None other
    (on_none (fits_all from_start t is) (λ fs. sure (in_braces span fs)) w w' (listed_items o) (ap listed_items none) walked)

pub list_known : (span : Span) (is : List InitSaid) (from_start : Bool) (t : Ty) (w w' : Walk) (o : Option (Vec Fitted)) (v : Vec Fitted)
    (f : Fitted) → (is_zero_list is && is_aggregate_slot (slots_at w.structs t 0)) ≡ false → o ≡ Some v →
    Walked (fits_all from_start t is) w w' (listed_items o) → f ≡ in_braces span v.items →
    Walked (list_in span is from_start t) w w' (Some f)
list_known span is from_start t w w' o v f other some walked made =
    list_of_all span is from_start t w w' (Some f) other
    (as_known _ w w' (Some (in_braces span v.items)) (Some f) (ap Some (sym made))
    (on_some (fits_all from_start t is) (λ fs. sure (in_braces span fs)) w w' w' (listed_items o) v.items (Some (in_braces span v.items))
    (ap listed_items some) walked (walked_sure w' (in_braces span v.items))))
