-- The loop over the initialisers of a list.
use Rattle.std.proofs.Common.{◌≡◌, sym, ◌∙◌, ap, subst, ℕ, ◌+◌, ◌<◌, ◌≤◌, Bool, List, [], ◌∷◌, map, drop, get_or, length, Option, Some}
use Rattle.std.proofs.Common.{None, drop-cons, add-one, arith, take, ◌-◌, length-drop}
use Rattle.std.proofs.lemmas.List.{drop_all, take_all}
use Rattle.c_ast.specs.declared.declaration.Init.{Init}
use Rattle.c_type_stmt.specs.declared.fitted.Fitted.{Fitted}
use Rattle.c_type_stmt.specs.declared.initial.Slot.{Slot}
use Rattle.c_type_base.specs.declared.ty.Ty.{Ty}
use Rattle.c_type_base.specs.declared.typed.StructInfo.{StructInfo}
use Rattle.c_type_expr.specs.declared.walk.Walk.{Walk}
use Rattle.c_type_expr.specs.Outcomes.{option_map}
use Rattle.c_type_stmt.specs.Initials.{InitSaid, initialiser, fit_all, moved_fitted}
use Rattle.c_type_stmt.specs.Slots.{Spare, fitted_to, slots_at, fits_all}
use Rattle.c_type_expr.specs.Sorted.{with_known}
use Rattle.c_type_expr.specs.Walked.{Walked}
use Rattle.c_type_stmt.proofs.InitialLaws.{Goes, goes_last, goes_on, goes_over}

-- the walk stands at a place of a list
abbrev pub Stands : Bool → Ty → List Init → ℕ → Walk → Walk → Option (List Fitted) → Type 0
Stands from_start t inits k w w' so_far =
    Goes (slots_at w.structs t) from_start (map initialiser inits) k (map initialiser (drop k inits)) w w' so_far

next_of : (inits : List Init) (k : ℕ) (d : Init) → k < length inits → map initialiser (drop k inits) ≡
    initialiser (get_or inits k d) ∷ map initialiser (drop (k + 1) inits)
next_of inits k d below =
    ap (map initialiser) (drop-cons inits k d below ∙ ap (λ n. get_or inits k d ∷ drop n inits) (sym (add-one k)))

opened_at : (from_start : Bool) (t : Ty) (inits : List Init) (k : ℕ) (d : Init) (w w' : Walk) (so_far : Option (List Fitted)) →
    k < length inits → Stands from_start t inits k w w' so_far →
    Goes (slots_at w.structs t) from_start (map initialiser inits) k
    (initialiser (get_or inits k d) ∷ map initialiser (drop (k + 1) inits)) w w' so_far
opened_at from_start t inits k d w w' so_far below stands =
    subst (λ (is : List InitSaid). Goes (slots_at w.structs t) from_start (map initialiser inits) k is w w' so_far)
    (next_of inits k d below) stands

place_there : (t : Ty) (k : ℕ) (structs structs' : List StructInfo) (o : Option Slot) → structs' ≡ structs →
    o ≡ slots_at structs' t k → slots_at structs t k ≡ o
place_there t k structs structs' o same is = ap (λ (x : List StructInfo). slots_at x t k) (sym same) ∙ sym is

pub fit_turn : (from_start : Bool) (t : Ty) (inits : List Init) (k : ℕ) (d : Init) (s : Slot) (w w' w1 : Walk)
    (so_far more : Option (List Fitted)) (f : Option Fitted) → k < length inits → w'.structs ≡ w.structs →
    Stands from_start t inits k w w' so_far → Some s ≡ slots_at w'.structs t k →
    Walked (fitted_to (initialiser (get_or inits k d)) from_start s.ty) w' w1 f →
    more ≡ with_known so_far (option_map (moved_fitted s.offset) f) → Stands from_start t inits (k + 1) w w1 more
fit_turn from_start t inits k d s w w' w1 so_far more f below same stands place first made =
    subst (λ (x : Option (List Fitted)). Stands from_start t inits (k + 1) w w1 x) (sym made)
    (goes_on (slots_at w.structs t) from_start (map initialiser inits) k (initialiser (get_or inits k d))
    (map initialiser (drop (k + 1) inits)) s w w' w1 so_far f (place_there t k w.structs w'.structs (Some s) same place)
    (opened_at from_start t inits k d w w' so_far below stands) first)

at_once : (from_start : Bool) (t : Ty) (is : List InitSaid) (w w' : Walk) (k : Option (List Fitted)) →
    Walked (fit_all (slots_at w.structs t) from_start 0 is) w w' k → Walked (fits_all from_start t is) w w' k
at_once from_start t is w w' k walked = record { after_is = walked.after_is; known_is = walked.known_is }

pub fit_over : (from_start : Bool) (t : Ty) (inits : List Init) (k : ℕ) (d : Init) (w w' w1 : Walk) (so_far : Option (List Fitted)) →
    k < length inits → w'.structs ≡ w.structs → Stands from_start t inits k w w' so_far →
    None ≡ slots_at w'.structs t k → Spare (map initialiser (drop k inits)) w' w1 →
    Walked (fits_all from_start t (map initialiser inits)) w w1 None
fit_over from_start t inits k d w w' w1 so_far below same stands place over =
    at_once from_start t (map initialiser inits) w w1 None
    (goes_over (slots_at w.structs t) from_start (map initialiser inits) k (initialiser (get_or inits k d))
    (map initialiser (drop (k + 1) inits)) w w' w1 so_far
    (place_there t k w.structs w'.structs None same place)
    (opened_at from_start t inits k d w w' so_far below stands)
    (subst (λ (is : List InitSaid). Spare is w' w1) (next_of inits k d below) over))

pub fit_end : (from_start : Bool) (t : Ty) (inits : List Init) (k : ℕ) (w w' : Walk) (so_far : Option (List Fitted)) → length inits ≤ k →
    Stands from_start t inits k w w' so_far → Walked (fits_all from_start t (map initialiser inits)) w w' so_far
fit_end from_start t inits k w w' so_far over stands =
    at_once from_start t (map initialiser inits) w w' so_far
    (goes_last (slots_at w.structs t) from_start (map initialiser inits) k w w' so_far
    (subst (λ (is : List Init). Goes (slots_at w.structs t) from_start (map initialiser inits) k (map initialiser is) w w' so_far)
    (drop_all k inits over) stands))

all_from : (inits : List Init) (k : ℕ) → take (length inits - k) (drop k inits) ≡ drop k inits
all_from inits k = take_all (length inits - k) (drop k inits) (grind (arith, length-drop))

past_by : (from_start : Bool) (t : Ty) (inits : List Init) (k : ℕ) (w w' w1 : Walk) (so_far : Option (List Fitted)) →
    k < length inits → w'.structs ≡ w.structs → Stands from_start t inits k w w' so_far → None ≡ slots_at w'.structs t k →
    Spare (map initialiser (drop k inits)) w' w1 → Walked (fits_all from_start t (map initialiser inits)) w w1 None
past_by from_start t [] k w w' w1 so_far below same stands place over = absurd (omega (arith, below))
past_by from_start t (i ∷ is) k w w' w1 so_far below same stands place over =
    fit_over from_start t (i ∷ is) k i w w' w1 so_far below same stands place over

pub fit_past : (from_start : Bool) (t : Ty) (inits : List Init) (k : ℕ) (w w' w1 : Walk) (so_far : Option (List Fitted)) →
    k < length inits → w'.structs ≡ w.structs → Stands from_start t inits k w w' so_far → None ≡ slots_at w'.structs t k →
    Spare (map initialiser (take (length inits - k) (drop k inits))) w' w1 →
    Walked (fits_all from_start t (map initialiser inits)) w w1 None
fit_past from_start t inits k w w' w1 so_far below same stands place over =
    past_by from_start t inits k w w' w1 so_far below same stands place
    (subst (λ (is : List Init). Spare (map initialiser is) w' w1) (all_from inits k) over)
