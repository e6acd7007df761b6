-- The places of names among the declarations of a scope, as it grows.
use Rattle.std.proofs.Common.{arith, ◌≡◌, refl, sym, ◌∙◌, ap, subst, ℕ, zero, suc, ◌+◌, ◌<◌, Bool, true, false, cond, List, [], ◌∷◌, ◌++◌}
use Rattle.std.proofs.Common.{reverse, slice_get, length, Option, Some, None, IfSome, ◌⊎◌, MatchOption}
use Rattle.std.specs.Str.{bytes_eq}
use Rattle.std.specs.HashMap.{HashMap, get_by, UpdatesBy}
use Rattle.std.specs.Map.{lookup}
use Rattle.std.proofs.lemmas.List.{reverse-append, length-append}
use Rattle.c_type_expr.specs.declared.scopes.Binding.{Binding}
use Rattle.c_type_expr.specs.Environment.{in_scope}
use Rattle.c_type_expr.specs.Places.{at_place, HasPlaces}
use Rattle.c_type_expr.specs.Laws.NamedMapLaws.{updated}

last_there : (bs : List Binding) (b : Binding) → slice_get (bs ++ b ∷ []) (length bs) ≡ Some b
last_there [] b = refl
last_there (x ∷ xs) b = last_there xs b

before_last : (bs : List Binding) (b : Binding) (n : ℕ) → n < length bs → slice_get (bs ++ b ∷ []) n ≡ slice_get bs n
before_last [] b n within = absurd (omega (arith, within))
before_last (x ∷ xs) b zero within = refl
before_last (x ∷ xs) b (suc n) within = before_last xs b n (omega (arith, within))

-- one declaration more
pub one_more : {K S : Type 0} (key : K) (name_of : K → List ℕ) (m n : HashMap K ℕ S) (bs more : List Binding) (b : Binding) (place : ℕ) →
    name_of key ≡ b.name → place ≡ length bs → more ≡ bs ++ b ∷ [] → HasPlaces m name_of bs →
    UpdatesBy (λ x y. bytes_eq (name_of x) (name_of y)) (λ k. bytes_eq (name_of key) (name_of k)) m n (Some place) →
    HasPlaces n name_of more
one_more {K} {S} key name_of m n bs more b place named placed is before put =
    subst (λ l. HasPlaces n name_of l) (sym is) (record { finds = finds; within = within })
  where
    was : List ℕ → Option ℕ
    was name = get_by (λ k. bytes_eq name (name_of k)) m

    now_is : (name : List ℕ) → get_by (λ k. bytes_eq name (name_of k)) n ≡
        cond (bytes_eq b.name name) (Some (length bs)) (get_by (λ k. bytes_eq name (name_of k)) m)
    now_is name =
        updated key name_of m n (Some place) put name
        ∙ (λ i. cond (bytes_eq (named i) name) (Some (placed i)) (get_by (λ k. bytes_eq name (name_of k)) m))

    stays : (o : Option ℕ) → IfSome o (λ k. k < length bs) → at_place (bs ++ b ∷ []) o ≡ at_place bs o
    stays None in_range = refl
    stays (Some k) in_range = before_last bs b k in_range

    chosen : (name : List ℕ) (c : Bool) → at_place (bs ++ b ∷ []) (cond c (Some (length bs)) (get_by (λ k. bytes_eq name (name_of k)) m)) ≡
        cond c (Some b) (in_scope name (reverse bs))
    chosen name true = last_there bs b
    chosen name false = stays (get_by (λ k. bytes_eq name (name_of k)) m) (before.within name) ∙ before.finds name

    finds : (name : List ℕ) → at_place (bs ++ b ∷ []) (get_by (λ k. bytes_eq name (name_of k)) n) ≡ in_scope name (reverse (bs ++ b ∷ []))
    finds name =
        ap (at_place (bs ++ b ∷ [])) (now_is name) ∙ chosen name (bytes_eq b.name name) ∙
        sym (ap (in_scope name) (reverse-append bs (b ∷ [])))

    longer : (o : Option ℕ) → IfSome o (λ k. k < length bs) → IfSome o (λ k. k < length (bs ++ b ∷ []))
    longer None in_range = tt
    longer (Some k) in_range = omega (arith, in_range, length-append bs (b ∷ []))

    in_range : (name : List ℕ) (c : Bool) → IfSome (cond c (Some (length bs)) (get_by (λ k. bytes_eq name (name_of k)) m))
        (λ k. k < length (bs ++ b ∷ []))
    in_range name true = omega (arith, length-append bs (b ∷ []))
    in_range name false = longer (get_by (λ k. bytes_eq name (name_of k)) m) (before.within name)

    within : (name : List ℕ) → IfSome (get_by (λ k. bytes_eq name (name_of k)) n) (λ k. k < length (bs ++ b ∷ []))
    within name = subst (λ o. IfSome o (λ k. k < length (bs ++ b ∷ []))) (sym (now_is name)) (in_range name (bytes_eq b.name name))
