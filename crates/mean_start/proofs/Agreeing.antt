-- Types of two files one by one, and what names stand for, one further.
use Rattle.std.proofs.Common.{◌≡◌, ◌≢◌, refl, sym, ap, ◌∙◌, ℕ, suc, ◌+◌, ◌<◌, Bool}
use Rattle.std.proofs.Common.{true, false, ◌&&◌, List, [], ◌∷◌, ◌++◌}
use Rattle.std.proofs.Common.{length, map, take, get_or}
use Rattle.std.proofs.lemmas.List.{take_more, map-append}
use Rattle.c_type_base.specs.declared.ty.Ty.{Ty}
use Rattle.c_type_base.specs.declared.typed.LocalInfo.{LocalInfo}
use Rattle.c_type_base.specs.declared.typed.StructInfo.{StructInfo}
use Rattle.block_meaning.specs.Linkage.{same_across, all_same_across, type_of_local}

-- as many of the one as of the other
pub too_many : (these those : List StructInfo) (ss : List Ty) (ls : List LocalInfo) → length ss ≢ length ls →
    all_same_across these those ss (map type_of_local ls) ≡ false
too_many these those [] [] differs = absurd (differs refl)
too_many these those [] (l ∷ ls) differs = refl
too_many these those (s ∷ ss) [] differs = refl
too_many these those (s ∷ ss) (l ∷ ls) differs =
    ap (λ b. same_across these those s l.ty && b) (too_many these those ss ls (λ e. differs (ap suc e)))
    ∙ none (same_across these those s l.ty)
  where
    none : (b : Bool) → (b && false) ≡ false
    none true = refl
    none false = refl

-- a function of each element, one further
pub map_further : {A B : Type 0} (f : A → B) (xs : List A) (i : ℕ) (x : A) (made new : List B) (y : B) → i < length xs →
    x ≡ get_or xs i x →
    made ≡ map f (take i xs) → y ≡ f x → new ≡ made ++ y ∷ [] → new ≡ map f (take (i + 1) xs)
map_further f xs i x made new y within is so_far at pushed =
    pushed ∙ ap (λ l. l ++ y ∷ []) so_far ∙ ap (λ z. map f (take i xs) ++ z ∷ []) at ∙ sym (map-append f (take i xs) (x ∷ []))
    ∙ sym (ap (map f) (take_more xs i x within ∙ ap (λ z. take i xs ++ z ∷ []) (sym is)))
