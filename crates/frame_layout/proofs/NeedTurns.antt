-- One more turn of the loops over needs.
use Rattle.std.proofs.Common.{◌≡◌, ℕ, suc, ◌+◌, ◌<◌, max, List, ◌∷◌, length, drop, map, get_or, ap, sym, ◌∙◌, arith, drop-cons}
use Rattle.frame_layout.specs.Needs.{arguments_from, capped_sum}
use Rattle.frame_layout.specs.StatementNeeds.{most}

pub max-most : (n m : ℕ) (ns : List ℕ) → max n (max m (most ns)) ≡ max (max n m) (most ns)
max-most n m ns = omega arith

pub drop-here : {A : Type 0} (xs : List A) (i : ℕ) (x : A) → i < length xs → x ≡ get_or xs i x → drop i xs ≡ x ∷ drop (i + 1) xs
drop-here xs i x within is =
    let next : suc i ≡ i + 1 = omega arith in
    drop-cons xs i x within ∙ ap (λ j. get_or xs i x ∷ drop j xs) next ∙ ap (λ y. y ∷ drop (i + 1) xs) (sym is)

-- what is left of a loop that keeps the most of its parts
pub most_turn : {A : Type 0} (f : A → ℕ) (xs : List A) (i so_far all : ℕ) (x : A) → i < length xs → x ≡ get_or xs i x →
    max so_far (most (map f (drop i xs))) ≡ all → max (max so_far (f x)) (most (map f (drop (i + 1) xs))) ≡ all
most_turn f xs i so_far all x within is before =
    sym (max-most so_far (f x) (map f (drop (i + 1) xs)))
    ∙ ap (λ ys. max so_far (most (map f ys))) (sym (drop-here xs i x within is)) ∙ before

max-three : (a b c : ℕ) → max a (max b c) ≡ max (max a b) c
max-three a b c = omega arith

pub arguments_turn : {A : Type 0} (f : A → ℕ) (xs : List A) (i so_far waits all : ℕ) (x : A) → i < length xs → x ≡ get_or xs i x →
    max so_far (arguments_from waits (map f (drop i xs))) ≡ all →
    max (max so_far (capped_sum (f x) waits)) (arguments_from (capped_sum waits 1) (map f (drop (i + 1) xs))) ≡ all
arguments_turn f xs i so_far waits all x within is before =
    sym (max-three so_far (capped_sum (f x) waits) (arguments_from (capped_sum waits 1) (map f (drop (i + 1) xs))))
    ∙ ap (λ ys. max so_far (arguments_from waits (map f ys))) (sym (drop-here xs i x within is)) ∙ before
