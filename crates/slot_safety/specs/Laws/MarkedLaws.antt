-- Tagging one list of locals after another.
use Rattle.std.proofs.Common.{◌≡◌, refl, ℕ, ◌+◌, ◌<◌, List, [], ◌∷◌, ◌++◌, length, take, map, flat_map, get_or, ap, sym, ◌∙◌}
use Rattle.std.proofs.lemmas.List.{append-nil, map-append, take_more}
use Rattle.std.proofs.lemmas.Grind.{flat_map-append}
use Rattle.slot_safety.specs.declared.kind.Kind.{Kind}
use Rattle.slot_safety.specs.Kinds.{marked}

pub marked_append : (kinds : List Kind) (ks js : List ℕ) → marked kinds (ks ++ js) ≡ marked (marked kinds ks) js
marked_append kinds [] js = refl
marked_append kinds (k ∷ ks) js = marked_append _ ks js

-- first these, then those
pub marked_two : (before between after : List Kind) (ks js : List ℕ) →
    between ≡ marked before ks → after ≡ marked between js → after ≡ marked before (ks ++ js)
marked_two before between after ks js first second =
    second ∙ ap (λ kinds. marked kinds js) first ∙ sym (marked_append before ks js)

-- one more turn of a loop over parts
pub marked_turn : {A B : Type 0} (g : B → List ℕ) (f : A → B) (xs : List A) (i : ℕ) (x : A) (before between after : List Kind) →
    i < length xs → x ≡ get_or xs i x → between ≡ marked before (flat_map g (map f (take i xs))) →
    after ≡ marked between (g (f x)) → after ≡ marked before (flat_map g (map f (take (i + 1) xs)))
marked_turn g f xs i x before between after within is passed turn =
    let more : take (i + 1) xs ≡ take i xs ++ x ∷ [] = take_more xs i x within ∙ ap (λ y. take i xs ++ y ∷ []) (sym is) in
    let last : flat_map g (map f (take (i + 1) xs)) ≡ flat_map g (map f (take i xs)) ++ g (f x) =
    ap (λ ys. flat_map g (map f ys)) more
    ∙ ap (flat_map g) (map-append f (take i xs) (x ∷ []))
    ∙ flat_map-append g (map f (take i xs)) (f x ∷ [])
    ∙ ap (λ ks. flat_map g (map f (take i xs)) ++ ks) (append-nil (g (f x))) in
    marked_two before between after (flat_map g (map f (take i xs))) (g (f x)) passed turn ∙ ap (marked before) (sym last)
