-- Marking one list of numbers after another.
use Rattle.std.proofs.Common.{◌≡◌, refl, ℕ, zero, suc, ◌+◌, ◌<◌, arith, Bool, true, List, [], ◌∷◌, ◌++◌, length}
use Rattle.std.proofs.Common.{take, map, get_or, ap, sym, ◌∙◌}
use Rattle.std.specs.Prelude.{slice_set}
use Rattle.std.proofs.lemmas.List.{append-nil, map-append, take_more, append_assoc}
use Rattle.slot_safety.specs.Kinds.{put}
use Rattle.mean_link.specs.Uses.{joined}

abbrev pub as_told : Bool → Bool
as_told b = b

pub put_append : (flags : List Bool) (ks js : List ℕ) → put true flags (ks ++ js) ≡ put true (put true flags ks) js
put_append flags [] js = refl
put_append flags (k ∷ ks) js = put_append (slice_set flags k true) ks js

-- first these, then those
pub put_two : (before between after : List Bool) (ks js : List ℕ) →
    between ≡ put true before ks → after ≡ put true between js → after ≡ put true before (ks ++ js)
put_two before between after ks js first second =
    second ∙ ap (λ flags. put true flags js) first ∙ sym (put_append before ks js)

-- and then those behind them
pub put_three : (before first second after : List Bool) (ks js is : List ℕ) → first ≡ put true before ks → second ≡ put true first js →
    after ≡ put true second is → after ≡ put true before (ks ++ (js ++ is))
put_three before first second after ks js is one two three =
    put_two before first after ks (js ++ is) one (put_two first second after js is two three)

joined-more : (xs : List (List ℕ)) (ks : List ℕ) → joined (xs ++ ks ∷ []) ≡ joined xs ++ ks
joined-more [] ks = append-nil ks
joined-more (x ∷ xs) ks = ap (λ rest. x ++ rest) (joined-more xs ks) ∙ sym (append_assoc x (joined xs) ks)

-- one more turn of a loop over parts
pub put_turn : {A : Type 0} (f : A → List ℕ) (xs : List A) (i : ℕ) (x : A) (before between after : List Bool) →
    i < length xs → x ≡ get_or xs i x → between ≡ put true before (joined (map f (take i xs))) →
    after ≡ put true between (f x) → after ≡ put true before (joined (map f (take (i + 1) xs)))
put_turn f xs i x before between after within is passed turn =
    let more : take (i + 1) xs ≡ take i xs ++ x ∷ [] = take_more xs i x within ∙ ap (λ y. take i xs ++ y ∷ []) (sym is) in
    let last : joined (map f (take (i + 1) xs)) ≡ joined (map f (take i xs)) ++ f x =
    ap (λ ys. joined (map f ys)) more
    ∙ ap joined (map-append f (take i xs) (x ∷ []))
    ∙ joined-more (map f (take i xs)) (f x) in
    put_two before between after (joined (map f (take i xs))) (f x) passed turn ∙ ap (put true before) (sym last)

same_at : {A : Type 0} (xs : List A) (i : ℕ) (d e : A) → i < length xs → get_or xs i d ≡ get_or xs i e
same_at [] i d e within = absurd (omega (arith, within))
same_at (x ∷ xs) zero d e within = refl
same_at (x ∷ xs) (suc i) d e within = same_at xs i d e (omega (arith, within))

-- the same of a part that is told by its place
pub put_turn_at : {A : Type 0} (f : A → List ℕ) (xs : List A) (i : ℕ) (d : A) (before between after : List Bool) →
    i < length xs → between ≡ put true before (joined (map f (take i xs))) →
    after ≡ put true between (f (get_or xs i d)) → after ≡ put true before (joined (map f (take (i + 1) xs)))
put_turn_at f xs i d before between after within passed turn =
    put_turn f xs i (get_or xs i d) before between after within (same_at xs i d (get_or xs i d) within) passed turn
