-- The blocks of the locals of open calls: what stands where, after a change, and without some locals.
use Rattle.std.proofs.Common.{◌≡◌, refl, sym, ap, ◌∙◌, arith, ℕ, zero, suc, ◌+◌, ◌≤◌, Bool, true, false, List, [], ◌∷◌, ◌++◌}
use Rattle.std.proofs.Common.{length, replicate, take, Option, Some, None}
use Rattle.std.proofs.lemmas.Bool.{eqb-true, eqb-false}
use Rattle.std.specs.Prelude.{slice_get, slice_set, nat_eq, if◌then◌else◌}
use Rattle.mean_memory.specs.Laws.Places.{none_not_some, some_same, get_set_same, get_set_other, set_there}
use Rattle.mean_effects.specs.Shown.{block_at}
use Rattle.mean_expressions.specs.Stacked.{cleared}

set_twice : {A : Type 0} (xs : List A) (i : ℕ) (x y : A) → slice_set (slice_set xs i x) i y ≡ slice_set xs i y
set_twice [] i x y = refl
set_twice (z ∷ zs) zero x y = refl
set_twice (z ∷ zs) (suc i) x y = ap (λ s. z ∷ s) (set_twice zs i x y)

set_both : {A : Type 0} (xs : List A) (i j : ℕ) (x : A) → slice_set (slice_set xs i x) j x ≡ slice_set (slice_set xs j x) i x
set_both [] i j x = refl
set_both (z ∷ zs) zero zero x = refl
set_both (z ∷ zs) zero (suc j) x = refl
set_both (z ∷ zs) (suc i) zero x = refl
set_both (z ∷ zs) (suc i) (suc j) x = ap (λ s. z ∷ s) (set_both zs i j x)

-- ---- without some locals

pub cleared-set : (base : ℕ) (ks : List ℕ) (l : List (Option ℕ)) (i : ℕ) →
    cleared base ks (slice_set l i None) ≡ slice_set (cleared base ks l) i None
cleared-set base [] l i = refl
cleared-set base (k ∷ ks) l i =
    ap (cleared base ks) (set_both l i (base + k) None) ∙ cleared-set base ks (slice_set l (base + k) None) i

cleared-append : (base : ℕ) (ks : List ℕ) (k : ℕ) (l : List (Option ℕ)) →
    cleared base (ks ++ k ∷ []) l ≡ slice_set (cleared base ks l) (base + k) None
cleared-append base [] k l = refl
cleared-append base (j ∷ js) k l = cleared-append base js k (slice_set l (base + j) None)

-- a block was put where there was none
pub cleared-opened : (base : ℕ) (ks : List ℕ) (k b : ℕ) (l : List (Option ℕ)) → slice_get l (base + k) ≡ Some None →
    cleared base (ks ++ k ∷ []) (slice_set l (base + k) (Some b)) ≡ cleared base ks l
cleared-opened base ks k b l at =
    let i = base + k in
    cleared-append base ks k (slice_set l i (Some b))
    ∙ sym (cleared-set base ks (slice_set l i (Some b)) i)
    ∙ ap (cleared base ks) (set_twice l i (Some b) None ∙ set_there l i None at)

set_some : (l : List (Option ℕ)) (i j b : ℕ) → slice_get (slice_set l j None) i ≡ Some (Some b) → slice_get l i ≡ Some (Some b)
set_some [] i j b at = at
set_some (x ∷ xs) zero zero b at = absurd (none_not_some (some_same at))
set_some (x ∷ xs) zero (suc j) b at = at
set_some (x ∷ xs) (suc i) zero b at = at
set_some (x ∷ xs) (suc i) (suc j) b at = set_some xs i j b at

-- what still stands stood there before
pub cleared-some : (base : ℕ) (ks : List ℕ) (l : List (Option ℕ)) (i b : ℕ) → slice_get (cleared base ks l) i ≡ Some (Some b) →
    slice_get l i ≡ Some (Some b)
cleared-some base [] l i b at = at
cleared-some base (k ∷ ks) l i b at = set_some l i (base + k) b (cleared-some base ks (slice_set l (base + k) None) i b at)

-- ---- those of the calls outside

take_set : {A : Type 0} (base i : ℕ) (l : List A) (x : A) → base ≤ i → take base (slice_set l i x) ≡ take base l
take_set zero i l x least = refl
take_set (suc base) i [] x least = refl
take_set (suc base) zero (y ∷ ys) x least = absurd (omega arith)
take_set (suc base) (suc i) (y ∷ ys) x least = ap (λ s. y ∷ s) (take_set base i ys x (omega arith))

pub take-put : {A : Type 0} (base k : ℕ) (l : List A) (x : A) → take base (slice_set l (base + k) x) ≡ take base l
take-put base k l x = take_set base (base + k) l x (omega arith)

pub take-cleared : (base : ℕ) (ks : List ℕ) (l : List (Option ℕ)) → take base (cleared base ks l) ≡ take base l
take-cleared base [] l = refl
take-cleared base (k ∷ ks) l = take-cleared base ks (slice_set l (base + k) None) ∙ take-put base k l None

-- ---- blocks by their numbers

by_same : (b : Bool) (base j k number : ℕ) (l : List (Option ℕ)) → nat_eq j k ≡ b → slice_get l (base + k) ≡ Some None →
    (if b then Some number else block_at (slice_get l (base + j))) ≡ block_at (slice_get (slice_set l (base + k) (Some number)) (base + j))
by_same true base j k number l same at =
    sym (ap block_at (ap (λ i. slice_get (slice_set l (base + k) (Some number)) (base + i)) (eqb-true j k same)
    ∙ get_set_same l (base + k) None (Some number) at))
by_same false base j k number l same at =
    sym (ap block_at (get_set_other l (base + k) (base + j) (Some number) (λ e. eqb-false j k same (omega (arith, e)))))

pub window-put : (base j k number : ℕ) (l : List (Option ℕ)) → slice_get l (base + k) ≡ Some None →
    (if nat_eq j k then Some number else block_at (slice_get l (base + j)))
    ≡ block_at (slice_get (slice_set l (base + k) (Some number)) (base + j))
window-put base j k number l at = by_same (nat_eq j k) base j k number l refl at

none_there : (n k : ℕ) → None ≡ block_at (slice_get (replicate n None) k)
none_there zero k = refl
none_there (suc n) zero = refl
none_there (suc n) (suc k) = none_there n k

get_after : {A : Type 0} (xs ys : List A) (k : ℕ) → slice_get (xs ++ ys) (length xs + k) ≡ slice_get ys k
get_after [] ys k = ap (slice_get ys) (omega arith)
get_after (x ∷ xs) ys k = ap (slice_get (x ∷ xs ++ ys)) (after x xs k) ∙ get_after xs ys k where
  after : {A : Type 0} (x : A) (xs : List A) (k : ℕ) → length (x ∷ xs) + k ≡ suc (length xs + k)
  after x xs k = omega arith

-- a new call's window is empty
pub window-fresh : (l : List (Option ℕ)) (n k : ℕ) → None ≡ block_at (slice_get (l ++ replicate n None) (length l + k))
window-fresh l n k = none_there n k ∙ sym (ap block_at (get_after l (replicate n None) k))
