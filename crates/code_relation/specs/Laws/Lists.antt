-- Parts of lists by position (this project's own).
use Rattle.std.specs.Prelude.{◌≡◌, ◌≢◌, ℕ, zero, suc, ◌+◌, ◌≤◌, ◌<◌, List}
use Rattle.std.specs.Prelude.{[], ◌∷◌, ◌++◌, take, drop, length, slice_get, slice_set, Some, refl}
use Rattle.std.proofs.Common.{arith, ap, subst}

pub get_take : {A : Type 0} (n k : ℕ) (xs : List A) (x : A) → slice_get (take n xs) k ≡ Some x → slice_get xs k ≡ Some x
get_take zero k xs x is = absurd (cc)
get_take (suc n) k [] x is = absurd (cc)
get_take (suc n) zero (y ∷ ys) x is = is
get_take (suc n) (suc k) (y ∷ ys) x is = get_take n k ys x is

get_at : {A : Type 0} (xs : List A) (j i : ℕ) (x : A) → j ≡ i → slice_get xs j ≡ Some x → slice_get xs i ≡ Some x
get_at xs j i x same is = subst (λ k. slice_get xs k ≡ Some x) same is

pub get_drop : {A : Type 0} (n k : ℕ) (xs : List A) (x : A) → slice_get (drop n xs) k ≡ Some x → slice_get xs (n + k) ≡ Some x
get_drop zero k xs x is = get_at xs k (0 + k) x (omega arith) is
get_drop (suc n) k [] x is = absurd (cc)
get_drop (suc n) k (y ∷ ys) x is = get_at (y ∷ ys) (suc (n + k)) (suc n + k) x (omega arith) (get_drop n k ys x is)

pub get_set_same : {A : Type 0} (xs : List A) (n : ℕ) (x y : A) → slice_get xs n ≡ Some x → slice_get (slice_set xs n y) n ≡ Some y
get_set_same [] n x y is = absurd (cc)
get_set_same (z ∷ zs) zero x y is = refl
get_set_same (z ∷ zs) (suc n) x y is = get_set_same zs n x y is

pub get_set_other : {A : Type 0} (xs : List A) (m n : ℕ) (y : A) → m ≢ n → slice_get (slice_set xs m y) n ≡ slice_get xs n
get_set_other [] m n y other = refl
get_set_other (z ∷ zs) zero zero y other = absurd (other refl)
get_set_other (z ∷ zs) zero (suc n) y other = refl
get_set_other (z ∷ zs) (suc m) zero y other = refl
get_set_other (z ∷ zs) (suc m) (suc n) y other = get_set_other zs m n y (λ same. other (ap suc same))

-- so many, from a place on, where there are as many
pub length-part : {A : Type 0} (offset n : ℕ) (xs : List A) → offset + n ≤ length xs → length (take n (drop offset xs)) ≡ n
length-part zero zero xs within = refl
length-part zero (suc n) [] within = absurd (omega (arith, within))
length-part zero (suc n) (x ∷ xs) within = ap suc (length-part zero n xs (omega (arith, within)))
length-part (suc offset) n [] within = absurd (omega (arith, within))
length-part (suc offset) n (x ∷ xs) within = length-part offset n xs (omega (arith, within))

pub length-front : {A : Type 0} (n : ℕ) (xs : List A) → n ≤ length xs → length (take n xs) ≡ n
length-front zero xs within = refl
length-front (suc n) [] within = absurd (omega (arith, within))
length-front (suc n) (x ∷ xs) within = ap suc (length-front n xs (omega (arith, within)))

-- where something is that has a place in a list
pub get_within : {A : Type 0} (xs : List A) (k : ℕ) (x : A) → slice_get xs k ≡ Some x → k < length xs
get_within [] k x is = absurd (cc)
get_within (y ∷ ys) zero x is = omega arith
get_within (y ∷ ys) (suc k) x is = omega (arith, get_within ys k x is)

-- in two lists joined it is in one of them
pub data InJoined {A : Type 0} (xs ys : List A) (k : ℕ) (x : A) : Type 0 where
  front : slice_get xs k ≡ Some x → InJoined xs ys k x
  back : (j : ℕ) → k ≡ length xs + j → slice_get ys j ≡ Some x → InJoined xs ys k x

further : {A : Type 0} {xs ys : List A} {k : ℕ} {x : A} (y : A) → InJoined xs ys k x → InJoined (y ∷ xs) ys (suc k) x
further y (front is) = front is
further y (back j same is) = back j (omega (arith, same)) is

pub get_joined : {A : Type 0} (xs ys : List A) (k : ℕ) (x : A) → slice_get (xs ++ ys) k ≡ Some x → InJoined xs ys k x
get_joined [] ys k x is = back k (omega arith) is
get_joined (y ∷ xs) ys zero x is = front is
get_joined (y ∷ xs) ys (suc k) x is = further y (get_joined xs ys k x is)
