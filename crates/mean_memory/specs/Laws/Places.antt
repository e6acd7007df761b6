-- Elements of lists by their places, after a change and after a new one at the end.
use Rattle.std.proofs.Common.{◌≡◌, ◌≢◌, refl, sym, ap, ℕ, zero, suc, List, [], ◌∷◌, ◌++◌, length, Option, Some, None}
use Rattle.std.specs.Prelude.{slice_get, slice_set}

pub none_not_some : {A : Type 0} {a : A} → None ≡ Some a → ⊥
none_not_some e = cc

abbrev or_else : {A : Type 0} → A → Option A → A
or_else a None = a
or_else a (Some x) = x

pub some_same : {A : Type 0} {a b : A} → Some a ≡ Some b → a ≡ b
some_same {a = a} e = ap (or_else a) e

pub get_new : {A : Type 0} (xs : List A) (x : A) → slice_get (xs ++ x ∷ []) (length xs) ≡ Some x
get_new [] x = refl
get_new (y ∷ ys) x = get_new ys x

pub get_old : {A : Type 0} (xs : List A) (x : A) (n : ℕ) → n ≢ length xs → slice_get (xs ++ x ∷ []) n ≡ slice_get xs n
get_old [] x zero differs = absurd (differs refl)
get_old [] x (suc n) differs = refl
get_old (y ∷ ys) x zero differs = refl
get_old (y ∷ ys) x (suc n) differs = get_old ys x n (λ e. differs (ap suc e))

pub get_set_same : {A : Type 0} (xs : List A) (n : ℕ) (x y : A) → slice_get xs n ≡ Some x → slice_get (slice_set xs n y) n ≡ Some y
get_set_same [] n x y at = absurd (none_not_some at)
get_set_same (z ∷ zs) zero x y at = refl
get_set_same (z ∷ zs) (suc n) x y at = get_set_same zs n x y at

pub get_set_other : {A : Type 0} (xs : List A) (m n : ℕ) (y : A) → m ≢ n → slice_get (slice_set xs m y) n ≡ slice_get xs n
get_set_other [] m n y differs = refl
get_set_other (z ∷ zs) zero zero y differs = absurd (differs refl)
get_set_other (z ∷ zs) zero (suc n) y differs = refl
get_set_other (z ∷ zs) (suc m) zero y differs = refl
get_set_other (z ∷ zs) (suc m) (suc n) y differs = get_set_other zs m n y (λ e. differs (ap suc e))

pub set_there : {A : Type 0} (xs : List A) (n : ℕ) (x : A) → slice_get xs n ≡ Some x → slice_set xs n x ≡ xs
set_there [] n x at = refl
set_there (z ∷ zs) zero x at = ap (λ y. y ∷ zs) (sym (some_same at))
set_there (z ∷ zs) (suc n) x at = ap (λ ys. z ∷ ys) (set_there zs n x at)
