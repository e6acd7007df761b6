-- Lists in which each element has been replaced by its number.
use Rattle.std.proofs.Common.{◌≡◌, ℕ, zero, suc, ◌+◌, ◌<◌, List, [], ◌∷◌, set, length, get_or, refl, ap, ◌∙◌, arith}
use Rattle.linker.specs.Sections.{each_from}

-- the same, where both replace each element alike
pub each_alike : {A B : Type 0} (k : ℕ) (f g : ℕ → A → B) (xs : List A) → ((i : ℕ) (x : A) → i < length xs → f (k + i) x ≡ g (k + i) x)
    → each_from k f xs ≡ each_from k g xs
each_alike k f g [] h = refl
each_alike {A} {B} k f g (x ∷ xs) h =
    let here : k ≡ k + 0 = omega arith in
    let first : f k x ≡ g k x = ap (λ (m : ℕ). f m x) here ∙ h 0 x (omega arith) ∙ ap (λ (m : ℕ). g m x) (omega arith) in
    let rest : each_from (k + 1) f xs ≡ each_from (k + 1) g xs =
    each_alike (k + 1) f g xs (λ i y lt.
    let at : (k + 1) + i ≡ k + suc i = omega arith in
    ap (λ (m : ℕ). f m y) at ∙ h (suc i) y (omega arith) ∙ ap (λ (m : ℕ). g m y) (omega arith)) in
    λ i. first i ∷ rest i

-- with another element at one number
pub each_set : {A B : Type 0} (k j : ℕ) (f g : ℕ → A → B) (xs : List A) (d : A) → j < length xs
    → ((i : ℕ) (x : A) → i < length xs → (i ≡ j → ⊥) → f (k + i) x ≡ g (k + i) x)
    → set (each_from k f xs) j (g (k + j) (get_or xs j d)) ≡ each_from k g xs
each_set k j f g [] d lt h = absurd (omega arith)
each_set {A} {B} k zero f g (x ∷ xs) d lt h =
    let first : g (k + 0) x ≡ g k x = ap (λ (m : ℕ). g m x) (omega arith) in
    let rest : each_from (k + 1) f xs ≡ each_from (k + 1) g xs =
    each_alike (k + 1) f g xs (λ i y in_.
    let at : (k + 1) + i ≡ k + suc i = omega arith in
    ap (λ (m : ℕ). f m y) at ∙ h (suc i) y (omega arith) (λ e. omega arith) ∙ ap (λ (m : ℕ). g m y) (omega arith)) in
    λ i. first i ∷ rest i
each_set {A} {B} k (suc j) f g (x ∷ xs) d lt h =
    let first : f k x ≡ g k x =
    ap (λ (m : ℕ). f m x) (omega arith) ∙ h 0 x (omega arith) (λ e. omega arith) ∙ ap (λ (m : ℕ). g m x) (omega arith) in
    let at : k + suc j ≡ (k + 1) + j = omega arith in
    let rest : set (each_from (k + 1) f xs) j (g ((k + 1) + j) (get_or xs j d)) ≡ each_from (k + 1) g xs =
    each_set (k + 1) j f g xs d (omega arith) (λ i y in_ ne.
    let a : (k + 1) + i ≡ k + suc i = omega arith in
    ap (λ (m : ℕ). f m y) a ∙ h (suc i) y (omega arith) (λ e. ne (omega arith)) ∙ ap (λ (m : ℕ). g m y) (omega arith)) in
    λ i. first i ∷ (ap (λ (m : ℕ). set (each_from (k + 1) f xs) j (g m (get_or xs j d))) at ∙ rest) i

-- by itself
pub each_same : {A : Type 0} (xs : List A) (k : ℕ) → each_from k (λ i x. x) xs ≡ xs
each_same [] k = refl
each_same {A} (x ∷ xs) k = ap (λ (l : List A). x ∷ l) (each_same xs (k + 1))

-- twice
pub each_each : {A B C : Type 0} (k : ℕ) (f : ℕ → A → B) (g : ℕ → B → C) (xs : List A)
    → each_from k g (each_from k f xs) ≡ each_from k (λ i x. g i (f i x)) xs
each_each k f g [] = refl
each_each {A} {B} {C} k f g (x ∷ xs) = ap (λ (l : List C). g k (f k x) ∷ l) (each_each (k + 1) f g xs)
