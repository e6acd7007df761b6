-- The bytes between two places are zero exactly where the test says so.
use Rattle.std.proofs.Common.{◌≡◌, ℕ, zero, suc, ◌+◌, ◌-◌, ◌<◌, ◌≤◌, Bool, true, false, List, [], ◌∷◌, length, take, drop, get_or}
use Rattle.std.proofs.Common.{replicate, refl, sym, ap, ◌∙◌, arith, length-take, get_or-drop, get_or-take}
use Rattle.std.specs.Prelude.{◌&&◌, ◌==◌}
use Rattle.std.proofs.lemmas.Bool.Decides.{nat_tests}
use Rattle.std.proofs.lemmas.List.{get_or_past}
use Rattle.elf_base.specs.Zeros.{are_zero, is_zero_between}
use Rattle.elf_base.specs.Laws.Tests.{both, both_hold, same_is, is_same}

-- ---- a list of zeros

are_zeros : (xs : List ℕ) → ((i : ℕ) → i < length xs → get_or xs i 0 ≡ 0) → are_zero xs ≡ true
are_zeros [] h = refl
are_zeros (x ∷ xs) h =
    both_hold (x == 0) (are_zero xs) (same_is x 0 (h 0 (omega arith))) (are_zeros xs (λ i lt. h (suc i) (omega (arith, lt))))

pub zeros : (xs : List ℕ) → are_zero xs ≡ true → xs ≡ replicate (length xs) 0
zeros [] h = refl
zeros (x ∷ xs) h =
    let parts = both (x == 0) (are_zero xs) h in
    let none : x ≡ 0 = is_same x 0 parts.0 in
    ap (λ (n : ℕ). n ∷ xs) none ∙ ap (λ (l : List ℕ). 0 ∷ l) (zeros xs parts.1)

zero_at : (xs : List ℕ) (i : ℕ) → are_zero xs ≡ true → get_or xs i 0 ≡ 0
zero_at [] i h = get_or_past [] i 0 (omega arith)
zero_at (x ∷ xs) zero h =
    is_same x 0 (both (x == 0) (are_zero xs) h).0
zero_at (x ∷ xs) (suc i) h = zero_at xs i (both (x == 0) (are_zero xs) h).1

-- ---- between two places

pub zero_between : (file : List ℕ) (from to : ℕ) → ((i : ℕ) → from ≤ i → i < to → get_or file i 0 ≡ 0) → is_zero_between file from to ≡ true
unfolding is_zero_between
zero_between file from to h =
    let part : List ℕ = take (to - from) (drop from file) in
    are_zeros part (λ i lt.
    let within : i < to - from = omega (arith, lt, length-take (to - from) (drop from file)) in
    get_or-take (to - from) (drop from file) i 0 within ∙ get_or-drop from file i 0 ∙ h (from + i) (omega arith) (omega (arith, within)))

pub zero_there : (file : List ℕ) (from to : ℕ) → is_zero_between file from to ≡ true → (i : ℕ) → from ≤ i → i < to → get_or file i 0 ≡ 0
unfolding is_zero_between
zero_there file from to h i low high =
    let zero_byte = zero_at (take (to - from) (drop from file)) (i - from) h in
    let same : from + (i - from) ≡ i = omega arith in
    ap (λ (k : ℕ). get_or file k 0) (sym same) ∙ sym (get_or-drop from file (i - from) 0)
    ∙ sym (get_or-take (to - from) (drop from file) (i - from) 0 (omega arith)) ∙ zero_byte
