-- Steps of the loops over bytes and records.
use Rattle.std.proofs.Common.{◌≡◌, ◌≢◌, ℕ, zero, suc, ◌+◌, ◌-◌, ◌*◌, ◌≤◌, ◌<◌, List, [], ◌∷◌, ◌++◌, length, drop, get_or, refl, sym, ap}
use Rattle.std.proofs.Common.{◌∙◌, arith, drop-cons}
use Rattle.std.specs.Prelude.{Bool, true, false, ◌&&◌, ◌==◌}
use Rattle.std.proofs.lemmas.Bool.{eq-eqb, cases_Bool, eqb-true}
use Rattle.std.proofs.lemmas.List.{drop_all}
use Rattle.std.proofs.Common.{inl, inr, ◌⊎◌}
use Rattle.elf_base.specs.Place.{number_at}
use Rattle.elf_image.specs.declared.parts.RelativeReloc.{RelativeReloc}
use Rattle.elf_image.specs.Faults.{agrees, are_relative}
use Rattle.elf_image.specs.Laws.Items.{words_at, reloc_at, relocs_at}

differs : (a b : ℕ) → a ≢ b → (a == b) ≡ false
differs a b other = elim (cases_Bool (a == b)) [
  | inl same ↦ absurd (other (eqb-true a b same))
  | inr other_way ↦ other_way
]

-- ---- bytes that are compared

pub agrees_step : (xs ys : List ℕ) (i : ℕ) → i < length xs → i < length ys → get_or xs i 0 ≡ get_or ys i 0
    → agrees (drop i xs) (drop i ys) ≡ agrees (drop (i + 1) xs) (drop (i + 1) ys)
unfolding agrees
agrees_step xs ys i within there same =
    let next : i + 1 ≡ suc i = omega arith in
    let test = eq-eqb (get_or xs i 0) (get_or ys i 0) same in
    rw (next, drop-cons xs i 0, drop-cons ys i 0, test) refl

pub agrees_differs : (xs ys : List ℕ) (i : ℕ) → i < length xs → i < length ys → get_or xs i 0 ≢ get_or ys i 0
    → agrees (drop i xs) (drop i ys) ≡ false
unfolding agrees
agrees_differs xs ys i within there other =
    let test = differs (get_or xs i 0) (get_or ys i 0) other in
    rw (drop-cons xs i 0, drop-cons ys i 0, test) refl

agrees_nothing : (xs ys : List ℕ) → (xs ≡ []) ⊎ (ys ≡ []) → agrees xs ys ≡ true
unfolding agrees
agrees_nothing [] ys h = refl
agrees_nothing (x ∷ xs) [] h = refl
agrees_nothing (x ∷ xs) (y ∷ ys) (inl h) = absurd (omega (arith, ap length h))
agrees_nothing (x ∷ xs) (y ∷ ys) (inr h) = absurd (omega (arith, ap length h))

pub agrees_end : (xs ys : List ℕ) (i : ℕ) → (length xs ≤ i) ⊎ (length ys ≤ i) → agrees (drop i xs) (drop i ys) ≡ true
agrees_end xs ys i (inl le) = agrees_nothing (drop i xs) (drop i ys) (inl (drop_all i xs le))
agrees_end xs ys i (inr le) = agrees_nothing (drop i xs) (drop i ys) (inr (drop_all i ys le))

-- ---- relocations that are relative

relative_next : (n m at : ℕ) (file : List ℕ) → n ≡ suc m
    → are_relative n at file ≡ (number_at 8 (at + 8) file == 1027 && are_relative m (at + 24) file)
unfolding are_relative
relative_next n m at file is = ap (λ (k : ℕ). are_relative k at file) is

pub relative_step : (count i : ℕ) (file : List ℕ) → i < count → number_at 8 (0x140 + 24 * i + 8) file ≡ 1027
    → are_relative (count - i) (0x140 + 24 * i) file ≡ are_relative (count - (i + 1)) (0x140 + 24 * (i + 1)) file
relative_step count i file within is =
    let test = eq-eqb (number_at 8 (0x140 + 24 * i + 8) file) 1027 is in
    let next : 0x140 + 24 * i + 24 ≡ 0x140 + 24 * (i + 1) = omega arith in
    relative_next (count - i) (count - (i + 1)) (0x140 + 24 * i) file (omega arith)
    ∙ ap (λ (b : Bool). b && are_relative (count - (i + 1)) (0x140 + 24 * i + 24) file) test
    ∙ ap (λ (k : ℕ). are_relative (count - (i + 1)) k file) next

pub relative_differs : (count i : ℕ) (file : List ℕ) → i < count → number_at 8 (0x140 + 24 * i + 8) file ≢ 1027
    → are_relative (count - i) (0x140 + 24 * i) file ≡ false
relative_differs count i file within other =
    let test = differs (number_at 8 (0x140 + 24 * i + 8) file) 1027 other in
    relative_next (count - i) (count - (i + 1)) (0x140 + 24 * i) file (omega arith)
    ∙ ap (λ (b : Bool). b && are_relative (count - (i + 1)) (0x140 + 24 * i + 24) file) test

pub relative_end : (count i at : ℕ) (file : List ℕ) → count ≤ i → are_relative (count - i) at file ≡ true
unfolding are_relative
relative_end count i at file le = ap (λ (k : ℕ). are_relative k at file) (let none : count - i ≡ 0 = omega arith in none)

-- ---- items that are read

pub words_more : (n at : ℕ) (file : List ℕ) → words_at (n + 1) at file ≡ words_at n at file ++ number_at 4 (at + 4 * n) file ∷ []
words_more zero at file =
    let place : at ≡ at + 4 * 0 = omega arith in
    ap (λ (k : ℕ). number_at 4 k file ∷ []) place
words_more (suc n) at file =
    let count : suc n + 1 ≡ suc (n + 1) = omega arith in
    let place : at + 4 + 4 * n ≡ at + 4 * suc n = omega arith in
    ap (λ (k : ℕ). words_at k at file) count
    ∙ ap (λ (l : List ℕ). number_at 4 at file ∷ l)
    (words_more n (at + 4) file ∙ ap (λ (k : ℕ). words_at n (at + 4) file ++ number_at 4 k file ∷ []) place)

pub relocs_more : (n at : ℕ) (file : List ℕ) → relocs_at (n + 1) at file ≡ relocs_at n at file ++ reloc_at (at + 24 * n) file ∷ []
relocs_more zero at file =
    let place : at ≡ at + 24 * 0 = omega arith in
    ap (λ (k : ℕ). reloc_at k file ∷ []) place
relocs_more (suc n) at file =
    let count : suc n + 1 ≡ suc (n + 1) = omega arith in
    let place : at + 24 + 24 * n ≡ at + 24 * suc n = omega arith in
    ap (λ (k : ℕ). relocs_at k at file) count
    ∙ ap (λ (l : List RelativeReloc). reloc_at at file ∷ l)
    (relocs_more n (at + 24) file ∙ ap (λ (k : ℕ). relocs_at n (at + 24) file ++ reloc_at k file ∷ []) place)
