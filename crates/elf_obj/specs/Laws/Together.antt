-- Bytes that stand in a file one behind the other.
use Rattle.std.proofs.Common.{◌≡◌, ℕ, zero, suc, ◌+◌, ◌-◌, ◌*◌, ◌≤◌, true, List, [], ◌∷◌, ◌++◌, length, take, drop, replicate, refl}
use Rattle.std.proofs.Common.{sym, ap, subst, ◌∙◌, arith, length-append, length-take, length-drop, drop-drop}
use Rattle.std.specs.List.{flat_map}
use Rattle.std.proofs.lemmas.List.{append-nil}
use Rattle.elf_base.specs.Field.{number, field_bytes, StandsAt}
use Rattle.elf_base.specs.Place.{number_at}
use Rattle.elf_base.specs.Layout.{word_bytes}
use Rattle.elf_base.specs.Laws.Lengths.{IsBytes, length-word_bytes}
use Rattle.elf_base.specs.Laws.Reads.{field_bytes-read_like}
use Rattle.elf_base.specs.Laws.Standing.{take-add}
use Rattle.elf_base.specs.Laws.Zeros.{zeros}
use Rattle.elf_base.specs.Zeros.{are_zero, is_zero_between}
use Rattle.elf_obj.specs.Claimed.{words_at}

-- two parts that stand one behind the other stand as one
pub stands-append : (file : List ℕ) (at : ℕ) (a b : List ℕ) → StandsAt file at a → StandsAt file (at + length a) b
    → StandsAt file at (a ++ b)
stands-append file at a b ha hb =
    ap (λ (n : ℕ). take n (drop at file)) (length-append a b) ∙ take-add (length a) (length b) (drop at file)
    ∙ ap (λ (l : List ℕ). l ++ take (length b) (drop (length a) (drop at file))) ha
    ∙ ap (λ (l : List ℕ). a ++ take (length b) l) (drop-drop (length a) at file)
    ∙ ap (λ (l : List ℕ). a ++ l) hb

-- the same, where the length of the first part is known
pub stands-both : (file : List ℕ) (at n : ℕ) (a b : List ℕ) → length a ≡ n → StandsAt file at a → StandsAt file (at + n) b
    → StandsAt file at (a ++ b)
stands-both file at n a b len ha hb = stands-append file at a b ha (subst (λ (k : ℕ). StandsAt file (at + k) b) (sym len) hb)

-- what is taken from a place stands there
pub stands-taken : (file : List ℕ) (at n : ℕ) (bytes : List ℕ) → bytes ≡ take n (drop at file) → at + n ≤ length file
    → StandsAt file at bytes
stands-taken file at n bytes is within =
    let len : length bytes ≡ n = omega (arith, ap length is, length-take n (drop at file), length-drop at file, within) in
    ap (λ (k : ℕ). take k (drop at file)) len ∙ sym is

-- the words that are read stand where they are read
pub words_stand : (n at : ℕ) (file : List ℕ) → IsBytes file → at + 4 * n ≤ length file
    → StandsAt file at (flat_map word_bytes (words_at n at file))
words_stand zero at file fits h = refl
words_stand (suc n) at file fits h =
    let w : ℕ = number_at 4 at file in
    let one : word_bytes w ≡ take 4 (drop at file) =
    append-nil (field_bytes (number 4 w)) ∙ field_bytes-read_like (number 4 w) at file fits (omega (arith, h)) in
    stands-both file at 4 (word_bytes w) (flat_map word_bytes (words_at n (at + 4) file)) (length-word_bytes w)
    (stands-taken file at 4 (word_bytes w) one (omega (arith, h)))
    (words_stand n (at + 4) file fits (omega (arith, h)))

-- ---- zeros

-- zeros that stand between two places
pub zeros_stand : (file : List ℕ) (at n : ℕ) → is_zero_between file at (at + n) ≡ true → at + n ≤ length file
    → StandsAt file at (replicate n 0)
unfolding is_zero_between
zeros_stand file at n h within =
    let some : at + n - at ≡ n = omega arith in
    let part : List ℕ = take n (drop at file) in
    let zero_part : are_zero part ≡ true = ap (λ (k : ℕ). are_zero (take k (drop at file))) (sym some) ∙ h in
    let len : length part ≡ n = omega (arith, length-take n (drop at file), length-drop at file, within) in
    let is : part ≡ replicate n 0 = zeros part zero_part ∙ ap (λ (k : ℕ). replicate k 0) len in
    stands-taken file at n (replicate n 0) (sym is) within
