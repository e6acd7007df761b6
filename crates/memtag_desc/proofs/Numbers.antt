-- Reading a number byte by byte: what the first bytes leave to the rest.
use Rattle.std.proofs.Common.{◌≡◌, ℕ, zero, suc, ◌+◌, ◌*◌, ◌-◌, ◌^◌, ◌<◌, ◌≤◌, List, [], ◌∷◌, length, drop, get_or, cond, eqb, Ok, Err}
use Rattle.std.proofs.Common.{refl, sym, ap, subst, ◌∙◌, arith, inl, inr, add-one, drop-cons}
use Rattle.std.proofs.Math.Nat.{pow-succ', mul-le-mul_left}
use Rattle.std.proofs.lemmas.Bool.{ne_eqb}
use Rattle.std.proofs.lemmas.Bool.Decides.{eqb_tells}
use Rattle.std.proofs.lemmas.List.{drop_all, get_or_default}
use Rattle.memtag_desc.specs.declared.refusal.DescRefusal.{DescRefusal}
use Rattle.memtag_desc.specs.declared.refusal.DescRefusal.TheVariants.{Cut, LongForm, TooFar}
use Rattle.memtag_desc.specs.Laws.Reading.{ReadNumber, read_as, above, number_within}
use Rattle.memtag_desc.specs.Laws.ReadNumber.{within-last, within-more, within-nothing, within-far, above-some, above-zero, above-fault}

-- the answer behind so many bytes that go on, which made a value below a scale
unfoldable pub resumed : ℕ → ℕ → ℕ → ℕ → ReadNumber → ReadNumber
resumed value scale zero place (Ok n) = read_as (value + scale * n.value) n.bytes
resumed value scale (suc k) place (Ok n) = cond (eqb n.value 0) (Err (LongForm place))
    (read_as (value + scale * n.value) (suc k + n.bytes))
resumed value scale k place (Err fault) = Err fault

pub resumed-fault : (value scale k place : ℕ) (fault : DescRefusal) → resumed value scale k place (Err fault) ≡ Err fault
unfolding resumed
resumed-fault value scale zero place fault = refl
resumed-fault value scale (suc k) place fault = refl

pub resumed-some : (value scale k place n bytes : ℕ) → 0 < n → resumed value scale k place (read_as n bytes)
    ≡ read_as (value + scale * n) (k + bytes)
unfolding resumed
resumed-some value scale zero place n bytes h = let same : 0 + bytes ≡ bytes = omega arith in ap (read_as (value + scale * n)) (sym same)
resumed-some value scale (suc k) place n bytes h = rw (ne_eqb n 0 (λ e. omega arith)) refl

pub resumed-first : (value scale place n bytes : ℕ) → resumed value scale 0 place (read_as n bytes) ≡ read_as (value + scale * n) bytes
unfolding resumed
resumed-first value scale place n bytes = refl

pub resumed-zero : (value scale k place bytes : ℕ) → 0 < k → resumed value scale k place (read_as 0 bytes) ≡ Err (LongForm place)
unfolding resumed
resumed-zero value scale zero place bytes h = absurd (omega arith)
resumed-zero value scale (suc k) place bytes h = refl

-- nothing of a scale is read at the start
pub resumed-start : (place : ℕ) (answer : ReadNumber) → resumed 0 1 0 place answer ≡ answer
resumed-start place (Err fault) = resumed-fault 0 1 0 place fault
resumed-start place (Ok n) =
    let is : 0 + 1 * n.value ≡ n.value = omega arith in
    resumed-first 0 1 place n.value n.bytes ∙ ap (λ (k : ℕ). read_as k n.bytes) is

-- one byte more that goes on
pub resumed-more : (value scale k place low : ℕ) (answer : ReadNumber)
    → resumed value scale k place (above place low answer) ≡ resumed (value + scale * low) (scale * 128) (k + 1) place answer
resumed-more value scale k place low (Err fault) =
    ap (resumed value scale k place) (above-fault place low fault) ∙ resumed-fault value scale k place fault
    ∙ sym (resumed-fault (value + scale * low) (scale * 128) (k + 1) place fault)
resumed-more value scale k place low (Ok n) =
    elim (eqb_tells n.value 0) [
      | inl same ↦
          ap (λ (v : ℕ). resumed value scale k place (above place low (read_as v n.bytes))) same.1
          ∙ ap (resumed value scale k place) (above-zero place low n.bytes) ∙ resumed-fault value scale k place (LongForm place)
          ∙ sym (resumed-zero (value + scale * low) (scale * 128) (k + 1) place n.bytes (omega arith))
          ∙ ap (λ (v : ℕ). resumed (value + scale * low) (scale * 128) (k + 1) place (read_as v n.bytes)) (sym same.1)
      | inr differ ↦
          let some : 0 < n.value = positive n.value differ.1 in
          let values : value + scale * (low + 128 * n.value) ≡ value + scale * low + scale * 128 * n.value = omega arith in
          let sizes : k + suc n.bytes ≡ k + 1 + n.bytes = omega arith in
          ap (resumed value scale k place) (above-some place low n.value n.bytes some)
          ∙ resumed-some value scale k place (low + 128 * n.value) (suc n.bytes) (omega arith)
          ∙ ap (λ (v : ℕ). read_as v (k + suc n.bytes)) values ∙ ap (read_as (value + scale * low + scale * 128 * n.value)) sizes
          ∙ sym (resumed-some (value + scale * low) (scale * 128) (k + 1) place n.value n.bytes some)
    ]
  where
    positive : (n : ℕ) → (n ≡ 0 → ⊥) → 0 < n
    positive zero h = absurd (h refl)
    positive (suc n) h = omega arith

-- ---- the loop

-- the answer of the whole, once so many bytes were read
abbrev pub Resumes : ℕ → ℕ → ℕ → ℕ → ℕ → List ℕ → Type 0
Resumes value scale k place total rest = resumed value scale k place (number_within (8 - k) place total (drop k rest))
    ≡ number_within 8 place total rest

pub starts : (place total : ℕ) (rest : List ℕ) → Resumes 0 1 0 place total rest
starts place total rest = resumed-start place (number_within 8 place total rest)

pub ends_cut : (value scale k place total : ℕ) (rest : List ℕ) → k < 8 → length rest ≤ k → Resumes value scale k place total rest
    → Err (Cut total) ≡ number_within 8 place total rest
ends_cut value scale k place total rest lt le so_far =
    let left : 8 - k ≡ suc (7 - k) = omega arith in
    let none : drop k rest ≡ [] = drop_all k rest le in
    let is : number_within (8 - k) place total (drop k rest) ≡ Err (Cut total) = rw (left, none) (within-nothing (7 - k) place total) in
    sym (resumed-fault value scale k place (Cut total)) ∙ ap (resumed value scale k place) (sym is) ∙ so_far

pub ends_far : (value scale place total : ℕ) (rest : List ℕ) → Resumes value scale 8 place total rest
    → Err (TooFar place) ≡ number_within 8 place total rest
ends_far value scale place total rest so_far =
    sym (resumed-fault value scale 8 place (TooFar place)) ∙ ap (resumed value scale 8 place) (sym (within-far place total (drop 8 rest)))
    ∙ so_far

-- a byte that is read
byte_at : (k place total b : ℕ) (rest : List ℕ) → k < 8 → k < length rest → get_or rest k 0 ≡ b
    → number_within (8 - k) place total (drop k rest) ≡ number_within (suc (7 - k)) place total (b ∷ drop (k + 1) rest)
byte_at k place total b rest lt within byte =
    let left : 8 - k ≡ suc (7 - k) = omega arith in
    rw (left, drop-cons rest k 0, byte, add-one) refl

pub ends_long : (value scale k place total b : ℕ) (rest : List ℕ) → k < 8 → k < length rest → get_or rest k 0 ≡ b → b ≡ 0 → 0 < k
    → Resumes value scale k place total rest
    → Err (LongForm place) ≡ number_within 8 place total rest
ends_long value scale k place total b rest lt within byte none some so_far =
    let is = byte_at k place total 0 rest lt within (byte ∙ none) ∙ within-last (7 - k) place total 0 (drop (k + 1) rest) (omega arith) in
    sym (resumed-zero value scale k place 1 some) ∙ ap (resumed value scale k place) (sym is) ∙ so_far

pub ends_first : (value scale place total b : ℕ) (rest : List ℕ) → 0 < length rest → get_or rest 0 0 ≡ b → b < 128
    → Resumes value scale 0 place total rest
    → read_as (value + scale * b) 1 ≡ number_within 8 place total rest
ends_first value scale place total b rest within byte low so_far =
    let is = byte_at 0 place total b rest (omega arith) within byte ∙ within-last 7 place total b (drop 1 rest) low in
    sym (resumed-first value scale place b 1) ∙ ap (resumed value scale 0 place) (sym is) ∙ so_far

pub ends_last : (value scale k place total b : ℕ) (rest : List ℕ) → k < 8 → k < length rest → get_or rest k 0 ≡ b → b < 128 → 0 < b
    → Resumes value scale k place total rest
    → read_as (value + scale * b) (k + 1) ≡ number_within 8 place total rest
ends_last value scale k place total b rest lt within byte low some so_far =
    let is = byte_at k place total b rest lt within byte ∙ within-last (7 - k) place total b (drop (k + 1) rest) low in
    sym (resumed-some value scale k place b 1 some) ∙ ap (resumed value scale k place) (sym is) ∙ so_far

-- a last byte that says something, or the first byte
pub ends_here : (value scale k place total b : ℕ) (rest : List ℕ) → k < 8 → k < length rest → get_or rest k 0 ≡ b → b < 128
    → (b ≡ 0 → k ≡ 0)
    → Resumes value scale k place total rest → read_as (value + scale * b) (k + 1) ≡ number_within 8 place total rest
ends_here value scale zero place total b rest lt within byte low first so_far =
    let one : 0 + 1 ≡ 1 = omega arith in
    ap (read_as (value + scale * b)) one ∙ ends_first value scale place total b rest within byte low so_far
ends_here value scale (suc k) place total b rest lt within byte low first so_far =
    elim (eqb_tells b 0) [
      | inl same ↦ absurd (omega (arith, first same.1))
      | inr differ ↦ ends_last value scale (suc k) place total b rest lt within byte low (positive b differ.1) so_far
    ]
  where
    positive : (n : ℕ) → (n ≡ 0 → ⊥) → 0 < n
    positive zero h = absurd (h refl)
    positive (suc n) h = omega arith

pub goes_on : (value scale k place total b : ℕ) (rest : List ℕ) → k < 8 → k < length rest → get_or rest k 0 ≡ b → 128 ≤ b
    → Resumes value scale k place total rest
    → Resumes (value + scale * (b - 128)) (scale * 128) (k + 1) place total rest
goes_on value scale k place total b rest lt within byte high so_far =
    let is = byte_at k place total b rest lt within byte ∙ within-more (7 - k) place total b (drop (k + 1) rest) high in
    let left : 7 - k ≡ 8 - (k + 1) = omega arith in
    ap (λ (m : ℕ). resumed (value + scale * (b - 128)) (scale * 128) (k + 1) place (number_within m place total (drop (k + 1) rest)))
    (sym left)
    ∙ sym (resumed-more value scale k place (b - 128) (number_within (7 - k) place total (drop (k + 1) rest)))
    ∙ ap (resumed value scale k place) (sym is) ∙ so_far

-- ---- how large the numbers are

power_le : (k m : ℕ) → 128 ^ k ≤ 128 ^ (k + m)
power_le k zero = let same : k + 0 ≡ k = omega arith in rw same (omega arith)
power_le k (suc m) = let same : k + suc m ≡ suc (k + m) = omega arith in rw same (omega (arith, pow-succ' 128 (k + m), power_le k m))

pub scale_le : (scale k : ℕ) → k < 8 → scale ≡ 128 ^ k → scale ≤ 562949953421312
scale_le scale k lt is =
    let all : k + (7 - k) ≡ 7 = omega arith in
    let le : 128 ^ k ≤ 128 ^ 7 = subst (λ (m : ℕ). 128 ^ k ≤ 128 ^ m) all (power_le k (7 - k)) in
    omega arith

pub scale-more : (scale k : ℕ) → scale ≡ 128 ^ k → scale * 128 ≡ 128 ^ (k + 1)
scale-more scale k is = let next : k + 1 ≡ suc k = omega arith in rw next (omega (arith, pow-succ' 128 k))

pub below_more : (value scale b : ℕ) → value < scale → b < 256 → value + scale * (b - 128) < scale * 128
below_more value scale b lt byte =
    let le : b - 128 ≤ 127 = omega arith in
    omega (arith, mul-le-mul_left scale le)

-- the byte that is read at an index
pub byte_read : (rest : List ℕ) (k b number : ℕ) → k < length rest → b ≡ get_or rest k b → number ≡ b → get_or rest k 0 ≡ number
byte_read rest k b number within read same = get_or_default rest k 0 b within ∙ sym read ∙ sym same
