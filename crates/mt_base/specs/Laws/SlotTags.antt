-- The tags of the slots of one frame: where only the tag 0 is excluded, the ring has the fifteen tags from 1 to 15.
use Rattle.std.specs.Prelude.{◌≡◌, ◌≢◌, ℕ, zero, suc, ◌+◌, ◌-◌, ◌%◌, ◌<◌, ◌≤◌, max, Bool, true, ◌&&◌, ◌==◌, refl}
use Rattle.std.proofs.Common.{sym, ◌∙◌, ap, arith, inl, inr}
use Rattle.std.proofs.lemmas.Bool.{cases_eq, eqb-true, and_parts}
use Rattle.mt_base.specs.Tags.{next_tag, allowed_from, base, slot_tag, zero_excluded}

-- a test of all numbers below a bound
abbrev all_below : ℕ → (ℕ → Bool) → Bool
all_below zero p = true
all_below (suc n) p = p n && all_below n p

all_below_at : (n : ℕ) (p : ℕ → Bool) → all_below n p ≡ true → (k : ℕ) → k < n → p k ≡ true
all_below_at zero p all k h = absurd (omega (arith, h))
all_below_at (suc n) p all k h = elim (cases_eq k n) [
  | inl same ↦ ap p same ∙ (and_parts (p n) (all_below n p) all).0
  | inr other ↦ all_below_at n p (and_parts (p n) (all_below n p) all).1 k (omega (arith, h, other))
]

-- ---- the base tag

tested_base : all_below 16 (λ c. base c == max 1 c) ≡ true
unfolding allowed_from
tested_base = refl

-- a choice that is 0 becomes 1, and any other stays
pub base_is : (c : ℕ) → c < 16 → base c ≡ max 1 c
base_is c h = eqb-true _ _ (all_below_at 16 (λ c. base c == max 1 c) tested_base c h)

pub base_nonzero : (c : ℕ) → c < 16 → 1 ≤ base c
base_nonzero c h = omega (arith, base_is c h)

pub base-lt : (c : ℕ) → c < 16 → base c < 16
base-lt c h = omega (arith, base_is c h, h)

-- ---- the tags of slots

tested_next : all_below 15 (λ t. all_below 16 (λ i. next_tag (t + 1) i zero_excluded == ((t + i) % 15 + 1))) ≡ true
unfolding allowed_from
tested_next = refl

-- from a tag that is not 0, an offset goes so far round the fifteen tags from 1 to 15
pub next_tag_nonzero : (t i : ℕ) → t < 15 → i < 16 → next_tag (t + 1) i zero_excluded ≡ (t + i) % 15 + 1
next_tag_nonzero t i h small =
    eqb-true _ _ (all_below_at 16 (λ i. next_tag (t + 1) i zero_excluded == ((t + i) % 15 + 1))
    (all_below_at 15 (λ t. all_below 16 (λ i. next_tag (t + 1) i zero_excluded == ((t + i) % 15 + 1))) tested_next t h) i small)

pub slot_tag_is : (c i : ℕ) → c < 16 → i < 16 → slot_tag c i ≡ (max 1 c - 1 + i) % 15 + 1
slot_tag_is c i h small =
    ap (λ t. next_tag t i zero_excluded) (let e : base c ≡ max 1 c - 1 + 1 = omega (arith, base_is c h) in e)
    ∙ next_tag_nonzero (max 1 c - 1) i (omega (arith, h)) small

-- each is one of the fifteen tags from 1 to 15
pub slot_tag_nonzero : (c i : ℕ) → c < 16 → i < 16 → 1 ≤ slot_tag c i
slot_tag_nonzero c i h small = omega (arith, slot_tag_is c i h small)

pub slot_tag-lt : (c i : ℕ) → c < 16 → i < 16 → slot_tag c i < 16
slot_tag-lt c i h small = omega (arith, slot_tag_is c i h small)

-- the slots with the indices 0 to 14 have different tags
pub slot_tag_apart : (c i j : ℕ) → c < 16 → i < 15 → j < 15 → i ≢ j → slot_tag c i ≢ slot_tag c j
slot_tag_apart c i j h first second apart same =
    omega (arith, h, first, second, apart, same, slot_tag_is c i h (omega arith), slot_tag_is c j h (omega arith))

-- and each of the fifteen tags is that of one of them
pub slot_tag_reached : (c t : ℕ) → c < 16 → 1 ≤ t → t < 16 → (i : ℕ) × (i < 15) × (slot_tag c i ≡ t)
slot_tag_reached c t h nonzero small =
    ((t + 15 - max 1 c) % 15, omega arith, slot_tag_is c _ h (omega arith) ∙ omega (arith, h, nonzero, small))

-- the index counts modulo 15
pub slot_tag-mod : (c i : ℕ) → c < 16 → i < 16 → slot_tag c (i % 15) ≡ slot_tag c i
slot_tag-mod c i h small =
    slot_tag_is c (i % 15) h (omega arith) ∙ omega (arith, h, small) ∙ sym (slot_tag_is c i h small)
