-- Whether an interval of addresses meets another.
use Rattle.std.proofs.Common.{◌≡◌, ℕ, ◌+◌, ◌-◌, ◌<◌, ◌≤◌, true, false, sym, ◌∙◌, arith, inl, inr}
use Rattle.std.specs.Prelude.{nat_lt}
use Rattle.std.proofs.lemmas.Bool.{cases_lt}
use Rattle.std.proofs.lemmas.Bool.Decides.{nat_tests}
use Rattle.mt_base.specs.Memory.{is_between, some_byte}
use Rattle.mt_base.specs.Laws.Memory.{some_byte_from, some_byte_none}
use Rattle.tag_pages.proofs.Mapped.{between_from, between_below, between_above}

lt_true : (a b : ℕ) → a < b → nat_lt a b ≡ true
lt_true a b h = grind (arith, nat_tests)

lt_false : (a b : ℕ) → b ≤ a → nat_lt a b ≡ false
lt_false a b h = grind (arith, nat_tests)

-- where there is a byte, and the other interval starts no later
pub meets_before : (start bytes at n : ℕ) → start ≤ at → 0 < n → nat_lt (at - start) bytes ≡ some_byte (is_between start bytes) at n
meets_before start bytes at n from some = elim (cases_lt (at - start) bytes) [
  | inl meets ↦ lt_true (at - start) bytes meets
      ∙ sym
      (some_byte_from (is_between start bytes) at n 0 some
      (between_from start bytes (at + 0) (omega (arith, from)) (omega (arith, meets, from))))
  | inr past ↦ lt_false (at - start) bytes past
      ∙ sym (some_byte_none (is_between start bytes) at n (λ k h. between_above start bytes (at + k) (omega (arith, past, from))))
]

-- where the other interval is not empty and starts later
pub meets_behind : (start bytes at n : ℕ) → at < start → 0 < bytes → nat_lt (start - at) n ≡ some_byte (is_between start bytes) at n
meets_behind start bytes at n later some = elim (cases_lt (start - at) n) [
  | inl meets ↦ lt_true (start - at) n meets
      ∙ sym
      (some_byte_from (is_between start bytes) at n (start - at) meets
      (between_from start bytes (at + (start - at)) (omega (arith, later)) (omega (arith, later, some))))
  | inr before ↦ lt_false (start - at) n before
      ∙ sym (some_byte_none (is_between start bytes) at n (λ k h. between_below start bytes (at + k) (omega (arith, before, h, later))))
]

-- where one of them is empty
pub meets_no_byte : (start bytes at n : ℕ) → n ≤ 0 → nat_lt 0 n ≡ some_byte (is_between start bytes) at n
meets_no_byte start bytes at n none = lt_false 0 n none
    ∙ sym (some_byte_none (is_between start bytes) at n (λ k h. absurd (omega (arith, h, none))))

pub meets_empty : (start bytes at n : ℕ) → bytes ≤ 0 → at < start → nat_lt 0 bytes ≡ some_byte (is_between start bytes) at n
meets_empty start bytes at n none later = lt_false 0 bytes none ∙ sym (some_byte_none (is_between start bytes) at n each)
  where
    each : (k : ℕ) → k < n → is_between start bytes (at + k) ≡ false
    each k h = elim (cases_lt (at + k) start) [
      | inl below ↦ between_below start bytes (at + k) below
      | inr from ↦ between_above start bytes (at + k) (omega (arith, none, from))
    ]
