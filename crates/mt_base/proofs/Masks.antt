-- What the masks of the code leave of a number.
use Rattle.std.proofs.Common.{◌≡◌, ℕ, ◌+◌, ◌-◌, ◌*◌, ◌/◌, ◌%◌, ◌^◌, ◌<◌, ◌≤◌, ◌∙◌, ap, ap₂, arith, bit_and, bit_or}
use Rattle.std.proofs.lemmas.Nat.{and_mask, and_block, or_block, or_shifted, or_comm}
use Rattle.std.proofs.lemmas.Nat.Bits.{ones_shr}

-- `n & (MAX >> (64 - k))` is the low k bits
pub low_bits : (n k : ℕ) → k ≤ 64 → bit_and n ((2 ^ 64 - 1) / 2 ^ (64 - k)) ≡ n % 2 ^ k
low_bits n k h =
    ap (bit_and n) (ones_shr 64 (64 - k) (omega arith) ∙ ap (λ i. 2 ^ i - 1) (let e : 64 - (64 - k) ≡ k = omega (arith, h) in e))
    ∙ and_mask n k

-- a number without its bits 59 to 56
pub without_tag : (n : ℕ) → n < 2 ^ 64 → bit_and n 17365880163140632575 ≡ n / 2 ^ 60 * 2 ^ 60 + n % 2 ^ 56
without_tag n h =
    ap (λ m. bit_and m 17365880163140632575) (let e : n ≡ n / 2 ^ 60 * 2 ^ 60 + n % 2 ^ 60 = omega arith in e)
    ∙ and_block 60 (n / 2 ^ 60) 15 (n % 2 ^ 60) (2 ^ 56 - 1) (omega arith) (omega arith)
    ∙ ap₂ (λ a b. a * 2 ^ 60 + b)
    (and_mask (n / 2 ^ 60) 4 ∙ omega (arith, h))
    (and_mask (n % 2 ^ 60) 56 ∙ omega arith)

-- and with other bits put there
pub put_tag : (a r t : ℕ) → r < 2 ^ 56 → t < 16 → bit_or (a * 2 ^ 60 + r) (t * 2 ^ 56) ≡ a * 2 ^ 60 + t * 2 ^ 56 + r
put_tag a r t low small =
    ap₂ bit_or (let e : a * 2 ^ 60 + r ≡ (a * 2 ^ 4) * 2 ^ 56 + r = omega arith in e)
    (let e : t * 2 ^ 56 ≡ t * 2 ^ 56 + 0 = omega arith in e)
    ∙ or_block 56 (a * 2 ^ 4) t r 0 low (omega arith)
    ∙ ap₂ (λ x y. x * 2 ^ 56 + y) (or_shifted a 4 t small) (or_comm r 0)
    ∙ omega arith
