-- Laws of arithmetic that wraps round at 2 ^ k. None asks for numbers that fit.
use Rattle.std.specs.Prelude.{◌≡◌, ℕ, ◌+◌, ◌-◌, ◌*◌, ◌/◌, ◌%◌, ◌^◌, ◌<◌, ◌≤◌}
use Rattle.std.proofs.Common.{sym, ◌∙◌, ap, arith, pow_pos, pow_mono, pow-add, mul_assoc, add_comm, add_assoc, mod-lt, mod-eq_of_lt}
use Rattle.std.proofs.Math.Nat.{add-mul-mod_self_right, mod-mod, mod-add-mod, add-mod-mod, div-add-mod'}
use Rattle.std.proofs.lemmas.Nat.{mul-mod_first, mul-mod_second}
use Rattle.mt_base.specs.Wrapping.{wrap, wrapping_add, wrapping_sub, wrapping_mul}

-- ---- the low bits

-- two numbers that differ by multiples of m leave the same remainder
pub same_remainder : (m a b i j : ℕ) → a + i * m ≡ b + j * m → a % m ≡ b % m
same_remainder m a b i j e = sym (add-mul-mod_self_right a i m) ∙ ap (λ n. n % m) e ∙ add-mul-mod_self_right b j m

-- the same of the low k bits
pub same_wrap : (k a b i j : ℕ) → a + i * 2 ^ k ≡ b + j * 2 ^ k → wrap k a ≡ wrap k b
same_wrap k a b i j e = same_remainder (2 ^ k) a b i j e

pub wrap-lt : (k n : ℕ) → wrap k n < 2 ^ k
wrap-lt k n = mod-lt n (pow_pos k)

-- a number that fits is left alone
pub wrap_below : (k n : ℕ) → n < 2 ^ k → wrap k n ≡ n
wrap_below k n h = mod-eq_of_lt h

pub wrap-wrap : (k n : ℕ) → wrap k (wrap k n) ≡ wrap k n
wrap-wrap k n = mod-mod n (2 ^ k)

-- a multiple of 2 ^ k is one of 2 ^ j for a smaller j
pub power_split : (k j q : ℕ) → j ≤ k → q * 2 ^ k ≡ q * 2 ^ (k - j) * 2 ^ j
power_split k j q h =
    ap (λ i. q * 2 ^ i) (let e : k ≡ (k - j) + j = omega arith in e)
    ∙ ap (λ p. q * p) (pow-add 2 (k - j) j)
    ∙ sym (mul_assoc q (2 ^ (k - j)) (2 ^ j))

-- of the low k bits, the low j
pub wrap-wrap_wider : (j k n : ℕ) → j ≤ k → wrap j (wrap k n) ≡ wrap j n
wrap-wrap_wider j k n h = same_remainder (2 ^ j) (n % 2 ^ k) n (n / 2 ^ k * 2 ^ (k - j)) 0 split
  where
    split : n % 2 ^ k + n / 2 ^ k * 2 ^ (k - j) * 2 ^ j ≡ n + 0 * 2 ^ j
    split = omega (arith, div-add-mod' n (2 ^ k), power_split k j (n / 2 ^ k) h)

-- of the low j bits, the low k where k is no less
pub wrap-wrap_narrower : (j k n : ℕ) → j ≤ k → wrap k (wrap j n) ≡ wrap j n
wrap-wrap_narrower j k n h = wrap_below k (wrap j n) (omega (arith, wrap-lt j n, pow_mono h))

-- ---- addition

pub wrapping_add_comm : (k a b : ℕ) → wrapping_add k a b ≡ wrapping_add k b a
wrapping_add_comm k a b = ap (wrap k) (add_comm a b)

pub wrapping_add-wrap_left : (k a b : ℕ) → wrapping_add k (wrap k a) b ≡ wrapping_add k a b
wrapping_add-wrap_left k a b = mod-add-mod a (2 ^ k) b

pub wrapping_add-wrap_right : (k a b : ℕ) → wrapping_add k a (wrap k b) ≡ wrapping_add k a b
wrapping_add-wrap_right k a b = add-mod-mod a b (2 ^ k)

pub wrapping_add_assoc : (k a b c : ℕ) → wrapping_add k (wrapping_add k a b) c ≡ wrapping_add k a (wrapping_add k b c)
wrapping_add_assoc k a b c =
    wrapping_add-wrap_left k (a + b) c ∙ ap (wrap k) (add_assoc a b c) ∙ sym (wrapping_add-wrap_right k a (b + c))

-- a sum that fits does not wrap
pub wrapping_add_below : (k a b : ℕ) → a + b < 2 ^ k → wrapping_add k a b ≡ a + b
wrapping_add_below k a b h = wrap_below k (a + b) h

-- what is added on both sides cancels
pub wrapping_add_cancel : (k a b c : ℕ) → wrapping_add k a c ≡ wrapping_add k b c → wrap k a ≡ wrap k b
wrapping_add_cancel k a b c e =
    same_remainder (2 ^ k) a b ((b + c) / 2 ^ k) ((a + c) / 2 ^ k)
    (omega (arith, e, div-add-mod' (a + c) (2 ^ k), div-add-mod' (b + c) (2 ^ k)))

-- ---- subtraction

-- the difference is any number to which b is added to give a
pub wrapping_sub_is : (k a b c : ℕ) → wrapping_add k c b ≡ wrap k a → wrapping_sub k a b ≡ wrap k c
wrapping_sub_is k a b c e =
    same_remainder (2 ^ k) (a + (2 ^ k - b % 2 ^ k)) c ((c + b) / 2 ^ k) (a / 2 ^ k + b / 2 ^ k + 1)
    (omega (arith, e, mod-lt b (pow_pos k), div-add-mod' a (2 ^ k), div-add-mod' b (2 ^ k), div-add-mod' (c + b) (2 ^ k)))

-- a difference that is not negative does not wrap
pub wrapping_sub_below : (k a b : ℕ) → b ≤ a → wrapping_sub k a b ≡ wrap k (a - b)
wrapping_sub_below k a b h = wrapping_sub_is k a b (a - b) (ap (wrap k) (let e : a - b + b ≡ a = omega arith in e))

pub wrapping_sub_self : (k a : ℕ) → wrapping_sub k a a ≡ 0
wrapping_sub_self k a = wrapping_sub_is k a a 0 (ap (wrap k) (let e : 0 + a ≡ a = omega arith in e)) ∙ wrap_below k 0 (pow_pos k)

pub wrapping_sub-zero : (k a : ℕ) → wrapping_sub k a 0 ≡ wrap k a
wrapping_sub-zero k a = wrapping_sub_is k a 0 a (ap (wrap k) (let e : a + 0 ≡ a = omega arith in e))

-- to subtract what was added, and to add what was subtracted
pub wrapping_sub-wrapping_add : (k a b : ℕ) → wrapping_sub k (wrapping_add k a b) b ≡ wrap k a
wrapping_sub-wrapping_add k a b = wrapping_sub_is k (wrapping_add k a b) b a (sym (wrap-wrap k (a + b)))

pub wrapping_add-wrapping_sub : (k a b : ℕ) → wrapping_add k (wrapping_sub k a b) b ≡ wrap k a
wrapping_add-wrapping_sub k a b =
    wrapping_add-wrap_left k (a + (2 ^ k - b % 2 ^ k)) b
    ∙ same_remainder (2 ^ k) (a + (2 ^ k - b % 2 ^ k) + b) a 0 (b / 2 ^ k + 1)
    (omega (arith, mod-lt b (pow_pos k), div-add-mod' b (2 ^ k)))

pub wrapping_sub-wrap_left : (k a b : ℕ) → wrapping_sub k (wrap k a) b ≡ wrapping_sub k a b
wrapping_sub-wrap_left k a b = mod-add-mod a (2 ^ k) (2 ^ k - b % 2 ^ k)

pub wrapping_sub-wrap_right : (k a b : ℕ) → wrapping_sub k a (wrap k b) ≡ wrapping_sub k a b
wrapping_sub-wrap_right k a b = ap (λ r. (a + (2 ^ k - r)) % 2 ^ k) (mod-mod b (2 ^ k))

-- to subtract a sum is to subtract one part and then the other
pub wrapping_sub-add : (k a b c : ℕ) → wrapping_sub k a (b + c) ≡ wrapping_sub k (wrapping_sub k a b) c
wrapping_sub-add k a b c = wrapping_sub_is k a (b + c) (wrapping_sub k (wrapping_sub k a b) c) both ∙ wrap-wrap k _
  where
    both : wrapping_add k (wrapping_sub k (wrapping_sub k a b) c) (b + c) ≡ wrap k a
    both =
        ap (wrapping_add k (wrapping_sub k (wrapping_sub k a b) c)) (add_comm b c)
        ∙ ap (wrap k) (sym (add_assoc (wrapping_sub k (wrapping_sub k a b) c) c b))
        ∙ sym (wrapping_add-wrap_left k (wrapping_sub k (wrapping_sub k a b) c + c) b)
        ∙ ap (λ n. wrapping_add k n b) (wrapping_add-wrapping_sub k (wrapping_sub k a b) c ∙ wrap-wrap k _)
        ∙ wrapping_add-wrapping_sub k a b

-- ---- multiplication

pub wrapping_mul-wrap_left : (k a b : ℕ) → wrapping_mul k (wrap k a) b ≡ wrapping_mul k a b
wrapping_mul-wrap_left k a b = mul-mod_first a b (2 ^ k)

pub wrapping_mul-wrap_right : (k a b : ℕ) → wrapping_mul k a (wrap k b) ≡ wrapping_mul k a b
wrapping_mul-wrap_right k a b = mul-mod_second a b (2 ^ k)

-- a product that fits does not wrap
pub wrapping_mul_below : (k a b : ℕ) → a * b < 2 ^ k → wrapping_mul k a b ≡ a * b
wrapping_mul_below k a b h = wrap_below k (a * b) h
