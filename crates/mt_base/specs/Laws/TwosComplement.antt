-- Laws of two's complement: there and back, sums, differences and products, and how it is Rust's.
use Rattle.std.specs.Prelude.{◌≡◌, ℕ, zero, suc, ◌+◌, ◌-◌, ◌*◌, ◌/◌, ◌%◌, ◌^◌, ◌<◌, ◌≤◌, ℤ, pos, negsuc, ◌+ℤ◌, ◌-ℤ◌, ◌*ℤ◌, neg_ℤ}
use Rattle.std.specs.Prelude.{if◌then◌else◌, nat_lt, true, false, refl}
use Rattle.std.proofs.Common.{inl, inr, ap₂, sym, ◌∙◌, ap, arith, pow_pos, pow_mono, mod-lt, mod-eq_of_lt}
use Rattle.std.proofs.Math.Nat.{div-add-mod', two-pow-succ}
use Rattle.std.proofs.lemmas.Int.{ints}
use Rattle.std.proofs.lemmas.Bool.{cases_lt}
use Rattle.std.proofs.lemmas.Bool.Decides.{nat_tests}
use Rattle.std.specs.Int.{cast_signed, w32, w64}
use borrow.Author.Differences.{up, down}
use Rattle.mt_base.specs.Wrapping.{wrap, wrapping_add, wrapping_sub, wrapping_mul}
use Rattle.mt_base.specs.Laws.Wrapping.{same_remainder, wrap-lt, wrap_below, wrap-wrap, wrapping_sub_is}
use Rattle.mt_base.specs.TwosComplement.{to_signed, from_signed}

-- the number lies from -2 ^ (k - 1) to 2 ^ (k - 1) - 1
abbrev pub FitsBits : ℕ → ℤ → Type 0
FitsBits k (pos n) = n < 2 ^ (k - 1)
FitsBits k (negsuc n) = n < 2 ^ (k - 1)

-- ---- what the k bits of a signed number are

pub from_signed-lt : (k : ℕ) (z : ℤ) → from_signed k z < 2 ^ k
from_signed-lt k (pos n) = wrap-lt k n
from_signed-lt k (negsuc n) = omega (arith, pow_pos k)

-- n and z differ by multiples of 2 ^ k; an integer z is `up z - down z`
pub record IsCongruent (k : ℕ) (z : ℤ) (n : ℕ) : Type 0 where
  pub added : ℕ
  pub taken : ℕ
  pub balance : up z + added * 2 ^ k ≡ n + down z + taken * 2 ^ k

-- so the k bits of z are the low k bits of n
pub from_signed_by : (k : ℕ) (z : ℤ) (n : ℕ) → IsCongruent k z n → from_signed k z ≡ wrap k n
from_signed_by k (pos a) n c = same_remainder (2 ^ k) a n c.added c.taken (omega (arith, c.balance))
from_signed_by k (negsuc a) n c =
    sym (mod-eq_of_lt (from_signed-lt k (negsuc a)))
    ∙ same_remainder (2 ^ k) (2 ^ k - suc (a % 2 ^ k)) n c.added (a / 2 ^ k + c.taken + 1)
    (omega (arith, c.balance, mod-lt a (pow_pos k), div-add-mod' a (2 ^ k)))

pub IsCongruent-from_signed : (k : ℕ) (z : ℤ) → IsCongruent k z (from_signed k z)
IsCongruent-from_signed k (pos n) = record { added = 0; taken = n / 2 ^ k; balance = omega (arith, div-add-mod' n (2 ^ k)) }
IsCongruent-from_signed k (negsuc n) = record {
  added = n / 2 ^ k + 1;
  taken = 0;
  balance = omega (arith, mod-lt n (pow_pos k), div-add-mod' n (2 ^ k));
}

-- the signed number that k bits stand for differs from them by none or one 2 ^ k
pub IsCongruent-to_signed : (k n : ℕ) → IsCongruent k (to_signed k n) n
IsCongruent-to_signed k n = elim (nat_lt (n % 2 ^ k) (2 ^ (k - 1))) as
    (λ b. IsCongruent k (if b then pos (n % 2 ^ k) else negsuc (2 ^ k - suc (n % 2 ^ k))) n) [
      | true ↦ record { added = n / 2 ^ k; taken = 0; balance = omega (arith, div-add-mod' n (2 ^ k)) }
      | false ↦ record { added = n / 2 ^ k + 1; taken = 0; balance = omega (arith, mod-lt n (pow_pos k), div-add-mod' n (2 ^ k)) }
    ]

-- ---- there and back

pub from_signed-to_signed : (k n : ℕ) → from_signed k (to_signed k n) ≡ wrap k n
from_signed-to_signed k n = from_signed_by k (to_signed k n) n (IsCongruent-to_signed k n)

-- half of 2 ^ k
two_halves : (k : ℕ) → 1 ≤ k → 2 ^ k ≡ 2 ^ (k - 1) + 2 ^ (k - 1)
two_halves zero h = absurd (omega (arith, h))
two_halves (suc k) h = rw (let e : suc k - 1 ≡ k = omega arith in e) (two-pow-succ k)

-- where the sign bit is clear, and where it is set
pub to_signed_low : (k n : ℕ) → n % 2 ^ k < 2 ^ (k - 1) → to_signed k n ≡ pos (n % 2 ^ k)
to_signed_low k n h = grind (arith, nat_tests)

pub to_signed_high : (k n : ℕ) → 2 ^ (k - 1) ≤ n % 2 ^ k → to_signed k n ≡ negsuc (2 ^ k - suc (n % 2 ^ k))
to_signed_high k n h = grind (arith, nat_tests)

pub FitsBits-to_signed : (k n : ℕ) → 1 ≤ k → FitsBits k (to_signed k n)
FitsBits-to_signed k n h = elim (cases_lt (n % 2 ^ k) (2 ^ (k - 1))) [
  | inl low ↦ rw (to_signed_low k n low) low
  | inr high ↦ rw (to_signed_high k n high) (omega (arith, high, two_halves k h, wrap-lt k n))
]

pub to_signed-from_signed : (k : ℕ) (z : ℤ) → 1 ≤ k → FitsBits k z → to_signed k (from_signed k z) ≡ z
to_signed-from_signed k (pos n) h fits =
    rw (wrap-wrap k n) (to_signed_low k n (rw (wrap_below k n below) fits) ∙ ap pos (wrap_below k n below))
  where
    below : n < 2 ^ k
    below = omega (arith, fits, two_halves k h)
to_signed-from_signed k (negsuc n) h fits =
    rw same (to_signed_high k (2 ^ k - suc n) high ∙ ap negsuc back)
  where
    half : 2 ^ k ≡ 2 ^ (k - 1) + 2 ^ (k - 1)
    half = two_halves k h

    same : n % 2 ^ k ≡ n
    same = wrap_below k n (omega (arith, fits, half))

    small : (2 ^ k - suc n) % 2 ^ k ≡ 2 ^ k - suc n
    small = wrap_below k (2 ^ k - suc n) (omega (arith, pow_pos k))

    high : 2 ^ (k - 1) ≤ (2 ^ k - suc n) % 2 ^ k
    high = omega (arith, fits, half, small)

    back : 2 ^ k - suc ((2 ^ k - suc n) % 2 ^ k) ≡ n
    back = omega (arith, fits, half, small)

-- a number of fewer bits fits
pub FitsBits_wider : (j k : ℕ) (z : ℤ) → j ≤ k → FitsBits j z → FitsBits k z
FitsBits_wider j k (pos n) h fits = omega (arith, fits, pow_mono (let e : j - 1 ≤ k - 1 = omega arith in e))
FitsBits_wider j k (negsuc n) h fits = omega (arith, fits, pow_mono (let e : j - 1 ≤ k - 1 = omega arith in e))

-- only the low k bits are read
pub to_signed-wrap : (k n : ℕ) → to_signed k (wrap k n) ≡ to_signed k n
to_signed-wrap k n = ap (λ r. if nat_lt r (2 ^ (k - 1)) then pos r else negsuc (2 ^ k - suc r)) (wrap-wrap k n)

-- ---- arithmetic

up_down-add : (x y : ℤ) → up (x +ℤ y) + down x + down y ≡ down (x +ℤ y) + up x + up y
up_down-add x y = omega (arith, ints)

pub IsCongruent-add : (k : ℕ) (x y : ℤ) (m n : ℕ) → IsCongruent k x m → IsCongruent k y n → IsCongruent k (x +ℤ y) (m + n)
IsCongruent-add k x y m n c d = record {
  added = c.added + d.added;
  taken = c.taken + d.taken;
  balance = omega (arith, c.balance, d.balance, up_down-add x y);
}

-- the k bits of a sum, a difference and a product
pub from_signed-add : (k : ℕ) (x y : ℤ) → from_signed k (x +ℤ y) ≡ wrapping_add k (from_signed k x) (from_signed k y)
from_signed-add k x y =
    from_signed_by k (x +ℤ y) (from_signed k x + from_signed k y)
    (IsCongruent-add k x y _ _ (IsCongruent-from_signed k x) (IsCongruent-from_signed k y))

pub from_signed-sub : (k : ℕ) (x y : ℤ) → from_signed k (x -ℤ y) ≡ wrapping_sub k (from_signed k x) (from_signed k y)
from_signed-sub k x y =
    sym (wrap_below k _ (from_signed-lt k (x -ℤ y)))
    ∙ sym (wrapping_sub_is k (from_signed k x) (from_signed k y) (from_signed k (x -ℤ y)) added_back)
  where
    undone : (x -ℤ y) +ℤ y ≡ x
    undone = omega (arith, ints)

    added_back : wrapping_add k (from_signed k (x -ℤ y)) (from_signed k y) ≡ wrap k (from_signed k x)
    added_back =
        sym (from_signed-add k (x -ℤ y) y) ∙ ap (from_signed k) undone ∙ sym (wrap_below k _ (from_signed-lt k x))

pub from_signed-neg : (k : ℕ) (x : ℤ) → from_signed k (neg_ℤ x) ≡ wrapping_sub k 0 (from_signed k x)
from_signed-neg k x = ap (from_signed k) zero_minus ∙ from_signed-sub k (pos 0) x
    ∙ ap (λ n. wrapping_sub k n (from_signed k x)) (wrap_below k 0 (pow_pos k))
  where
    zero_minus : neg_ℤ x ≡ pos 0 -ℤ x
    zero_minus = omega (arith, ints)

-- the two halves of a product with a negative factor
up-neg : (n : ℕ) → up (neg_ℤ (pos n)) ≡ 0
up-neg zero = refl
up-neg (suc n) = refl

down-neg : (n : ℕ) → down (neg_ℤ (pos n)) ≡ n
down-neg zero = refl
down-neg (suc n) = refl

pub IsCongruent-mul : (k : ℕ) (x y : ℤ) (m n : ℕ) → IsCongruent k x m → IsCongruent k y n → IsCongruent k (x *ℤ y) (m * n)
IsCongruent-mul k (pos a) (pos b) m n c d = record {
  added = a * d.added + c.added * b + c.added * d.added * 2 ^ k;
  taken = m * d.taken + c.taken * n + c.taken * d.taken * 2 ^ k;
  balance = omega (arith, ap₂ (λ s t. s * t) c.balance d.balance);
}
IsCongruent-mul k (pos a) (negsuc b) m n c d = record {
  added = d.added * m + suc b * c.taken;
  taken = d.taken * m + suc b * c.added;
  balance = rw (up-neg (a * suc b), down-neg (a * suc b)) (omega (arith, ap (λ t. t * m) d.balance, ap (λ t. suc b * t) c.balance));
}
IsCongruent-mul k (negsuc a) (pos b) m n c d = record {
  added = c.added * n + suc a * d.taken;
  taken = c.taken * n + suc a * d.added;
  balance = rw (up-neg (suc a * b), down-neg (suc a * b)) (omega (arith, ap (λ t. t * n) c.balance, ap (λ t. suc a * t) d.balance));
}
IsCongruent-mul k (negsuc a) (negsuc b) m n c d = record {
  added = suc a * d.taken + c.added * n;
  taken = suc a * d.added + c.taken * n;
  balance = omega (arith, ap (λ t. t * n) c.balance, ap (λ t. suc a * t) d.balance);
}

pub from_signed-mul : (k : ℕ) (x y : ℤ) → from_signed k (x *ℤ y) ≡ wrapping_mul k (from_signed k x) (from_signed k y)
from_signed-mul k x y =
    from_signed_by k (x *ℤ y) (from_signed k x * from_signed k y)
    (IsCongruent-mul k x y _ _ (IsCongruent-from_signed k x) (IsCongruent-from_signed k y))

-- two signed numbers of k bits with the same bits are one
pub same_signed : (k : ℕ) (x y : ℤ) → 1 ≤ k → FitsBits k x → FitsBits k y → from_signed k x ≡ from_signed k y → x ≡ y
same_signed k x y h fits_x fits_y same =
    sym (to_signed-from_signed k x h fits_x) ∙ ap (to_signed k) same ∙ to_signed-from_signed k y h fits_y

-- at 64 and 32 bits these are Rust's `cast_signed` and `cast_unsigned`
pub to_signed-cast_64 : (n : ℕ) → n < 2 ^ 64 → to_signed 64 n ≡ cast_signed w64 n
to_signed-cast_64 n h = rw (wrap_below 64 n h) refl

pub to_signed-cast_32 : (n : ℕ) → n < 2 ^ 32 → to_signed 32 n ≡ cast_signed w32 n
to_signed-cast_32 n h = rw (wrap_below 32 n h) refl
