-- Laws of shifts, by fewer bits than the number has.
use Rattle.std.specs.Prelude.{◌≡◌, ℕ, suc, ◌+◌, ◌-◌, ◌*◌, ◌/◌, ◌%◌, ◌^◌, ◌<◌, ◌≤◌, ℤ, pos, negsuc}
use Rattle.std.proofs.Common.{inl, inr, sym, ◌∙◌, ap, ap₂, arith, pow_pos, pow_mono, mul_assoc, pow-add}
use Rattle.std.proofs.Math.Nat.{lt_of_le_of_lt, div-le_self, add-mul}
use Rattle.std.proofs.lemmas.Nat.{div-mul-add, le-div, shl-shr, shr-shr, shr_le, shr_split, shr_below, shl_below, field_of, mul-mod_first}
use Rattle.mt_base.specs.Wrapping.{wrap}
use Rattle.mt_base.specs.Laws.Wrapping.{wrap-lt, wrap_below}
use Rattle.mt_base.specs.TwosComplement.{to_signed, from_signed}
use Rattle.mt_base.specs.Laws.TwosComplement.{from_signed-lt, FitsBits, FitsBits-to_signed, to_signed-from_signed, to_signed_low}
use Rattle.mt_base.specs.Laws.TwosComplement.{to_signed_high}
use Rattle.std.proofs.lemmas.Bool.{cases_lt}
use lib.Signed.{shr_z}
use Rattle.mt_base.specs.Extension.{sign_extend}
use Rattle.mt_base.specs.Laws.Extension.{sign_extend_low, sign_extend_high}
use Rattle.mt_base.specs.Shifts.{shift_left, shift_right, arithmetic_shift_right}

pub shift_left-lt : (k n s : ℕ) → shift_left k n s < 2 ^ k
shift_left-lt k n s = wrap-lt k (n * 2 ^ s)

-- a number whose top s bits are clear is multiplied
pub shift_left_whole : (k n s : ℕ) → s ≤ k → n < 2 ^ (k - s) → shift_left k n s ≡ n * 2 ^ s
shift_left_whole k n s h small = wrap_below k (n * 2 ^ s) (rw (let e : k ≡ k - s + s = omega arith in e) (shl_below n (k - s) s small))

pub shift_left-shift_left : (k n s t : ℕ) → shift_left k (shift_left k n s) t ≡ shift_left k n (s + t)
shift_left-shift_left k n s t = mul-mod_first (n * 2 ^ s) (2 ^ t) (2 ^ k)
    ∙ ap (wrap k) (mul_assoc n (2 ^ s) (2 ^ t) ∙ ap (λ p. n * p) (sym (pow-add 2 s t)))

pub shift_left-wrap : (k n s : ℕ) → shift_left k (wrap k n) s ≡ shift_left k n s
shift_left-wrap k n s = mul-mod_first n (2 ^ s) (2 ^ k)

pub shift_right-shift_right : (n s t : ℕ) → shift_right (shift_right n s) t ≡ shift_right n (s + t)
shift_right-shift_right n s t = shr-shr n s t

pub shift_right_le : (n s : ℕ) → shift_right n s ≤ n
shift_right_le n s = shr_le n s

pub shift_right-lt : (k n s : ℕ) → s ≤ k → n < 2 ^ k → shift_right n s < 2 ^ (k - s)
shift_right-lt k n s h fits = shr_below n (k - s) s (rw (let e : k - s + s ≡ k = omega arith in e) fits)

-- there and back: the top s bits are lost, or the low s bits
pub shift_right-shift_left : (k n s : ℕ) → s ≤ k → shift_right (shift_left k n s) s ≡ n % 2 ^ (k - s)
shift_right-shift_left k n s h =
    ap (λ i. n * 2 ^ s % 2 ^ i / 2 ^ s) (let e : k ≡ k - s + s = omega arith in e)
    ∙ field_of (n * 2 ^ s) (k - s) s
    ∙ ap (λ m. m % 2 ^ (k - s)) (shl-shr n s)

pub shift_left-shift_right : (k n s : ℕ) → n < 2 ^ k → shift_left k (shift_right n s) s + n % 2 ^ s ≡ n
shift_left-shift_right k n s fits =
    rw (wrap_below k (n / 2 ^ s * 2 ^ s) (omega (arith, fits, shr_split n s))) (shr_split n s)

pub arithmetic_shift_right-lt : (k n s : ℕ) → arithmetic_shift_right k n s < 2 ^ k
arithmetic_shift_right-lt k n s = from_signed-lt k (shr_z (to_signed k n) (2 ^ s))

-- the signed number is divided by 2 ^ s and rounded down
FitsBits-shr_z : (k d : ℕ) (z : ℤ) → FitsBits k z → FitsBits k (shr_z z d)
FitsBits-shr_z k d (pos n) fits = lt_of_le_of_lt (div-le_self n d) fits
FitsBits-shr_z k d (negsuc n) fits = lt_of_le_of_lt (div-le_self n d) fits

pub to_signed-arithmetic_shift_right : (k n s : ℕ) → 1 ≤ k → to_signed k (arithmetic_shift_right k n s) ≡ shr_z (to_signed k n) (2 ^ s)
to_signed-arithmetic_shift_right k n s h =
    to_signed-from_signed k (shr_z (to_signed k n) (2 ^ s)) h
    (FitsBits-shr_z k (2 ^ s) (to_signed k n) (FitsBits-to_signed k n h))

-- (j - m - 1) whole parts and a rest lie below j parts
below_parts : (m j d r : ℕ) → m < j → r < d → (j * d - suc (m * d + r)) / d ≡ j - suc m
below_parts m j d r h small =
    ap (λ n. n / d) (let e : j * d - suc (m * d + r) ≡ (j - suc m) * d + (d - suc r) = omega (arith, h, small, parts) in e)
    ∙ div-mul-add (j - suc m) d (d - suc r) (omega (arith, small))
  where
    parts : j * d ≡ (j - suc m) * d + suc m * d
    parts = ap (λ i. i * d) (let e : j ≡ (j - suc m) + suc m = omega (arith, h) in e) ∙ add-mul (j - suc m) (suc m) d

-- to shift is to extend by sign what is left of the number
pub arithmetic_shift_right_is : (k n s : ℕ) → s < k → arithmetic_shift_right k n s ≡ sign_extend (k - s) k (shift_right (wrap k n) s)
arithmetic_shift_right_is k n s h = elim (cases_lt (n % 2 ^ k) (2 ^ (k - 1))) [
  | inl low ↦
      ap (λ z. from_signed k (shr_z z (2 ^ s))) (to_signed_low k n low)
      ∙ wrap_below k (n % 2 ^ k / 2 ^ s) (lt_of_le_of_lt (shr_le (n % 2 ^ k) s) (wrap-lt k n))
      ∙ sym (sign_extend_low (k - s) k (n % 2 ^ k / 2 ^ s) (omega arith) (rw whole (shr_below (n % 2 ^ k) (k - s - 1) s (rw halves low)))
      ∙ whole)
  | inr high ↦
      ap (λ z. from_signed k (shr_z z (2 ^ s))) (to_signed_high k n high)
      ∙ ap (λ q. 2 ^ k - suc (q % 2 ^ k)) quotient
      ∙ ap (λ q. 2 ^ k - suc q) (wrap_below k (2 ^ (k - s) - suc (n % 2 ^ k / 2 ^ s)) (omega (arith, narrower, pow_pos (k - s))))
      ∙ omega (arith, below, narrower, whole, extended high)
]
  where
    whole : n % 2 ^ k / 2 ^ s % 2 ^ (k - s) ≡ n % 2 ^ k / 2 ^ s
    whole = wrap_below (k - s) (n % 2 ^ k / 2 ^ s) (shift_right-lt k (n % 2 ^ k) s (omega arith) (wrap-lt k n))

    halves : k - s - 1 + s ≡ k - 1
    halves = omega arith

    narrower : 2 ^ (k - s) ≤ 2 ^ k
    narrower = pow_mono (let e : k - s ≤ k = omega arith in e)

    below : n % 2 ^ k / 2 ^ s < 2 ^ (k - s)
    below = shift_right-lt k (n % 2 ^ k) s (omega arith) (wrap-lt k n)

    power : 2 ^ k ≡ 2 ^ (k - s) * 2 ^ s
    power = ap (λ i. 2 ^ i) (let e : k ≡ k - s + s = omega arith in e) ∙ pow-add 2 (k - s) s

    quotient : (2 ^ k - suc (n % 2 ^ k)) / 2 ^ s ≡ 2 ^ (k - s) - suc (n % 2 ^ k / 2 ^ s)
    quotient =
        ap₂ (λ p r. (p - suc r) / 2 ^ s) power (sym (shr_split (n % 2 ^ k) s))
        ∙ below_parts (n % 2 ^ k / 2 ^ s) (2 ^ (k - s)) (2 ^ s) (n % 2 ^ k % 2 ^ s) below (wrap-lt s (n % 2 ^ k))

    half : 2 ^ (k - 1) ≡ 2 ^ (k - s - 1) * 2 ^ s
    half = ap (λ i. 2 ^ i) (sym halves) ∙ pow-add 2 (k - s - 1) s

    extended : 2 ^ (k - 1) ≤ n % 2 ^ k → sign_extend (k - s) k (n % 2 ^ k / 2 ^ s) + 2 ^ (k - s) ≡ n % 2 ^ k / 2 ^ s % 2 ^ (k - s) + 2 ^ k
    extended high = sign_extend_high (k - s) k (n % 2 ^ k / 2 ^ s) (omega arith)
        (rw whole (le-div (2 ^ (k - s - 1)) (n % 2 ^ k) (2 ^ s) (pow_pos s) (rw (← half) high)))
