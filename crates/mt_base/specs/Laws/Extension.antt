-- Laws of extension by zero and by sign.
use Rattle.std.specs.Prelude.{◌≡◌, ℕ, suc, ◌+◌, ◌-◌, ◌*◌, ◌%◌, ◌^◌, ◌<◌, ◌≤◌}
use Rattle.std.proofs.Common.{le_trans, sym, ◌∙◌, ap, arith, pow_pos, pow_mono}
use Rattle.mt_base.specs.Wrapping.{wrap}
use Rattle.mt_base.specs.Laws.Wrapping.{power_split, same_remainder, wrap-lt, wrap_below, wrap-wrap_wider, wrap-wrap_narrower}
use Rattle.mt_base.specs.TwosComplement.{to_signed, from_signed}
use Rattle.mt_base.specs.Laws.TwosComplement.{from_signed-lt, from_signed-to_signed, to_signed-from_signed, FitsBits-to_signed}
use Rattle.mt_base.specs.Laws.TwosComplement.{FitsBits_wider, to_signed-wrap, to_signed_low, to_signed_high, IsCongruent}
use Rattle.mt_base.specs.Laws.TwosComplement.{IsCongruent-to_signed, IsCongruent-from_signed}
use Rattle.mt_base.specs.Extension.{zero_extend, sign_extend}

-- ---- by zero

pub zero_extend-lt : (k n : ℕ) → zero_extend k n < 2 ^ k
zero_extend-lt k n = wrap-lt k n

pub zero_extend_below : (k n : ℕ) → n < 2 ^ k → zero_extend k n ≡ n
zero_extend_below k n h = wrap_below k n h

-- of two extensions the narrower counts
pub zero_extend-zero_extend_wider : (j k n : ℕ) → j ≤ k → zero_extend j (zero_extend k n) ≡ zero_extend j n
zero_extend-zero_extend_wider j k n h = wrap-wrap_wider j k n h

pub zero_extend-zero_extend_narrower : (j k n : ℕ) → j ≤ k → zero_extend k (zero_extend j n) ≡ zero_extend j n
zero_extend-zero_extend_narrower j k n h = wrap-wrap_narrower j k n h

-- ---- by sign

pub sign_extend-lt : (k w n : ℕ) → sign_extend k w n < 2 ^ w
sign_extend-lt k w n = from_signed-lt w (to_signed k n)

-- the signed number stays the same
pub to_signed-sign_extend : (k w n : ℕ) → 1 ≤ k → k ≤ w → to_signed w (sign_extend k w n) ≡ to_signed k n
to_signed-sign_extend k w n h wider =
    to_signed-from_signed w (to_signed k n) (omega (arith, h, wider))
    (FitsBits_wider k w (to_signed k n) wider (FitsBits-to_signed k n h))

-- to extend in two steps is to extend in one
pub sign_extend-sign_extend : (j k w n : ℕ) → 1 ≤ j → j ≤ k → sign_extend k w (sign_extend j k n) ≡ sign_extend j w n
sign_extend-sign_extend j k w n h wider = ap (from_signed w) (to_signed-sign_extend j k n h wider)

-- at one width nothing is extended
pub sign_extend_same : (k n : ℕ) → sign_extend k k n ≡ wrap k n
sign_extend_same k n = from_signed-to_signed k n

-- only the low bits are read
pub sign_extend-zero_extend : (j k w n : ℕ) → j ≤ k → sign_extend j w (zero_extend k n) ≡ sign_extend j w n
sign_extend-zero_extend j k w n h =
    ap (from_signed w) (sym (to_signed-wrap j (wrap k n)) ∙ ap (to_signed j) (wrap-wrap_wider j k n h) ∙ to_signed-wrap j n)

-- where the sign bit is clear, zeros stand above
pub sign_extend_low : (k w n : ℕ) → k ≤ w → n % 2 ^ k < 2 ^ (k - 1) → sign_extend k w n ≡ zero_extend k n
sign_extend_low k w n wider low = rw (to_signed_low k n low) (wrap-wrap_narrower k w n wider)

-- where it is set, ones stand above: the number grows by 2 ^ w - 2 ^ k
pub sign_extend_high : (k w n : ℕ) → k ≤ w → 2 ^ (k - 1) ≤ n % 2 ^ k → sign_extend k w n + 2 ^ k ≡ zero_extend k n + 2 ^ w
sign_extend_high k w n wider high = rw (to_signed_high k n high, small) (omega (arith, wrap-lt k n, pow_mono wider))
  where
    small : (2 ^ k - suc (n % 2 ^ k)) % 2 ^ w ≡ 2 ^ k - suc (n % 2 ^ k)
    small = wrap_below w (2 ^ k - suc (n % 2 ^ k)) (omega (arith, pow_pos k, pow_mono wider))

-- the low bits stay as they are
pub zero_extend-sign_extend : (j k w n : ℕ) → j ≤ k → k ≤ w → zero_extend j (sign_extend k w n) ≡ zero_extend j n
zero_extend-sign_extend j k w n h wider =
    same_remainder (2 ^ j) (sign_extend k w n) n
    (out.taken * 2 ^ (w - j) + read.added * 2 ^ (k - j)) (out.added * 2 ^ (w - j) + read.taken * 2 ^ (k - j))
    (omega (
      arith,
      out.balance,
      read.balance,
      times w out.taken (le_trans h wider),
      times w out.added (le_trans h wider),
      times k read.added h,
      times k read.taken h,
    ))
  where
    out : IsCongruent w (to_signed k n) (sign_extend k w n)
    out = IsCongruent-from_signed w (to_signed k n)

    read : IsCongruent k (to_signed k n) n
    read = IsCongruent-to_signed k n

    times : (i q : ℕ) → j ≤ i → q * 2 ^ i ≡ q * 2 ^ (i - j) * 2 ^ j
    times i q below = power_split i j q below
