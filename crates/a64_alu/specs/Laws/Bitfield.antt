-- What the bitfield moves are under their other names (Arm ARM, the aliases of UBFM and SBFM).
use Rattle.std.specs.Prelude.{◌≡◌, ℕ, suc, ◌+◌, ◌-◌, ◌*◌, ◌/◌, ◌%◌, ◌^◌, ◌<◌, ◌≤◌}
use Rattle.std.proofs.Common.{sym, ◌∙◌, ap, ap₂, arith, mod-eq_of_lt}
use Rattle.std.proofs.Math.Nat.{add-mul, div-add-mod', div-one}
use Rattle.std.proofs.lemmas.Bool.Decides.{nat_tests}
use Rattle.mt_base.specs.Laws.Wrapping.{wrap_below, same_remainder, power_split}
use Rattle.mt_base.specs.Extension.{zero_extend, sign_extend}
use Rattle.mt_base.specs.Shifts.{shift_left, shift_right, arithmetic_shift_right}
use Rattle.mt_base.specs.Laws.Shifts.{shift_right-lt, arithmetic_shift_right_is}
use Rattle.a64_alu.specs.Bitfield.{move_unsigned, move_signed, bitfield_unsigned, bitfield_signed}

-- numbers below the width are taken as they are
pub bitfield_unsigned_below : (k immr imms x : ℕ) → immr < k → imms < k → bitfield_unsigned k immr imms x ≡ move_unsigned k immr imms x
bitfield_unsigned_below k immr imms x r s = ap₂ (λ i j. move_unsigned k i j x) (mod-eq_of_lt r) (mod-eq_of_lt s)

pub bitfield_signed_below : (k immr imms x : ℕ) → immr < k → imms < k → bitfield_signed k immr imms x ≡ move_signed k immr imms x
bitfield_signed_below k immr imms x r s = ap₂ (λ i j. move_signed k i j x) (mod-eq_of_lt r) (mod-eq_of_lt s)

-- what is taken from where it stands, and what is moved to the left
move_unsigned_taken : (k immr imms x : ℕ) → immr ≤ imms →
    move_unsigned k immr imms x ≡ zero_extend (suc (imms - immr)) (shift_right x immr)
move_unsigned_taken k immr imms x h = grind (arith, nat_tests)

move_unsigned_placed : (k immr imms x : ℕ) → imms < immr → move_unsigned k immr imms x ≡ shift_left k (zero_extend (suc imms) x) (k - immr)
move_unsigned_placed k immr imms x h = grind (arith, nat_tests)

move_signed_taken : (k immr imms x : ℕ) → immr ≤ imms → move_signed k immr imms x ≡ sign_extend (suc (imms - immr)) k (shift_right x immr)
move_signed_taken k immr imms x h = grind (arith, nat_tests)

-- of a number moved s places to the left in k bits, the low k - s bits count
low_part : (k x s : ℕ) → s ≤ k → shift_left k (zero_extend (k - s) x) s ≡ shift_left k x s
low_part k x s h = same_remainder (2 ^ k) (x % 2 ^ (k - s) * 2 ^ s) (x * 2 ^ s) (x / 2 ^ (k - s)) 0 split
  where
    split : x % 2 ^ (k - s) * 2 ^ s + x / 2 ^ (k - s) * 2 ^ k ≡ x * 2 ^ s + 0 * 2 ^ k
    split =
        omega (
          arith,
          power_split k s (x / 2 ^ (k - s)) h,
          add-mul (x % 2 ^ (k - s)) (x / 2 ^ (k - s) * 2 ^ (k - s)) (2 ^ s),
          ap (λ n. n * 2 ^ s) (let e : x % 2 ^ (k - s) + x / 2 ^ (k - s) * 2 ^ (k - s)
              ≡ x = omega (arith, div-add-mod' x (2 ^ (k - s))) in e),
        )

-- LSR, an immediate shift to the right
pub logical_right_is : (k s x : ℕ) → s < k → x < 2 ^ k → bitfield_unsigned k s (k - 1) x ≡ shift_right x s
logical_right_is k s x small fits =
    bitfield_unsigned_below k s (k - 1) x small (omega (arith, small))
    ∙ move_unsigned_taken k s (k - 1) x (omega (arith, small))
    ∙ ap (λ j. zero_extend j (shift_right x s)) (let e : suc (k - 1 - s) ≡ k - s = omega (arith, small) in e)
    ∙ wrap_below (k - s) (shift_right x s) (shift_right-lt k x s (omega (arith, small)) fits)

-- LSL, an immediate shift to the left
pub left_is : (k s x : ℕ) → 0 < s → s < k → bitfield_unsigned k (k - s) (k - 1 - s) x ≡ shift_left k x s
left_is k s x some small =
    bitfield_unsigned_below k (k - s) (k - 1 - s) x (omega (arith, some, small)) (omega (arith, some, small))
    ∙ move_unsigned_placed k (k - s) (k - 1 - s) x (omega (arith, some, small))
    ∙ ap₂ (λ j t. shift_left k (zero_extend j x) t) (let e : suc (k - 1 - s) ≡ k - s = omega (arith, small) in e)
    (let e : k - (k - s) ≡ s = omega (arith, small) in e)
    ∙ low_part k x s (omega (arith, small))

-- ASR, an immediate shift to the right with the sign
pub arithmetic_right_is : (k s x : ℕ) → s < k → x < 2 ^ k → bitfield_signed k s (k - 1) x ≡ arithmetic_shift_right k x s
arithmetic_right_is k s x small fits =
    bitfield_signed_below k s (k - 1) x small (omega (arith, small))
    ∙ move_signed_taken k s (k - 1) x (omega (arith, small))
    ∙ ap₂ (λ j n. sign_extend j k (shift_right n s)) (let e : suc (k - 1 - s) ≡ k - s = omega (arith, small) in e)
    (sym (wrap_below k x fits))
    ∙ sym (arithmetic_shift_right_is k x s small)

-- UXTB and UXTH
pub zero_extended_is : (k j x : ℕ) → 0 < j → j ≤ k → bitfield_unsigned k 0 (j - 1) x ≡ zero_extend j x
zero_extended_is k j x some fits =
    bitfield_unsigned_below k 0 (j - 1) x (omega (arith, some, fits)) (omega (arith, some, fits))
    ∙ move_unsigned_taken k 0 (j - 1) x (omega arith)
    ∙ ap₂ zero_extend (let e : suc (j - 1 - 0) ≡ j = omega (arith, some) in e) (div-one x)

-- SXTB, SXTH and SXTW
pub sign_extended_is : (k j x : ℕ) → 0 < j → j ≤ k → bitfield_signed k 0 (j - 1) x ≡ sign_extend j k x
sign_extended_is k j x some fits =
    bitfield_signed_below k 0 (j - 1) x (omega (arith, some, fits)) (omega (arith, some, fits))
    ∙ move_signed_taken k 0 (j - 1) x (omega arith)
    ∙ ap₂ (λ i n. sign_extend i k n) (let e : suc (j - 1 - 0) ≡ j = omega (arith, some) in e) (div-one x)
