-- What the code computes on 64 bits and then cuts to the width.
use Rattle.std.proofs.Common.{◌≡◌, ℕ, ◌+◌, ◌-◌, ◌*◌, ◌%◌, ◌^◌, ◌<◌, ◌≤◌, ℤ, Bool, true, false, refl, sym, ◌∙◌, ap, arith, lit≤}
use Rattle.std.proofs.lemmas.Bool.Decides.{nat_tests}
use Rattle.mt_base.specs.Wrapping.{wrap, wrapping_add, wrapping_sub}
use Rattle.mt_base.specs.Laws.Wrapping.{power_split, wrap-wrap_wider, wrap-wrap, wrapping_add-wrap_left, wrapping_add-wrap_right}
use Rattle.mt_base.specs.Laws.Wrapping.{wrapping_sub_is, wrapping_sub-wrap_left, wrapping_sub-wrap_right, wrapping_add-wrapping_sub}
use Rattle.mt_base.specs.Laws.Wrapping.{wrapping_mul-wrap_left, wrapping_mul-wrap_right}
use Rattle.mt_base.specs.TwosComplement.{to_signed, from_signed}
use Rattle.mt_base.specs.Laws.TwosComplement.{from_signed_by, IsCongruent, IsCongruent-from_signed}
use Rattle.mt_base.specs.Extension.{sign_extend}
use Rattle.mt_base.specs.Shifts.{shift_left}
use Rattle.mt_base.specs.Laws.Shifts.{shift_left-wrap}
use Rattle.a64_alu.specs.Width.{width, of_width}
use Rattle.a64_alu.specs.Bitfield.{move_signed}
use Rattle.a64_alu.specs.Multiplying.{multiply_add, multiply_sub}

-- the product of the low bits
low_product : (k x y : ℕ) → k ≤ 64 → wrap k (wrap 64 (x * y)) ≡ wrap k (wrap k x * wrap k y)
low_product k x y narrower =
    wrap-wrap_wider k 64 (x * y) narrower ∙ sym (wrapping_mul-wrap_left k x y) ∙ sym (wrapping_mul-wrap_right k (wrap k x) y)

low_multiply_add : (k x y a : ℕ) → k ≤ 64 → wrap k (wrap 64 (a + wrap 64 (x * y))) ≡ multiply_add k (wrap k x) (wrap k y) (wrap k a)
low_multiply_add k x y a narrower =
    wrap-wrap_wider k 64 (a + wrap 64 (x * y)) narrower
    ∙ sym (wrapping_add-wrap_left k a (wrap 64 (x * y)))
    ∙ sym (wrapping_add-wrap_right k (wrap k a) (wrap 64 (x * y)))
    ∙ ap (wrapping_add k (wrap k a)) (low_product k x y narrower)
    ∙ wrapping_add-wrap_right k (wrap k a) (wrap k x * wrap k y)

low_difference : (k a b : ℕ) → k ≤ 64 → wrap k (wrapping_sub 64 a b) ≡ wrapping_sub k a b
low_difference k a b narrower =
    sym (wrapping_sub_is k a b (wrapping_sub 64 a b)
    (sym (wrap-wrap_wider k 64 (wrapping_sub 64 a b + b) narrower)
    ∙ ap (wrap k) (wrapping_add-wrapping_sub 64 a b)
    ∙ wrap-wrap_wider k 64 a narrower))

low_multiply_sub : (k x y a : ℕ) → k ≤ 64 → wrap k (wrapping_sub 64 a (wrap 64 (x * y))) ≡ multiply_sub k (wrap k x) (wrap k y) (wrap k a)
low_multiply_sub k x y a narrower =
    low_difference k a (wrap 64 (x * y)) narrower
    ∙ sym (wrapping_sub-wrap_left k a (wrap 64 (x * y)))
    ∙ sym (wrapping_sub-wrap_right k (wrap k a) (wrap 64 (x * y)))
    ∙ ap (wrapping_sub k (wrap k a)) (low_product k x y narrower)
    ∙ wrapping_sub-wrap_right k (wrap k a) (wrap k x * wrap k y)

low_shift_left : (k n s : ℕ) → k ≤ 64 → wrap k (shift_left 64 n s) ≡ shift_left k (wrap k n) s
low_shift_left k n s narrower = wrap-wrap_wider k 64 (n * 2 ^ s) narrower ∙ sym (shift_left-wrap k n s)

low_from_signed : (k : ℕ) (z : ℤ) → k ≤ 64 → wrap k (from_signed 64 z) ≡ from_signed k z
low_from_signed k z narrower = sym (from_signed_by k z (from_signed 64 z) record {
  added = c.added * 2 ^ (64 - k);
  taken = c.taken * 2 ^ (64 - k);
  balance = omega (arith, c.balance, power_split 64 k c.added narrower, power_split 64 k c.taken narrower);
})
  where
    c : IsCongruent 64 z (from_signed 64 z)
    c = IsCongruent-from_signed 64 z

pub multiply_add_is : (wide : Bool) (x y a : ℕ) →
    of_width wide (wrap 64 (a + wrap 64 (x * y))) ≡ multiply_add (width wide) (of_width wide x) (of_width wide y) (of_width wide a)
multiply_add_is true x y a = wrapping_add-wrap_right 64 a (x * y)
multiply_add_is false x y a = low_multiply_add 32 x y a (lit≤ tt)

pub multiply_sub_is : (wide : Bool) (x y a : ℕ) → of_width wide ((a + (2 ^ 64 - wrap 64 (x * y))) % 2 ^ 64)
    ≡ multiply_sub (width wide) (of_width wide x) (of_width wide y) (of_width wide a)
multiply_sub_is true x y a = refl
multiply_sub_is false x y a = ap (λ m. wrap 32 ((a + (2 ^ 64 - m)) % 2 ^ 64)) (sym (wrap-wrap 64 (x * y)))
    ∙ low_multiply_sub 32 x y a (lit≤ tt)

pub shift_left_is : (wide : Bool) (x s : ℕ) → of_width wide (shift_left 64 x s) ≡ shift_left (width wide) (of_width wide x) s
shift_left_is true x s = refl
shift_left_is false x s = low_shift_left 32 x s (lit≤ tt)

-- what SBFM moves to the left
pub placed_is : (wide : Bool) (immr imms x : ℕ) → imms < immr →
    of_width wide (shift_left 64 (sign_extend (imms + 1) 64 x) (width wide - immr)) ≡ move_signed (width wide) immr imms x
placed_is true immr imms x lower = grind (arith, nat_tests)
placed_is false immr imms x lower =
    low_shift_left 32 (sign_extend (imms + 1) 64 x) (32 - immr) (lit≤ tt)
    ∙ ap (λ n. shift_left 32 n (32 - immr)) (low_from_signed 32 (to_signed (imms + 1) x) (lit≤ tt))
    ∙ grind (arith, nat_tests)
