-- Remainders by a division and MSUB, with and without a sign, at either width (this project's own).
use Rattle.std.specs.Prelude.{◌≡◌, ◌≢◌, ℕ, ◌+◌, ◌*◌, ◌^◌, ◌<◌, ℤ, ◌-ℤ◌, ◌*ℤ◌, Bool, true, false, int_div, int_rem, refl}
use Rattle.std.proofs.Common.{arith, ap, ap₂, sym, ◌∙◌, div-add-mod'}
use Rattle.std.proofs.lemmas.Int.{quot-rem, ints}
use Rattle.std.proofs.lemmas.Bool.{ne_eqb}
use Rattle.mt_base.specs.TwosComplement.{to_signed, from_signed}
use Rattle.mt_base.specs.Wrapping.{wrap, wrapping_sub, wrapping_mul}
use Rattle.mt_base.specs.Laws.Wrapping.{wrap_below, wrapping_sub-wrap_right, wrapping_mul-wrap_right}
use Rattle.mt_base.specs.Laws.TwosComplement.{from_signed-lt, from_signed-to_signed, from_signed-sub, from_signed-mul}
use Rattle.a64_alu.specs.Width.{width, of_width}
use Rattle.a64_alu.specs.Multiplying.{multiply_sub}
use Rattle.a64_code.specs.declared.instr.Reg.{Reg}
use Rattle.a64_code.specs.State.{State}
use Rattle.a64_code.specs.Stepped.{Leads}
use Rattle.a64_code.specs.Effect.{effect}
use Rattle.a64_laws.specs.Laws.Effects.Registers.{with_value-same, with_value-other}
use Rattle.a64_laws.specs.Forms.{DivideUnsigned, DivideSigned, puts_register}
use Rattle.a64_laws.specs.Runs.{Runs}
use Rattle.a64_laws.specs.Sequences.{Sign, Unsigned, Signed, divide_instr, remainder_instrs, quotient, remainder}
use Rattle.a64_laws.specs.Laws.Results.{operated}
use Rattle.a64_laws.specs.Laws.Comparing.{multiplied_and_taken}
use Rattle.a64_laws.specs.Laws.Runs.{Runs-one, Runs-cons}

-- ---- of numbers

pub quotient-lt : (sign : Sign) (k x y : ℕ) → x < 2 ^ k → quotient sign k x y < 2 ^ k
quotient-lt Unsigned k x y fits = omega (arith, fits, div-add-mod' x y)
quotient-lt Signed k x y fits = from_signed-lt k (int_div (to_signed k x) (to_signed k y))

pub remainder-lt : (sign : Sign) (k x y : ℕ) → x < 2 ^ k → remainder sign k x y < 2 ^ k
remainder-lt Unsigned k x y fits = omega (arith, fits, div-add-mod' x y)
remainder-lt Signed k x y fits = from_signed-lt k (int_rem (to_signed k x) (to_signed k y))

of_width_below : (wide : Bool) (x : ℕ) → x < 2 ^ width wide → of_width wide x ≡ x
of_width_below true x fits = refl
of_width_below false x fits = omega (arith, fits)

pub of_width-lt : (wide : Bool) (x : ℕ) → x < 2 ^ 64 → of_width wide x < 2 ^ width wide
of_width-lt true x fits = fits
of_width-lt false x fits = omega arith

-- MSUB of the quotient, the divisor and the number gives the remainder
pub remainder_left : (sign : Sign) (wide : Bool) (x y : ℕ) → x < 2 ^ width wide →
    multiply_sub (width wide) (quotient sign (width wide) x y) y x ≡ remainder sign (width wide) x y
remainder_left Unsigned true x y fits = omega (arith, fits, div-add-mod' x y)
remainder_left Unsigned false x y fits = omega (arith, fits, div-add-mod' x y)
remainder_left Signed wide x y fits = sym (by_width (width wide) fits)
  where
    by_width : (k : ℕ) → x < 2 ^ k → remainder Signed k x y ≡ multiply_sub k (quotient Signed k x y) y x
    by_width k below =
        ap (from_signed k) left ∙ from_signed-sub k (to_signed k x) (q *ℤ to_signed k y)
        ∙ ap₂ (wrapping_sub k) (from_signed-to_signed k x ∙ wrap_below k x below) product
        ∙ wrapping_sub-wrap_right k x (from_signed k q * y)
      where
        q : ℤ
        q = int_div (to_signed k x) (to_signed k y)

        left : int_rem (to_signed k x) (to_signed k y) ≡ to_signed k x -ℤ q *ℤ to_signed k y
        left = let both = quot-rem (to_signed k x) (to_signed k y) in omega (arith, ints, both)

        product : from_signed k (q *ℤ to_signed k y) ≡ wrap k (from_signed k q * y)
        product = from_signed-mul k q (to_signed k y) ∙ ap (wrapping_mul k (from_signed k q)) (from_signed-to_signed k y)
            ∙ wrapping_mul-wrap_right k (from_signed k q) y

-- ---- of registers

divided : (sign : Sign) (wide : Bool) (rm rn rq : Reg) (s : State) → rm.0 < 31 → rn.0 < 31 → rq.0 < 31 →
    s.register rn.0 < 2 ^ 64 → of_width wide (s.register rm.0) ≢ 0 →
    effect (divide_instr sign wide rm rn rq) s
    ≡ Leads (puts_register rq (quotient sign (width wide) (of_width wide (s.register rn.0)) (of_width wide (s.register rm.0))) s)
unfolding puts_register
divided Unsigned wide rm rn rq s second first small fits some =
    operated DivideUnsigned wide rm rn rq s second first small
    ∙ ap (λ (value : ℕ). Leads (puts_register rq value s)) (ap (of_width wide) (rw (ne_eqb (of_width wide (s.register rm.0)) 0 some) refl)
    ∙ of_width_below wide _ (quotient-lt Unsigned (width wide) _ _ (of_width-lt wide _ fits)))
divided Signed wide rm rn rq s second first small fits some =
    operated DivideSigned wide rm rn rq s second first small
    ∙ ap (λ (value : ℕ). Leads (puts_register rq value s)) (ap (of_width wide) (rw (ne_eqb (of_width wide (s.register rm.0)) 0 some) refl)
    ∙ of_width_below wide _ (quotient-lt Signed (width wide) _ _ (of_width-lt wide _ fits)))

-- the quotient goes into a register that holds neither number, and the remainder into any
pub remainder_put : (sign : Sign) (wide : Bool) (rm rn rq rd : Reg) (s : State) → rm.0 < 31 → rn.0 < 31 → rq.0 < 31 → rd.0 < 31 →
    rm.0 ≢ rq.0 → rn.0 ≢ rq.0 → s.register rn.0 < 2 ^ 64 → of_width wide (s.register rm.0) ≢ 0 → s.pc + 8 < 2 ^ 64 →
    let x = of_width wide (s.register rn.0) in
    let y = of_width wide (s.register rm.0) in
    Runs (remainder_instrs sign wide rm rn rq rd) 2 s
    (puts_register rd (remainder sign (width wide) x y) (puts_register rq (quotient sign (width wide) x y) s))
unfolding puts_register
remainder_put sign wide rm rn rq rd s second first between small other_second other_first fits some pc =
    Runs-cons (divided sign wide rm rn rq s second first between fits some) refl (omega (arith, pc))
    (Runs-one (multiplied_and_taken wide rm rn rq rd t second first between small
    ∙ ap (λ (value : ℕ). Leads (puts_register rd value t)) left) refl (omega (arith, pc)))
  where
    x : ℕ
    x = of_width wide (s.register rn.0)

    y : ℕ
    y = of_width wide (s.register rm.0)

    t : State
    t = puts_register rq (quotient sign (width wide) x y) s

    below : x < 2 ^ width wide
    below = of_width-lt wide (s.register rn.0) fits

    q : ℕ
    q = quotient sign (width wide) x y

    left : of_width wide (multiply_sub (width wide) (of_width wide (t.register rq.0)) (of_width wide (t.register rm.0))
        (of_width wide (t.register rn.0))) ≡ remainder sign (width wide) x y
    left = rw (
      with_value-same s.register rq.0 q,
      with_value-other s.register rq.0 q rm.0 other_second,
      with_value-other s.register rq.0 q rn.0 other_first,
      of_width_below wide q (quotient-lt sign (width wide) x y below),
      remainder_left sign wide x y below,
    )
        (of_width_below wide (remainder sign (width wide) x y) (remainder-lt sign (width wide) x y below))
