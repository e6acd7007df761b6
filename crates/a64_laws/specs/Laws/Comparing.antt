-- Comparisons, with their condition in a register or in a branch; and products (this project's own).
use Rattle.std.specs.Prelude.{◌≡◌, ℕ, ◌+◌, ◌*◌, ◌%◌, ◌^◌, ◌<◌, Bool, true, false, if◌then◌else◌, refl}
use Rattle.std.proofs.Common.{arith, ap}
use Rattle.std.proofs.lemmas.Bool.{lt-ltb}
use Rattle.a64_alu.specs.Width.{width, of_width}
use Rattle.a64_alu.specs.Adding.{subtract_with_flags}
use Rattle.a64_alu.specs.Laws.Adding.{subtract_compares}
use Rattle.a64_alu.specs.Condition.{condition_holds}
use Rattle.a64_alu.specs.Multiplying.{multiply_add, multiply_sub}
use Rattle.a64_code.specs.declared.instr.Instr.TheVariants.{SubsReg, SubsImm, Csinc, Madd, Msub}
use Rattle.a64_code.specs.declared.instr.Reg.{Reg}
use Rattle.a64_code.specs.State.{State}
use Rattle.a64_code.specs.Stepped.{Leads}
use Rattle.a64_code.specs.Effect.{effect}
use Rattle.a64_laws.specs.Forms.{zero_register, puts_register, puts_flags}
use Rattle.a64_laws.specs.Relations.{Relation, Equal, Unequal, HigherOrSame, Lower, Higher, LowerOrSame, AtLeast, Less, Greater, AtMost}
use Rattle.a64_laws.specs.Relations.{code_of, holds, with_bool}

-- ---- the flags

pub compared : (wide : Bool) (rm rn : Reg) (s : State) → rm.0 < 31 → rn.0 < 31 →
    effect (SubsReg wide rm rn zero_register) s ≡ Leads (puts_flags (subtract_with_flags (width wide) (of_width wide
    (s.register rn.0)) (of_width wide (s.register rm.0))).1 s)
unfolding puts_flags
compared wide rm rn s second first = rw (lt-ltb rm.0 31 second, lt-ltb rn.0 31 first) refl

-- a register and a number below 2 ^ 12
pub compared_number : (wide : Bool) (imm12 : ℕ) (rn : Reg) (s : State) → rn.0 < 31 →
    effect (SubsImm wide 0 imm12 rn zero_register) s ≡ Leads (puts_flags (subtract_with_flags (width wide) (of_width wide
    (s.register rn.0)) imm12).1 s)
unfolding puts_flags
compared_number wide imm12 rn s first =
    rw (lt-ltb rn.0 31 first) (ap (λ (n : ℕ). Leads (puts_flags (subtract_with_flags (width wide) (of_width wide
    (s.register rn.0)) n).1 s)) (let e : imm12 * 2 ^ (12 * 0) ≡ imm12 = omega arith in e))

-- then a condition tells how the numbers compare
pub condition_tells : (r : Relation) (wide : Bool) (x y : ℕ) → x < 2 ^ width wide → y < 2 ^ width wide →
    condition_holds (code_of r) (subtract_with_flags (width wide) x y).1 ≡ holds r (width wide) x y
condition_tells Equal wide x y first second = (subtract_compares wide x y first second).equal
condition_tells Unequal wide x y first second = (subtract_compares wide x y first second).unequal
condition_tells HigherOrSame wide x y first second = (subtract_compares wide x y first second).higher_or_same
condition_tells Lower wide x y first second = (subtract_compares wide x y first second).lower
condition_tells Higher wide x y first second = (subtract_compares wide x y first second).higher
condition_tells LowerOrSame wide x y first second = (subtract_compares wide x y first second).lower_or_same
condition_tells AtLeast wide x y first second = (subtract_compares wide x y first second).at_least
condition_tells Less wide x y first second = (subtract_compares wide x y first second).less
condition_tells Greater wide x y first second = (subtract_compares wide x y first second).greater
condition_tells AtMost wide x y first second = (subtract_compares wide x y first second).at_most

-- ---- into a register: 0 where the condition holds, else 1, so the code of the contrary is taken

pub condition_put : (cond : ℕ) (rd : Reg) (s : State) → rd.0 < 31 →
    effect (Csinc true zero_register cond zero_register rd) s ≡ Leads (puts_register rd (with_bool (condition_holds cond s.flags)) s)
unfolding puts_register
condition_put cond rd s small =
    rw (lt-ltb rd.0 31 small) (ap (λ (value : ℕ). Leads (puts_register rd value s)) (by_bool (condition_holds cond s.flags)))
  where
    by_bool : (b : Bool) → (if b then 0 else (0 + 1) % 2 ^ 64) ≡ with_bool b
    by_bool true = refl
    by_bool false = refl

-- ---- products, also added to a number or taken from it

pub multiplied_and_added : (wide : Bool) (rm ra rn rd : Reg) (s : State) → rm.0 < 31 → ra.0 < 31 → rn.0 < 31 → rd.0 < 31 →
    effect (Madd wide rm ra rn rd) s
    ≡ Leads (puts_register rd (of_width wide (multiply_add (width wide) (of_width wide (s.register rn.0)) (of_width wide
    (s.register rm.0)) (of_width wide (s.register ra.0)))) s)
unfolding puts_register
multiplied_and_added wide rm ra rn rd s second third first small =
    rw (lt-ltb rm.0 31 second, lt-ltb ra.0 31 third, lt-ltb rn.0 31 first, lt-ltb rd.0 31 small) refl

pub multiplied : (wide : Bool) (rm rn rd : Reg) (s : State) → rm.0 < 31 → rn.0 < 31 → rd.0 < 31 →
    effect (Madd wide rm zero_register rn rd) s
    ≡ Leads (puts_register rd (of_width wide (multiply_add (width wide) (of_width wide (s.register rn.0)) (of_width wide
    (s.register rm.0)) (of_width wide 0))) s)
unfolding puts_register
multiplied wide rm rn rd s second first small = rw (lt-ltb rm.0 31 second, lt-ltb rn.0 31 first, lt-ltb rd.0 31 small) refl

pub multiplied_and_taken : (wide : Bool) (rm ra rn rd : Reg) (s : State) → rm.0 < 31 → ra.0 < 31 → rn.0 < 31 → rd.0 < 31 →
    effect (Msub wide rm ra rn rd) s
    ≡ Leads (puts_register rd (of_width wide (multiply_sub (width wide) (of_width wide (s.register rn.0)) (of_width wide
    (s.register rm.0)) (of_width wide (s.register ra.0)))) s)
unfolding puts_register
multiplied_and_taken wide rm ra rn rd s second third first small =
    rw (lt-ltb rm.0 31 second, lt-ltb ra.0 31 third, lt-ltb rn.0 31 first, lt-ltb rd.0 31 small) refl
