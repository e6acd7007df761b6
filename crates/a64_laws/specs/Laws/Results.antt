-- Instructions that put a result into a register: sums, moves and the like (this project's own).
use Rattle.std.specs.Prelude.{◌≡◌, ℕ, ◌+◌, ◌-◌, ◌*◌, ◌%◌, ◌^◌, ◌<◌, ◌≤◌, Bool, true, refl}
use Rattle.std.proofs.Common.{arith, ap, sym}
use Rattle.std.specs.Int.Bits.{or_zero_l}
use Rattle.std.proofs.lemmas.Bool.{lt-ltb}
use Rattle.a64_code.specs.declared.instr.Reg.{Reg}
use Rattle.a64_code.specs.declared.instr.Instr.TheVariants.{Movz, AddImm, SubImm, OrrReg}
use Rattle.a64_alu.specs.Width.{width, of_width}
use Rattle.a64_code.specs.State.{State}
use Rattle.a64_code.specs.Stepped.{Leads}
use Rattle.a64_code.specs.Effect.{effect}
use Rattle.a64_laws.specs.Forms.{Operation, Add, Sub, And, Or, Xor, ShiftLeft, ShiftRight, ShiftRightSigned, DivideUnsigned, DivideSigned}
use Rattle.a64_laws.specs.Forms.{operation_instr, result_of, stack_pointer, zero_register, puts_register, puts_sp}

-- ---- SP

-- SP lowered by n, as at the entry of a function; with sh 1, n is 4096 times the field
pub sp_lowered : (sh imm12 n : ℕ) (s : State) → n ≡ imm12 * 2 ^ (12 * sh) → n ≤ s.sp → s.sp < 2 ^ 64 → n < 2 ^ 64 →
    effect (SubImm true sh imm12 stack_pointer stack_pointer) s ≡ Leads (puts_sp (s.sp - n) s)
unfolding puts_sp
sp_lowered sh imm12 n s is within fits small = ap (λ (value : ℕ). Leads (puts_sp value s)) (omega (arith, is, within, fits, small))

-- and raised again
pub sp_raised : (sh imm12 n : ℕ) (s : State) → n ≡ imm12 * 2 ^ (12 * sh) → s.sp + n < 2 ^ 64 →
    effect (AddImm true sh imm12 stack_pointer stack_pointer) s ≡ Leads (puts_sp (s.sp + n) s)
unfolding puts_sp
sp_raised sh imm12 n s is fits = ap (λ (value : ℕ). Leads (puts_sp value s)) (omega (arith, is, fits))

-- ---- a number added to a register, or taken away

-- the address of a slot: SP and an offset
pub sp_plus : (sh imm12 n : ℕ) (rd : Reg) (s : State) → rd.0 < 31 → n ≡ imm12 * 2 ^ (12 * sh) → s.sp + n < 2 ^ 64 →
    effect (AddImm true sh imm12 stack_pointer rd) s ≡ Leads (puts_register rd (s.sp + n) s)
unfolding puts_register
sp_plus sh imm12 n rd s small is fits =
    rw (lt-ltb rd.0 31 small) (ap (λ (value : ℕ). Leads (puts_register rd value s)) (omega (arith, is, fits)))

pub number_added : (sh imm12 n : ℕ) (rn rd : Reg) (s : State) → rn.0 < 31 → rd.0 < 31 → n ≡ imm12 * 2 ^ (12 * sh) →
    effect (AddImm true sh imm12 rn rd) s ≡ Leads (puts_register rd ((s.register rn.0 + n) % 2 ^ 64) s)
unfolding puts_register
number_added sh imm12 n rn rd s first small is =
    rw (lt-ltb rd.0 31 small, lt-ltb rn.0 31 first) (ap (λ (m : ℕ). Leads (puts_register rd ((s.register rn.0 + m) % 2 ^ 64) s)) (sym is))

pub number_taken : (sh imm12 n : ℕ) (rn rd : Reg) (s : State) → rn.0 < 31 → rd.0 < 31 → n ≡ imm12 * 2 ^ (12 * sh) → n ≤ s.register rn.0 →
    s.register rn.0 < 2 ^ 64 →
    effect (SubImm true sh imm12 rn rd) s ≡ Leads (puts_register rd (s.register rn.0 - n) s)
unfolding puts_register
number_taken sh imm12 n rn rd s first small is within fits =
    rw (lt-ltb rd.0 31 small, lt-ltb rn.0 31 first) (ap (λ (m : ℕ). Leads (puts_register rd m s)) (omega (arith, is, within, fits)))

-- ---- two registers and a result

pub operated : (o : Operation) (wide : Bool) (rm rn rd : Reg) (s : State) → rm.0 < 31 → rn.0 < 31 → rd.0 < 31 →
    effect (operation_instr o wide rm rn rd) s
    ≡ Leads (puts_register rd (of_width wide (result_of o (width wide) (of_width wide (s.register rn.0))
    (of_width wide (s.register rm.0)))) s)
unfolding puts_register
operated Add wide rm rn rd s second first small = rw (lt-ltb rm.0 31 second, lt-ltb rn.0 31 first, lt-ltb rd.0 31 small) refl
operated Sub wide rm rn rd s second first small = rw (lt-ltb rm.0 31 second, lt-ltb rn.0 31 first, lt-ltb rd.0 31 small) refl
operated And wide rm rn rd s second first small = rw (lt-ltb rm.0 31 second, lt-ltb rn.0 31 first, lt-ltb rd.0 31 small) refl
operated Or wide rm rn rd s second first small = rw (lt-ltb rm.0 31 second, lt-ltb rn.0 31 first, lt-ltb rd.0 31 small) refl
operated Xor wide rm rn rd s second first small = rw (lt-ltb rm.0 31 second, lt-ltb rn.0 31 first, lt-ltb rd.0 31 small) refl
operated ShiftLeft wide rm rn rd s second first small = rw (lt-ltb rm.0 31 second, lt-ltb rn.0 31 first, lt-ltb rd.0 31 small) refl
operated ShiftRight wide rm rn rd s second first small = rw (lt-ltb rm.0 31 second, lt-ltb rn.0 31 first, lt-ltb rd.0 31 small) refl
operated ShiftRightSigned wide rm rn rd s second first small = rw (lt-ltb rm.0 31 second, lt-ltb rn.0 31 first, lt-ltb rd.0 31 small) refl
operated DivideUnsigned wide rm rn rd s second first small = rw (lt-ltb rm.0 31 second, lt-ltb rn.0 31 first, lt-ltb rd.0 31 small) refl
operated DivideSigned wide rm rn rd s second first small = rw (lt-ltb rm.0 31 second, lt-ltb rn.0 31 first, lt-ltb rd.0 31 small) refl

-- ---- moves

pub moved : (rm rd : Reg) (s : State) → rm.0 < 31 → rd.0 < 31 →
    effect (OrrReg true rm zero_register rd) s ≡ Leads (puts_register rd (s.register rm.0) s)
unfolding puts_register
moved rm rd s first small = rw (lt-ltb rm.0 31 first, lt-ltb rd.0 31 small, or_zero_l (s.register rm.0)) refl

-- a constant below 2 ^ 16
pub constant_moved : (imm16 : ℕ) (rd : Reg) (s : State) → rd.0 < 31 → effect (Movz true 0 imm16 rd) s ≡ Leads (puts_register rd imm16 s)
unfolding puts_register
constant_moved imm16 rd s small =
    rw (lt-ltb rd.0 31 small) (ap (λ (value : ℕ). Leads (puts_register rd value s))
    (let e : imm16 * 2 ^ (16 * 0) ≡ imm16 = omega arith in e))
