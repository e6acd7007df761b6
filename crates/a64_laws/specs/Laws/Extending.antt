-- The low bits of a register extended by zeros or by the sign (UXTB, UXTH, SXTB, SXTH and SXTW of the Arm ARM), a negative constant, and
-- the instruction that does nothing (this project's own).
use Rattle.std.specs.Prelude.{◌≡◌, ℕ, ◌-◌, ◌*◌, ◌^◌, ◌<◌, ◌≤◌, Bool, true, false, refl}
use Rattle.std.proofs.Common.{arith, ap, ◌∙◌}
use Rattle.std.proofs.lemmas.Bool.{lt-ltb}
use Rattle.mt_base.specs.Extension.{zero_extend, sign_extend}
use Rattle.mt_base.specs.Laws.Extension.{zero_extend_below, zero_extend-zero_extend_wider, zero_extend-zero_extend_narrower}
use Rattle.mt_base.specs.Laws.Extension.{sign_extend-zero_extend, sign_extend-lt}
use Rattle.a64_alu.specs.Width.{width, of_width, invert}
use Rattle.a64_alu.specs.Bitfield.{bitfield_unsigned, bitfield_signed}
use Rattle.a64_alu.specs.Laws.Bitfield.{zero_extended_is, sign_extended_is}
use Rattle.a64_code.specs.declared.instr.Instr.TheVariants.{Ubfm, Sbfm, Movn, Nop}
use Rattle.a64_code.specs.declared.instr.Reg.{Reg}
use Rattle.a64_code.specs.State.{State}
use Rattle.a64_code.specs.Stepped.{Leads}
use Rattle.a64_code.specs.Effect.{effect}
use Rattle.a64_laws.specs.Forms.{next, puts_register}

-- ---- extensions, at either width

zeros : (wide : Bool) (bits x : ℕ) → 0 < bits → bits ≤ width wide →
    of_width wide (bitfield_unsigned (width wide) 0 (bits - 1) (of_width wide x)) ≡ zero_extend bits x
zeros true bits x some most = zero_extended_is 64 bits x some most
zeros false bits x some most =
    ap (of_width false) (zero_extended_is 32 bits (of_width false x) some most ∙ zero_extend-zero_extend_wider bits 32 x most)
    ∙ zero_extend-zero_extend_narrower bits 32 x most

signs : (wide : Bool) (bits x : ℕ) → 0 < bits → bits ≤ width wide →
    of_width wide (bitfield_signed (width wide) 0 (bits - 1) (of_width wide x)) ≡ sign_extend bits (width wide) x
signs true bits x some most = sign_extended_is 64 bits x some most
signs false bits x some most =
    ap (of_width false) (sign_extended_is 32 bits (of_width false x) some most ∙ sign_extend-zero_extend bits 32 32 x most)
    ∙ zero_extend_below 32 (sign_extend bits 32 x) (sign_extend-lt bits 32 x)

-- zeros above so many bits: UBFM from bit 0 on
pub zero_extended : (wide : Bool) (bits : ℕ) (rn rd : Reg) (s : State) → rn.0 < 31 → rd.0 < 31 → 0 < bits → bits ≤ width wide →
    effect (Ubfm wide 0 (bits - 1) rn rd) s ≡ Leads (puts_register rd (zero_extend bits (s.register rn.0)) s)
unfolding puts_register
zero_extended wide bits rn rd s first small some most =
    rw (lt-ltb rn.0 31 first, lt-ltb rd.0 31 small)
    (ap (λ (value : ℕ). Leads (puts_register rd value s)) (zeros wide bits (s.register rn.0) some most))

-- the sign above them, up to the width: SBFM from bit 0 on
pub sign_extended : (wide : Bool) (bits : ℕ) (rn rd : Reg) (s : State) → rn.0 < 31 → rd.0 < 31 → 0 < bits → bits ≤ width wide →
    effect (Sbfm wide 0 (bits - 1) rn rd) s ≡ Leads (puts_register rd (sign_extend bits (width wide) (s.register rn.0)) s)
unfolding puts_register
sign_extended wide bits rn rd s first small some most =
    rw (lt-ltb rn.0 31 first, lt-ltb rd.0 31 small)
    (ap (λ (value : ℕ). Leads (puts_register rd value s)) (signs wide bits (s.register rn.0) some most))

-- ---- a constant turned

pub inverted_moved : (wide : Bool) (hw imm16 : ℕ) (rd : Reg) (s : State) → rd.0 < 31 →
    effect (Movn wide hw imm16 rd) s ≡ Leads (puts_register rd (of_width wide (invert (width wide) (imm16 * 2 ^ (16 * hw)))) s)
unfolding puts_register
inverted_moved wide hw imm16 rd s small = rw (lt-ltb rd.0 31 small) refl

-- minus n, by MOVN
pub negative_moved : (wide : Bool) (n : ℕ) (rd : Reg) (s : State) → rd.0 < 31 → 1 ≤ n → n ≤ 2 ^ 16 →
    effect (Movn wide 0 (n - 1) rd) s ≡ Leads (puts_register rd (2 ^ width wide - n) s)
unfolding puts_register
negative_moved true n rd s small some most =
    rw (lt-ltb rd.0 31 small) (ap (λ (value : ℕ). Leads (puts_register rd value s)) (omega (arith, some, most)))
negative_moved false n rd s small some most =
    rw (lt-ltb rd.0 31 small) (ap (λ (value : ℕ). Leads (puts_register rd value s)) (omega (arith, some, most)))

-- ---- nothing

pub passed_over : (s : State) → effect Nop s ≡ Leads (next s)
unfolding next
passed_over s = refl
