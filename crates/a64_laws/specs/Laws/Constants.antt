-- Any constant of 64 bits, by one to four moves (this project's own).
use Rattle.std.specs.Prelude.{◌≡◌, ℕ, zero, suc, ◌+◌, ◌*◌, ◌/◌, ◌%◌, ◌^◌, ◌<◌, ◌≤◌, true, List, [], ◌∷◌, ◌++◌, length, refl}
use Rattle.std.proofs.Common.{arith, ap, sym, ◌∙◌, subst, length-append}
use Rattle.std.proofs.lemmas.List.{append-nil}
use Rattle.std.proofs.lemmas.Bool.{lt-ltb}
use Rattle.a64_code.specs.declared.instr.Instr.{Instr}
use Rattle.a64_code.specs.declared.instr.Instr.TheVariants.{Movz, Movk}
use Rattle.a64_code.specs.declared.instr.Reg.{Reg}
use Rattle.a64_code.specs.State.{State}
use Rattle.a64_code.specs.Stepped.{Leads}
use Rattle.a64_laws.specs.Laws.Effects.Registers.{with_value-same, with_value-other}
use Rattle.a64_code.specs.Effect.{effect}
use Rattle.a64_laws.specs.Forms.{puts_register}
use Rattle.a64_laws.specs.Runs.{Runs}
use Rattle.a64_laws.specs.Constants.{kept_halfword, constant_moves, SameButRegisters, PutsConstant}
use Rattle.a64_laws.specs.Laws.Results.{constant_moved}
use Rattle.a64_laws.specs.Laws.Runs.{Runs-one, Runs-append}

-- one halfword of a register whose bits from there on are clear
pub halfword_1 : (bits : ℕ) (rd : Reg) (s : State) → rd.0 < 31 → bits < 2 ^ 16 → s.register rd.0 < 2 ^ 16 →
    effect (Movk true 1 bits rd) s ≡ Leads (puts_register rd (s.register rd.0 + bits * 2 ^ 16) s)
unfolding puts_register
halfword_1 bits rd s small fits clear =
    rw (lt-ltb rd.0 31 small) (ap (λ (value : ℕ). Leads (puts_register rd value s)) (omega (arith, fits, clear)))

pub halfword_2 : (bits : ℕ) (rd : Reg) (s : State) → rd.0 < 31 → bits < 2 ^ 16 → s.register rd.0 < 2 ^ 32 →
    effect (Movk true 2 bits rd) s ≡ Leads (puts_register rd (s.register rd.0 + bits * 2 ^ 32) s)
unfolding puts_register
halfword_2 bits rd s small fits clear =
    rw (lt-ltb rd.0 31 small) (ap (λ (value : ℕ). Leads (puts_register rd value s)) (omega (arith, fits, clear)))

pub halfword_3 : (bits : ℕ) (rd : Reg) (s : State) → rd.0 < 31 → bits < 2 ^ 16 → s.register rd.0 < 2 ^ 48 →
    effect (Movk true 3 bits rd) s ≡ Leads (puts_register rd (s.register rd.0 + bits * 2 ^ 48) s)
unfolding puts_register
halfword_3 bits rd s small fits clear =
    rw (lt-ltb rd.0 31 small) (ap (λ (value : ℕ). Leads (puts_register rd value s)) (omega (arith, fits, clear)))

-- ---- lists

-- a number is put into a register, and then perhaps another
pub SameButRegisters-put : (rd : Reg) (value : ℕ) (s : State) → SameButRegisters s (puts_register rd value s)
unfolding puts_register
SameButRegisters-put rd value s = record {
  sp = refl;
  flags = refl;
  byte = refl;
  tag = refl;
  regions = refl;
  guard = refl;
  choices = refl;
  drawn = refl;
  outside = refl;
}

pub SameButRegisters-then : {r s t : State} → SameButRegisters r s → SameButRegisters s t → SameButRegisters r t
SameButRegisters-then first rest = record {
  sp = rest.sp ∙ first.sp;
  flags = rest.flags ∙ first.flags;
  byte = rest.byte ∙ first.byte;
  tag = rest.tag ∙ first.tag;
  regions = rest.regions ∙ first.regions;
  guard = rest.guard ∙ first.guard;
  choices = rest.choices ∙ first.choices;
  drawn = rest.drawn ∙ first.drawn;
  outside = rest.outside ∙ first.outside;
}

-- with one halfword more, which is left out where it is zero
and_halfword : {instrs : List Instr} {rd : Reg} {value : ℕ} {s : State} (hw bits next : ℕ) → next ≡ value + bits * 2 ^ (16 * hw) →
    ((t : State) → t.register rd.0 ≡ value → effect (Movk true hw bits rd) t ≡ Leads (puts_register rd (t.register rd.0 + bits * 2 ^
    (16 * hw)) t)) →
    s.pc + 4 * length instrs + 4 < 2 ^ 64 → PutsConstant rd value instrs s → PutsConstant rd next (instrs ++ kept_halfword hw bits rd) s
unfolding puts_register
and_halfword {instrs} {rd} {value} {s} hw zero next is moves fits puts =
    subst (λ (list : List Instr). PutsConstant rd next list s) (sym (append-nil instrs))
    (subst (λ (n : ℕ). PutsConstant rd n instrs s) (let e : value ≡ next = omega (arith, is) in e) puts)
and_halfword {instrs} {rd} {value} {s} hw (suc bits) next is moves fits puts = record {
  to = puts_register rd (puts.to.register rd.0 + suc bits * 2 ^ (16 * hw)) puts.to;
  runs = subst (λ (n : ℕ). Runs (instrs ++ Movk true hw (suc bits) rd ∷ []) n s (puts_register rd
      (puts.to.register rd.0 + suc bits * 2 ^ (16 * hw)) puts.to))
      (sym (length-append instrs (Movk true hw (suc bits) rd ∷ [])))
      (Runs-append puts.runs (Runs-one (moves puts.to puts.holds) refl (omega (arith, puts.runs.pc, fits))));
  holds = with_value-same puts.to.register rd.0 (puts.to.register rd.0 + suc bits * 2 ^ (16 * hw)) ∙ ap (λ
      (n : ℕ). n + suc bits * 2 ^ (16 * hw)) puts.holds ∙ sym is;
  registers = λ r other. with_value-other puts.to.register rd.0 (puts.to.register rd.0 + suc bits * 2 ^ (16 * hw)) r other
      ∙ puts.registers r other;
  same = SameButRegisters-then puts.same (SameButRegisters-put rd (puts.to.register rd.0 + suc bits * 2 ^ (16 * hw)) puts.to);
}

first_halfword : (bits : ℕ) (rd : Reg) (s : State) → rd.0 < 31 → s.pc + 4 < 2 ^ 64 → PutsConstant rd bits (Movz true 0 bits rd ∷ []) s
unfolding puts_register
first_halfword bits rd s small fits = record {
  to = puts_register rd bits s;
  runs = Runs-one (constant_moved bits rd s small) refl fits;
  holds = with_value-same s.register rd.0 bits;
  registers = λ r other. with_value-other s.register rd.0 bits r other;
  same = SameButRegisters-put rd bits s;
}

kept_few : (hw bits : ℕ) (rd : Reg) → length (kept_halfword hw bits rd) ≤ 1
kept_few hw zero rd = omega arith
kept_few hw (suc bits) rd = omega arith

-- the constant is in the register, and the other registers and all else are as before
pub constant_put : (value : ℕ) (rd : Reg) (s : State) → rd.0 < 31 → value < 2 ^ 64 → s.pc + 16 < 2 ^ 64 → PutsConstant rd value
    (constant_moves rd value) s
unfolding puts_register
constant_put value rd s small fits room =
    and_halfword 3 (value / 2 ^ 48) value (omega arith) (λ t is. halfword_3 (value / 2 ^ 48) rd t small (omega (arith, fits)) (omega
    (arith, is)))
    (omega (arith, room, l2))
    (and_halfword 2 (value / 2 ^ 32 % 2 ^ 16) (value % 2 ^ 48) (omega arith) (λ t is. halfword_2
    (value / 2 ^ 32 % 2 ^ 16) rd t small (omega arith) (omega (arith, is)))
    (omega (arith, room, l1))
    (and_halfword 1 (value / 2 ^ 16 % 2 ^ 16) (value % 2 ^ 32) (omega arith) (λ t is. halfword_1
    (value / 2 ^ 16 % 2 ^ 16) rd t small (omega arith) (omega (arith, is)))
    (omega (arith, room))
    (first_halfword (value % 2 ^ 16) rd s small (omega (arith, room)))))
  where
    one : List Instr
    one = Movz true 0 (value % 2 ^ 16) rd ∷ kept_halfword 1 (value / 2 ^ 16 % 2 ^ 16) rd

    l1 : length one ≤ 2
    l1 = omega (arith, kept_few 1 (value / 2 ^ 16 % 2 ^ 16) rd)

    l2 : length (one ++ kept_halfword 2 (value / 2 ^ 32 % 2 ^ 16) rd) ≤ 3
    l2 = omega (arith, length-append one (kept_halfword 2 (value / 2 ^ 32 % 2 ^ 16) rd), l1, kept_few 2 (value / 2 ^ 32 % 2 ^ 16) rd)
