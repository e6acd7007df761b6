-- Jumps of a function's items, where their words stand (this project's own).
use Rattle.std.specs.Prelude.{◌≡◌, ◌≢◌, ℕ, ◌+◌, ◌*◌, ◌%◌, ◌^◌, ◌<◌, Bool, true, false, not, refl}
use Rattle.std.proofs.Common.{arith, ap, sym, subst, ◌∙◌}
use Rattle.std.proofs.lemmas.Bool.{eq-eqb, ne_eqb}
use Rattle.a64_code.specs.declared.instr.Instr.{Instr}
use Rattle.a64_code.specs.declared.instr.Reg.{Reg}
use Rattle.a64_code.specs.Effect.{effect}
use Rattle.a64_code.specs.State.{State, general, at_pc}
use Rattle.a64_code.specs.Step.{carried_out}
use Rattle.a64_code.specs.Stepped.{Leads}
use Rattle.a64_laws.specs.Branches.{Way, Forward, Branch, Always, OnZero, OnOther, jump_instr, goes_to, is_taken, IsInReach, field_bits}
use Rattle.a64_laws.specs.Branches.{Linked, OnCondition, jumped}
use Rattle.a64_laws.specs.Forms.{next, puts_pc}
use Rattle.a64_laws.specs.Laws.Branches.{jump-taken, jump-passed}
use Rattle.mte_machine.specs.Run.{Steps}
use Rattle.mte_machine.specs.Laws.Steps.{Steps-one}
use Rattle.code_runs.specs.Within.{StepsWithin}
use Rattle.code_runs.specs.Laws.Within.{StepsWithin-one, StepsWithin-add}
use Rattle.code_relation.specs.Follows.{Code}
use Rattle.code_relation.specs.Items.{IsAt, HasInstr, GoesTo}
use Rattle.gen_unit.specs.Words.{way, branch_words}
use Rattle.unit_follows.specs.Laws.Standing.{Standing, HasInstr-first, Standing-rest}
use Rattle.unit_follows.specs.Laws.Ways.{way-goes, way-reaches}

-- ---- one step

-- the effect of an instruction that stands there is a step inside
pub StepsWithin-instr : {c : Code} {at : ℕ} {s t : State} (i : Instr) → HasInstr c at i → IsAt c at s → effect i s ≡ Leads t →
    StepsWithin c.Inside 1 s t
StepsWithin-instr {c} {at} {s} {t} i has is_at leads = StepsWithin-one one (has.inside s is_at)
  where
    one : Steps 1 s t
    one = Steps-one s t (ap (λ instr. carried_out instr s) (has.is s is_at) ∙ leads)

-- only PC is another
pub IsAt-moved : {c : Code} {at : ℕ} {s : State} (to : ℕ) → to < 2 ^ 64 → IsAt c at s → IsAt c to (at_pc to s)
IsAt-moved {c} {at} {s} to fits is_at = record {
  pc = refl;
  as_loaded = record { regions = is_at.as_loaded.regions; guard = is_at.as_loaded.guard; bytes = is_at.as_loaded.bytes };
  in_range = let r = is_at.in_range in record {
    registers = r.registers;
    sp = r.sp;
    pc = fits;
    bytes = r.bytes;
    tags = r.tags;
    drawn = r.drawn;
    choices = r.choices;
    answers = r.answers;
  };
}

jumped_there : (branch : Branch) (to : ℕ) (s : State) → branch ≢ Linked → jumped branch to s ≡ at_pc to s
unfolding puts_pc
jumped_there Always to s other = refl
jumped_there Linked to s other = absurd (other refl)
jumped_there (OnZero wide r) to s other = refl
jumped_there (OnOther wide r) to s other = refl
jumped_there (OnCondition cond) to s other = refl

-- a branch that is taken leads to where it goes
pub taken-led : {c : Code} {at : ℕ} {s : State} (branch : Branch) (w : Way) (to : ℕ) → branch ≢ Linked →
    HasInstr c at (jump_instr branch w) → IsAt c at s → IsInReach (field_bits branch) at w → goes_to at w ≡ to →
    is_taken branch s ≡ true → StepsWithin c.Inside 1 s (at_pc to s)
taken-led {c} {at} {s} branch w to other has is_at reach goes taken =
    StepsWithin-instr (jump_instr branch w) has is_at
    (jump-taken branch w s is_at.in_range.pc (subst (λ a. IsInReach (field_bits branch) a w) (sym is_at.pc) reach) taken
    ∙ ap Leads (ap (λ a. jumped branch (goes_to a w) s) is_at.pc ∙ ap (λ a. jumped branch a s) goes ∙ jumped_there branch to s other))

next_there : (at : ℕ) (s : State) → s.pc ≡ at → at + 4 < 2 ^ 64 → next s ≡ at_pc (at + 4) s
unfolding next
next_there at s pc fits = ap (λ a. at_pc a s) (let e : (s.pc + 4) % 2 ^ 64 ≡ at + 4 = omega (arith, pc, fits) in e)

-- one that is not taken goes on
pub passed-led : {c : Code} {at : ℕ} {s : State} (branch : Branch) (w : Way) → HasInstr c at (jump_instr branch w) → IsAt c at s →
    is_taken branch s ≡ false → StepsWithin c.Inside 1 s (at_pc (at + 4) s)
passed-led {c} {at} {s} branch w has is_at passed =
    StepsWithin-instr (jump_instr branch w) has is_at
    (jump-passed branch w s passed ∙ ap Leads (next_there at s is_at.pc (omega (arith, has.below))))

-- ---- jumps

goes_in_one : {c : Code} {to : ℕ} {s : State} → StepsWithin c.Inside 1 s (at_pc to s) → GoesTo c to s
goes_in_one led = record { steps = 1; least = omega arith; most = omega arith; led = led }

-- to a place
pub GoesTo-jump : {c : Code} {s : State} (base from to : ℕ) → HasInstr c (base + 4 * from) (jump_instr Always (way from to)) →
    IsAt c (base + 4 * from) s → from < to + 2 ^ 25 → to < from + 2 ^ 25 → base + 4 * to < 2 ^ 64 → GoesTo c (base + 4 * to) s
GoesTo-jump base from to has is_at back on fits =
    goes_in_one (taken-led Always (way from to) (base + 4 * to) (λ same. absurd (cc)) has is_at (way-reaches 26 base from to back on fits)
    (way-goes base from to) refl)

-- a jump over another one, or the jump itself
zero_taken : (r : Reg) (s : State) → general s r ≡ 0 → is_taken (OnZero true r) s ≡ true
zero_taken r s is = eq-eqb (general s r) 0 is

zero_passed : (r : Reg) (s : State) → general s r ≢ 0 → is_taken (OnZero true r) s ≡ false
zero_passed r s is = ne_eqb (general s r) 0 is

other_taken : (r : Reg) (s : State) → general s r ≢ 0 → is_taken (OnOther true r) s ≡ true
other_taken r s is = ap not (ne_eqb (general s r) 0 is)

other_passed : (r : Reg) (s : State) → general s r ≡ 0 → is_taken (OnOther true r) s ≡ false
other_passed r s is = ap not (eq-eqb (general s r) 0 is)

-- the branch, short or long, with the condition under which it is taken
pub record IsBranch (taken contrary : Branch) (P Q : State → Type 0) : Type 0 where
  pub bits : field_bits taken ≡ 19
  pub contrary_bits : field_bits contrary ≡ 19
  pub unlinked : taken ≢ Linked
  pub contrary_unlinked : contrary ≢ Linked
  pub goes : (s : State) → P s → is_taken taken s ≡ true
  pub passes : (s : State) → Q s → is_taken taken s ≡ false
  pub contrary_passes : (s : State) → P s → is_taken contrary s ≡ false
  pub contrary_goes : (s : State) → Q s → is_taken contrary s ≡ true

-- where a register is zero, and where it is not
pub IsBranch-zero : (r : Reg) → IsBranch (OnZero true r) (OnOther true r) (λ s. general s r ≡ 0) (λ s. general s r ≢ 0)
IsBranch-zero r = record {
  bits = refl;
  contrary_bits = refl;
  unlinked = λ same. absurd (cc);
  contrary_unlinked = λ same. absurd (cc);
  goes = zero_taken r;
  passes = zero_passed r;
  contrary_passes = other_passed r;
  contrary_goes = other_taken r;
}

pub IsBranch-other : (r : Reg) → IsBranch (OnOther true r) (OnZero true r) (λ s. general s r ≢ 0) (λ s. general s r ≡ 0)
IsBranch-other r = record {
  bits = refl;
  contrary_bits = refl;
  unlinked = λ same. absurd (cc);
  contrary_unlinked = λ same. absurd (cc);
  goes = other_taken r;
  passes = other_passed r;
  contrary_passes = zero_passed r;
  contrary_goes = zero_taken r;
}

-- how far it may go
abbrev pub reach_of : Bool → ℕ
reach_of false = 2 ^ 18
reach_of true = 2 ^ 25

-- taken where the one holds, and passed where the other does
pub record Branching (c : Code) (from taken passed : ℕ) (P Q : State → Type 0) : Type 0 where
  pub on : (s : State) → IsAt c from s → P s → GoesTo c taken s
  pub off : (s : State) → IsAt c from s → Q s → GoesTo c passed s

abbrev pub length_of : Bool → ℕ
length_of false = 1
length_of true = 2

pub Branching-words : {c : Code} {taken contrary : Branch} {P Q : State → Type 0} (long : Bool) (base from to : ℕ) →
    IsBranch taken contrary P Q → Standing c (base + 4 * from) (branch_words long taken contrary from to) →
    from + 1 < to + reach_of long → to < from + reach_of long → base + 4 * to < 2 ^ 56 →
    Branching c (base + 4 * from) (base + 4 * to) (base + 4 * (from + length_of long)) P Q
Branching-words {c} {taken} {contrary} {P} {Q} false base from to is stands back on fits = record {
  on = λ s is_at holds. goes_in_one (taken-led taken (way from to) (base + 4 * to) is.unlinked has is_at
      (subst (λ b. IsInReach b (base + 4 * from) (way from to)) (sym is.bits) (way-reaches 19 base from to (omega (arith, back)) on
      (omega (arith, fits))))
      (way-goes base from to) (is.goes s holds));
  off =
      λ s is_at holds. subst (λ a. GoesTo c a s) (omega arith) (goes_in_one (passed-led taken (way from to) has is_at (is.passes s holds)));
}
  where
    has : HasInstr c (base + 4 * from) (jump_instr taken (way from to))
    has = HasInstr-first stands
Branching-words {c} {taken} {contrary} {P} {Q} true base from to is stands back on fits = record {
  on = λ s is_at holds.
      let first = passed-led contrary (Forward 2) has is_at (is.contrary_passes s holds) in
      let there : IsAt c (base + 4 * (from + 1)) (at_pc (base + 4 * (from + 1)) s) =
      IsAt-moved (base + 4 * (from + 1)) (omega (arith, stands.below)) is_at in
      let second = taken-led Always (way (from + 1) to) (base + 4 * to) (λ same. absurd (cc)) then there
      (way-reaches 26 base (from + 1) to (omega (arith, back)) (omega (arith, on)) (omega (arith, fits))) (way-goes base (from + 1) to) refl
      in record {
        steps = 2;
        least = omega arith;
        most = omega arith;
        led = StepsWithin-add (subst (λ a. StepsWithin c.Inside 1 s (at_pc a s)) (omega arith) first) second;
      };
  off = λ s is_at holds. goes_in_one (taken-led contrary (Forward 2) (base + 4 * (from + 2)) is.contrary_unlinked has is_at
      (subst (λ b. IsInReach b (base + 4 * from) (Forward 2)) (sym is.contrary_bits) (omega arith, omega (arith, stands.below)))
      (omega arith) (is.contrary_goes s holds));
}
  where
    has : HasInstr c (base + 4 * from) (jump_instr contrary (Forward 2))
    has = HasInstr-first stands

    then : HasInstr c (base + 4 * (from + 1)) (jump_instr Always (way (from + 1) to))
    then = subst (λ a. HasInstr c a (jump_instr Always (way (from + 1) to))) (omega arith) (HasInstr-first (Standing-rest stands))
