-- Where branches go (this project's own).
use Rattle.std.specs.Prelude.{◌≡◌, ℕ, ◌^◌, ◌<◌, ◌≤◌, true, false, refl}
use Rattle.std.proofs.Common.{arith, ap}
use Rattle.a64_code.specs.declared.instr.Instr.TheVariants.{Ret}
use Rattle.a64_code.specs.State.{State}
use Rattle.a64_code.specs.Stepped.{Leads}
use Rattle.a64_code.specs.Branches.{target}
use Rattle.a64_laws.specs.Laws.Effects.Branches.{target-forward, target-back}
use Rattle.a64_code.specs.Effect.{effect}
use Rattle.a64_laws.specs.Forms.{next, puts_pc, puts_link}
use Rattle.a64_laws.specs.Branches.{Way, Forward, Back, Branch, Always, Linked, OnZero, OnOther, OnCondition, field_bits, field}
use Rattle.a64_laws.specs.Branches.{jump_instr, goes_to, IsInReach, is_taken, jumped}

target-way : (bits : ℕ) (way : Way) (s : State) → 1 ≤ bits → bits ≤ 64 → s.pc < 2 ^ 64 → IsInReach bits s.pc way →
    target bits (field bits way) s ≡ goes_to s.pc way
target-way bits (Forward words) s some most fits reach = target-forward bits words s some most reach.0 reach.1
target-way bits (Back words) s some most fits reach = target-back bits words s some most reach.0 reach.1 reach.2 fits

pub jump-taken : (branch : Branch) (way : Way) (s : State) → s.pc < 2 ^ 64 → IsInReach (field_bits branch) s.pc way →
    is_taken branch s ≡ true →
    effect (jump_instr branch way) s ≡ Leads (jumped branch (goes_to s.pc way) s)
unfolding puts_pc puts_link
jump-taken Always way s fits reach taken = ap (λ (a : ℕ). Leads (puts_pc a s)) (target-way 26 way s (omega arith) (omega arith) fits reach)
jump-taken Linked way s fits reach taken =
    ap (λ (a : ℕ). Leads (puts_link a s)) (target-way 26 way s (omega arith) (omega arith) fits reach)
jump-taken (OnZero wide rt) way s fits reach taken = rw (taken, target-way 19 way s (omega arith) (omega arith) fits reach) refl
jump-taken (OnOther wide rt) way s fits reach taken = rw (taken, target-way 19 way s (omega arith) (omega arith) fits reach) refl
jump-taken (OnCondition cond) way s fits reach taken = rw (taken, target-way 19 way s (omega arith) (omega arith) fits reach) refl

pub jump-passed : (branch : Branch) (way : Way) (s : State) → is_taken branch s ≡ false →
    effect (jump_instr branch way) s ≡ Leads (next s)
unfolding next
jump-passed Always way s passed = absurd (cc)
jump-passed Linked way s passed = absurd (cc)
jump-passed (OnZero wide rt) way s passed = rw passed refl
jump-passed (OnOther wide rt) way s passed = rw passed refl
jump-passed (OnCondition cond) way s passed = rw passed refl

-- back to the address in X30
pub returned : (s : State) → effect Ret s ≡ Leads (puts_pc (s.register 30) s)
unfolding puts_pc
returned s = refl
