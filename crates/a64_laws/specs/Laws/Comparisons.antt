-- Comparisons into a register and into a branch, of registers or of a register and a number (this project's own).
use Rattle.std.specs.Prelude.{◌≡◌, ℕ, ◌+◌, ◌%◌, ◌^◌, ◌<◌, Bool, true, false, not, refl}
use Rattle.std.proofs.Common.{arith, ap, ◌∙◌}
use Rattle.a64_alu.specs.declared.flags.Flags.{Flags}
use Rattle.a64_alu.specs.Width.{width, of_width}
use Rattle.a64_alu.specs.Adding.{subtract_with_flags}
use Rattle.a64_alu.specs.Condition.{condition_holds}
use Rattle.a64_code.specs.declared.instr.Reg.{Reg}
use Rattle.a64_code.specs.State.{State}
use Rattle.a64_code.specs.Stepped.{Leads}
use Rattle.a64_code.specs.Effect.{effect}
use Rattle.a64_laws.specs.Forms.{next, puts_register, puts_flags, puts_pc}
use Rattle.a64_laws.specs.Branches.{Way, OnCondition, goes_to, IsInReach}
use Rattle.a64_laws.specs.Relations.{Relation, Equal, Unequal, HigherOrSame, Lower, Higher, LowerOrSame, AtLeast, Less, Greater, AtMost}
use Rattle.a64_laws.specs.Relations.{code_of, holds, with_bool}
use Rattle.a64_laws.specs.Runs.{RunsFrom, Runs}
use Rattle.a64_laws.specs.Sequences.{contrary, Compared, With, WithNumber, compare_instr, second_number, IsComparable, comparison_instrs}
use Rattle.a64_laws.specs.Sequences.{bit_of, comparison_branch}
use Rattle.a64_laws.specs.Laws.Branches.{jump-taken, jump-passed}
use Rattle.a64_laws.specs.Laws.Comparing.{compared, compared_number, condition_tells, condition_put}
use Rattle.a64_laws.specs.Laws.Remainders.{of_width-lt}
use Rattle.a64_laws.specs.Laws.Runs.{RunsFrom-one_at, RunsFrom-add, Runs-one, Runs-cons}

-- ---- the flags

-- those of the subtraction
abbrev pub compared_flags : Bool → Compared → Reg → State → Flags
compared_flags wide second rn s = (subtract_with_flags (width wide) (of_width wide (s.register rn.0)) (second_number wide second s)).1

-- and the relation that they tell
abbrev pub compares : Relation → Bool → Compared → Reg → State → Bool
compares r wide second rn s = holds r (width wide) (of_width wide (s.register rn.0)) (second_number wide second s)

flags_put : (wide : Bool) (second : Compared) (rn : Reg) (s : State) → IsComparable second s → rn.0 < 31 →
    effect (compare_instr wide second rn) s ≡ Leads (puts_flags (compared_flags wide second rn s) s)
flags_put wide (With rm) rn s can first = compared wide rm rn s can.0 first
flags_put wide (WithNumber imm12) rn s can first = compared_number wide imm12 rn s first

second-lt : (wide : Bool) (second : Compared) (s : State) → IsComparable second s → second_number wide second s < 2 ^ width wide
second-lt wide (With rm) s can = of_width-lt wide (s.register rm.0) can.1
second-lt true (WithNumber imm12) s can = omega (arith, can)
second-lt false (WithNumber imm12) s can = omega (arith, can)

flags_tell : (r : Relation) (wide : Bool) (second : Compared) (rn : Reg) (s : State) → IsComparable second s → s.register rn.0 < 2 ^ 64 →
    condition_holds (code_of r) (compared_flags wide second rn s) ≡ compares r wide second rn s
flags_tell r wide second rn s can fits =
    condition_tells r wide (of_width wide (s.register rn.0)) (second_number wide second s) (of_width-lt wide (s.register rn.0) fits)
    (second-lt wide second s can)

-- ---- into a register

put_not : (b : Bool) → with_bool (not b) ≡ bit_of b
put_not true = refl
put_not false = refl

put_so : (b : Bool) → with_bool b ≡ bit_of (not b)
put_so true = refl
put_so false = refl

contrary_put : (r : Relation) (f : Flags) → with_bool (condition_holds (code_of (contrary r)) f) ≡ bit_of (condition_holds (code_of r) f)
contrary_put Equal f = put_not (condition_holds 0 f)
contrary_put Unequal f = put_so (condition_holds 0 f)
contrary_put HigherOrSame f = put_not (condition_holds 2 f)
contrary_put Lower f = put_so (condition_holds 2 f)
contrary_put Higher f = put_not (condition_holds 8 f)
contrary_put LowerOrSame f = put_so (condition_holds 8 f)
contrary_put AtLeast f = put_not (condition_holds 10 f)
contrary_put Less f = put_so (condition_holds 10 f)
contrary_put Greater f = put_not (condition_holds 12 f)
contrary_put AtMost f = put_so (condition_holds 12 f)

-- 1 where the relation holds, else 0
pub comparison_put : (r : Relation) (wide : Bool) (second : Compared) (rn rd : Reg) (s : State) → IsComparable second s → rn.0 < 31 →
    rd.0 < 31 → s.register rn.0 < 2 ^ 64 → s.pc + 8 < 2 ^ 64 →
    Runs (comparison_instrs r wide second rn rd) 2 s
    (puts_register rd (bit_of (compares r wide second rn s)) (puts_flags (compared_flags wide second rn s) s))
unfolding next puts_register puts_flags puts_pc
comparison_put r wide second rn rd s can first small fits pc =
    Runs-cons (flags_put wide second rn s can first) refl (omega (arith, pc))
    (Runs-one (condition_put (code_of (contrary r)) rd t small
    ∙ ap (λ (value : ℕ). Leads (puts_register rd value t)) (contrary_put r t.flags ∙ ap bit_of (flags_tell r wide second rn s can fits)))
    refl (omega (arith, pc)))
  where
    t : State
    t = puts_flags (compared_flags wide second rn s) s

-- ---- into a branch, which may stand in a longer list

-- the branch stands four bytes on
branch_pc : (pc : ℕ) → pc + 8 < 2 ^ 64 → (pc + 4) % 2 ^ 64 ≡ pc + 4
branch_pc pc fits = omega (arith, fits)

-- the relation holds: PC is where the branch goes
pub comparison-taken : (r : Relation) (wide : Bool) (second : Compared) (rn : Reg) (way : Way) (s : State) → IsComparable second s →
    rn.0 < 31 → s.register rn.0 < 2 ^ 64 → s.pc + 8 < 2 ^ 64 → IsInReach 19 (s.pc + 4) way →
    compares r wide second rn s ≡ true →
    RunsFrom (comparison_branch r wide second rn way) s.pc 2 s
    (puts_pc (goes_to (s.pc + 4) way) (puts_flags (compared_flags wide second rn s) s))
unfolding next puts_register puts_flags puts_pc
comparison-taken r wide second rn way s can first fits pc reach is =
    RunsFrom-add (comparison_branch r wide second rn way) s.pc 1 1 s t (puts_pc (goes_to (s.pc + 4) way) t)
    (RunsFrom-one_at 0 _ (omega arith) refl (flags_put wide second rn s can first))
    (RunsFrom-one_at 1 _ (omega (arith, pc)) refl
    (jump-taken (OnCondition (code_of r)) way t (omega (arith, pc)) (rw (branch_pc s.pc pc) reach)
    (flags_tell r wide second rn s can fits ∙ is)
    ∙ ap (λ (at : ℕ). Leads (puts_pc (goes_to at way) t)) (branch_pc s.pc pc)))
  where
    t : State
    t = puts_flags (compared_flags wide second rn s) s

-- it does not hold: PC is behind the branch
pub comparison-passed : (r : Relation) (wide : Bool) (second : Compared) (rn : Reg) (way : Way) (s : State) → IsComparable second s →
    rn.0 < 31 → s.register rn.0 < 2 ^ 64 → s.pc + 8 < 2 ^ 64 → compares r wide second rn s ≡ false →
    Runs (comparison_branch r wide second rn way) 2 s (next (puts_flags (compared_flags wide second rn s) s))
unfolding next puts_register puts_flags puts_pc
comparison-passed r wide second rn way s can first fits pc is =
    Runs-cons (flags_put wide second rn s can first) refl (omega (arith, pc))
    (Runs-one (jump-passed (OnCondition (code_of r)) way t (flags_tell r wide second rn s can fits ∙ is)) refl (omega (arith, pc)))
  where
    t : State
    t = puts_flags (compared_flags wide second rn s) s
