-- Lists run by position, where they stand in memory: as many steps of the machine (this project's own).
use Rattle.std.specs.Prelude.{◌≡◌, ℕ, zero, suc, ◌+◌, ◌*◌, ◌<◌, List, [], ◌∷◌, length, Some}
use Rattle.std.proofs.Common.{arith, ap, ◌∙◌, subst}
use Rattle.a64_code.specs.declared.instr.Instr.{Instr}
use Rattle.a64_code.specs.declared.end.MachineEnd.{MachineEnd}
use Rattle.a64_code.specs.State.{State}
use Rattle.mte_machine.specs.Run.{Stopped, run}
use Rattle.mte_machine.specs.Laws.Steps.{run-ends}
use Rattle.code_runs.specs.Laws.Fixed.{Fixed, Fixed-same, Fixed-then, Fixed-effect}
use Rattle.code_runs.specs.Laws.CodeAt.{instruction_at, HasCode, HasCode-first, HasCode-rest, HasCode-kept, SameAt, SameAt-within}
use Rattle.code_runs.specs.Laws.CodeAt.{SameAt-fixed, CannotBeWritten, step-at, Steps-at}
use Rattle.a64_laws.specs.Runs.{instr_at, IsNext, Moves, RunsFrom, Runs, RunsInto}
use Rattle.code_runs.specs.Within.{StepsWithin}
use Rattle.code_runs.specs.Laws.Within.{StepsWithin-none, StepsWithin-one, StepsWithin-add}

-- ---- one instruction

HasCode-at : (s : State) (at : ℕ) (instrs : List Instr) (k : ℕ) (instr : Instr) → instr_at instrs k ≡ Some instr → HasCode s at instrs
    → instruction_at s (at + 4 * k) ≡ Some instr
HasCode-at s at [] k instr is code = absurd (cc)
HasCode-at s at (first ∷ instrs) zero instr is code = ap (instruction_at s) (omega arith) ∙ HasCode-first code ∙ is
HasCode-at s at (first ∷ instrs) (suc k) instr is code = ap (instruction_at s) (omega arith)
    ∙ HasCode-at s (at + 4) instrs k instr is (HasCode-rest code)

instr_at-lt : (instrs : List Instr) (k : ℕ) (instr : Instr) → instr_at instrs k ≡ Some instr → k < length instrs
instr_at-lt [] k instr is = absurd (cc)
instr_at-lt (first ∷ instrs) zero instr is = omega arith
instr_at-lt (first ∷ instrs) (suc k) instr is = omega (arith, instr_at-lt instrs k instr is)

-- the instruction at PC, where the bytes of the list are as they were loaded
stands_at : {loaded s : State} {base : ℕ} {instrs : List Instr} {instr : Instr} → HasCode loaded base instrs
    → SameAt base (4 * length instrs) loaded s → IsNext instrs base s instr →
    instruction_at s s.pc ≡ Some instr
stands_at {loaded} {s} {base} {instrs} {instr} code same next =
    ap (instruction_at s) next.pc
    ∙ HasCode-first (HasCode-kept {instrs = instr ∷ []} (SameAt-within same (omega arith)
    (omega (arith, instr_at-lt instrs next.position instr next.there)))
    (record { stand = (HasCode-at loaded base instrs next.position instr next.there code, tt) }))

-- ---- the steps

-- A property that each instruction of the list keeps, and under which the bytes of the list are as they were loaded, holds at each step.
pub record StaysUnder (instrs : List Instr) (base : ℕ) (loaded : State) (P : State → Type 0) : Type 0 where
  pub kept : (s t : State) → P s → Moves instrs base s t → P t
  pub code : (s : State) → P s → SameAt base (4 * length instrs) loaded s

-- what so many steps lead to, and that it holds there
pub record StepsUnder (P : State → Type 0) (n : ℕ) (from to : State) : Type 0 where
  pub steps : StepsWithin P n from to
  pub holds : P to

pub Steps-RunsFrom : {instrs : List Instr} {base : ℕ} {loaded : State} {P : State → Type 0} (n : ℕ) (s t : State)
    → HasCode loaded base instrs → StaysUnder instrs base loaded P → P s →
    RunsFrom instrs base n s t → StepsUnder P n s t
Steps-RunsFrom {P = P} zero s t code stays holds runs = subst (StepsUnder P 0 s) runs
    (record { steps = StepsWithin-none P s; holds = holds })
Steps-RunsFrom {P = P} (suc n) s t code stays holds runs =
    let rest = Steps-RunsFrom n runs.0 t code stays (stays.kept s runs.0 holds runs.1) runs.2 in
    record {
      steps = subst (λ (k : ℕ). StepsWithin P k s t) (let e : 1 + n ≡ suc n = omega arith in e)
          (StepsWithin-add (StepsWithin-one (Steps-at runs.1.instr
          (stands_at code (stays.code s holds) runs.1.next) runs.1.leads) holds) rest.steps);
      holds = rest.holds;
    }

-- a list that ends the run ends it, within any number of steps that reaches its end
pub run-stays : {instrs : List Instr} {n : ℕ} {s t : State} {end : MachineEnd} {P : State → Type 0} (m : ℕ) → HasCode s s.pc instrs →
    StaysUnder instrs s.pc s P → P s → RunsInto instrs n s t end → n < m → run m s ≡ Stopped end t
run-stays {n = n} {s} {t} m code stays holds into within =
    let led = Steps-RunsFrom n s t code stays holds into.steps in
    run-ends m led.steps.steps (step-at into.instr t (stands_at code (stays.code t led.holds) into.next) ∙ into.ends) within

-- ---- code that cannot be written

stays_protected : {instrs : List Instr} {base : ℕ} {s : State} → CannotBeWritten s base (4 * length instrs)
    → StaysUnder instrs base s (Fixed s)
stays_protected cannot = record {
  kept = λ t u fixed moves. Fixed-then fixed (Fixed-effect moves.instr moves.leads);
  code = λ t fixed. SameAt-fixed fixed cannot;
}

pub Steps-Runs : {instrs : List Instr} {n : ℕ} {s t : State} → HasCode s s.pc instrs → CannotBeWritten s s.pc (4 * length instrs)
    → Runs instrs n s t → StepsUnder (Fixed s) n s t
Steps-Runs {n = n} {s} {t} code cannot runs = Steps-RunsFrom n s t code (stays_protected cannot) (Fixed-same s) runs.steps

pub run-RunsInto : {instrs : List Instr} {n : ℕ} {s t : State} {end : MachineEnd} (m : ℕ) → HasCode s s.pc instrs →
    CannotBeWritten s s.pc (4 * length instrs) → RunsInto instrs n s t end → n < m → run m s ≡ Stopped end t
run-RunsInto {s = s} m code cannot into within = run-stays m code (stays_protected cannot) (Fixed-same s) into within
