-- What each step does is what steps in turn do (this project's own).
use Rattle.std.specs.Prelude.{◌≡◌, ℕ, zero, suc, Option, Some, None}
use Rattle.std.proofs.Common.{subst}
use Rattle.a64_code.specs.declared.instr.Instr.{Instr}
use Rattle.a64_code.specs.State.{State}
use Rattle.a64_code.specs.Stepped.{Stepped}
use Rattle.a64_code.specs.Effect.{effect}
use Rattle.a64_code.specs.Step.{fetched, carried_out, step}
use Rattle.a64_laws.specs.Laws.Effects.Leaves.{OnLeads}
use Rattle.mte_machine.specs.Run.{Running, Steps}
use Rattle.mte_machine.specs.Laws.Steps.{Steps-first}

-- what each instruction does from a state, the step from there does
pub each-step : (P : State → Type 0) (s : State) → ((instr : Instr) → OnLeads (effect instr s) P) → OnLeads (step s) P
each-step P s each = by_instr (fetched s)
  where
    by_instr : (instr : Option Instr) → OnLeads (carried_out instr s) P
    by_instr None = tt
    by_instr (Some instr) = each instr

-- it holds of a state and itself, and of two states where it holds of both and one between
pub record Composes (R : State → State → Type 0) : Type 0 where
  pub same : (s : State) → R s s
  pub then : (s t u : State) → R s t → R t u → R s u

-- what holds of each step, and composes, holds of steps in turn
pub each-Steps : (R : State → State → Type 0) → Composes R → ((s : State) → OnLeads (step s) (R s)) →
    (n : ℕ) {s t : State} → Steps n s t → R s t
each-Steps R composes each zero {s} {t} steps =
    let running : Running s ≡ Running t = steps.runs in let same : s ≡ t = cc in subst (R s) same (composes.same s)
each-Steps R composes each (suc n) {s} {t} steps =
    let parts = Steps-first n s t steps in
    composes.then s parts.next t (subst (λ (first : Stepped). OnLeads first (R s)) parts.first (each s))
    (each-Steps R composes each n parts.rest)
