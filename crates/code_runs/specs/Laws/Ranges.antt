-- A run leaves the numbers of its state in range (this project's own).
use Rattle.std.specs.Prelude.{◌≢◌, ℕ, ◌^◌, ◌<◌, List, [], ◌∷◌, length, All, refl}
use Rattle.std.proofs.Common.{arith, mod-lt}
use Rattle.tag_mem.specs.declared.access.TagMemory.{Ghosts}
use Rattle.a64_code.specs.Outside.{Outside}
use Rattle.a64_code.specs.State.{State}
use Rattle.a64_code.specs.Stepped.{Stepped, Leads, Ends}
use Rattle.a64_code.specs.Step.{step}
use Rattle.a64_laws.specs.Laws.Effects.Leaves.{OnLeads}
use Rattle.a64_laws.specs.Laws.Effects.InRange.{AnswersFit, IsInRange, choices-lt}
use Rattle.a64_laws.specs.Laws.Effects.StepRange.{step-range}
use Rattle.mte_machine.specs.Machine.{initial_state}
use Rattle.mte_machine.specs.Run.{Steps}
use Rattle.code_runs.specs.Laws.EachStep.{each-Steps}

where_in_range : (s : State) (first : Stepped) → (IsInRange s → OnLeads first IsInRange) → OnLeads first (λ t. IsInRange s → IsInRange t)
where_in_range s (Leads t) all = all
where_in_range s (Ends end) all = tt

pub IsInRange-Steps : (n : ℕ) {s t : State} → Steps n s t → IsInRange s → IsInRange t
IsInRange-Steps n steps =
    each-Steps (λ s t. IsInRange s → IsInRange t)
    (record { same = λ s range. range; then = λ s t u first second range. second (first range) })
    (λ s. where_in_range s (step s) (step-range s)) n steps

-- and so they are at the start, where memory has bytes and tags, as `TagMemory` promises
pub IsInRange-initial : {M : Type 0} (shown : Ghosts M) (memory : M) (pc sp : ℕ) (choices : List ℕ) (drawn : ℕ) (outside : Outside) →
    ((at : ℕ) → shown.byte memory at < 256) → ((granule : ℕ) → shown.tags memory granule < 16) → pc < 2 ^ 64 → sp < 2 ^ 64 →
    choices ≢ [] → All (λ choice. choice < 16) choices → AnswersFit outside.answers →
    IsInRange (initial_state shown memory pc sp choices drawn outside)
IsInRange-initial shown memory pc sp choices drawn outside byte_below tags_below pc_fits sp_fits some tags answers = record {
  registers = λ n. omega arith;
  sp = sp_fits;
  pc = pc_fits;
  bytes = byte_below;
  tags = tags_below;
  drawn = mod-lt drawn (not_empty choices some);
  choices = choices-lt choices tags;
  answers = answers;
}
  where
    not_empty : (xs : List ℕ) → xs ≢ [] → 0 < length xs
    not_empty [] some = absurd (some refl)
    not_empty (x ∷ xs) some = omega arith
