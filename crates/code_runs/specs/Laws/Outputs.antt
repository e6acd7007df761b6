-- What a run has put begins with what it had put after fewer steps (this project's own).
use Rattle.std.specs.Prelude.{◌≡◌, ℕ, zero, suc, ◌+◌, Bool, true, false, if◌then◌else◌, List, [], ◌∷◌, ◌++◌, refl}
use Rattle.std.proofs.Common.{ap, sym, ◌∙◌, subst}
use Rattle.std.proofs.lemmas.List.{append_assoc, append-nil}
use Rattle.a64_code.specs.declared.end.MachineEnd.{MachineEnd}
use Rattle.a64_code.specs.declared.end.MachineEnd.TheVariants.{OutputFault}
use Rattle.a64_code.specs.State.{State}
use Rattle.a64_code.specs.Stepped.{Stepped, Leads, Ends}
use Rattle.a64_code.specs.Services.{low_byte, output_at}
use Rattle.a64_code.specs.Step.{step}
use Rattle.a64_laws.specs.Laws.Effects.Leaves.{OnLeads}
use Rattle.a64_laws.specs.Laws.Effects.Grows.{Grows, Grows-same, Grows-then, effect-grows}
use Rattle.mte_machine.specs.Run.{Run, Running, Stopped, run, run_after, Steps, output_after}
use Rattle.mte_machine.specs.Laws.Steps.{run_on, run-add}
use Rattle.code_runs.specs.Laws.EachStep.{each-step, each-Steps}

pub step-grows : (s : State) → OnLeads (step s) (Grows s)
step-grows s = each-step (Grows s) s (λ instr. effect-grows instr s)

pub Grows-Steps : (n : ℕ) {s t : State} → Steps n s t → Grows s t
Grows-Steps n steps =
    each-Steps Grows (record { same = λ s. Grows-same s s refl; then = λ s t u first second. Grows-then first second }) step-grows n steps

-- the first list is a prefix of the second
pub record IsPrefix (first whole : List ℕ) : Type 0 where
  pub rest : List ℕ
  pub is : whole ≡ first ++ rest

pub IsPrefix-same : (xs : List ℕ) → IsPrefix xs xs
IsPrefix-same xs = record { rest = []; is = sym (append-nil xs) }

pub IsPrefix-then : {xs ys zs : List ℕ} → IsPrefix xs ys → IsPrefix ys zs → IsPrefix xs zs
IsPrefix-then {xs} {ys} {zs} first second = record {
  rest = first.rest ++ second.rest;
  is = second.is ∙ ap (λ (before : List ℕ). before ++ second.rest) first.is ∙ append_assoc xs first.rest second.rest;
}

-- an end may add the byte of a put that failed
at_end : (end : MachineEnd) (s : State) → IsPrefix s.outside.output (output_at end s)
at_end OutputFault s = by_kept s.outside.keeps_last
  where
    by_kept : (keeps : Bool) → IsPrefix s.outside.output (if keeps then s.outside.output ++ low_byte s ∷ [] else s.outside.output)
    by_kept true = record { rest = low_byte s ∷ []; is = refl }
    by_kept false = IsPrefix-same s.outside.output
at_end _ s = IsPrefix-same s.outside.output

after_first : (n : ℕ) (s : State) (first : Stepped) → OnLeads first (Grows s) →
    ((t : State) → IsPrefix t.outside.output (output_after (run n t))) →
    IsPrefix s.outside.output (output_after (run_after first s (run n)))
after_first n s (Leads t) grows again = IsPrefix-then (record { rest = grows.put; is = grows.output }) (again t)
after_first n s (Ends end) grows again = at_end end s

pub output_after-run : (n : ℕ) (s : State) → IsPrefix s.outside.output (output_after (run n s))
output_after-run zero s = IsPrefix-same s.outside.output
output_after-run (suc n) s = after_first n s (step s) (step-grows s) (λ t. output_after-run n t)

-- more steps put more, and nothing else before it
pub output_after-more : (m n : ℕ) (s : State) → IsPrefix (output_after (run m s)) (output_after (run (m + n) s))
output_after-more m n s = subst (λ (r : Run). IsPrefix (output_after (run m s)) (output_after r)) (sym (run-add m n s)) (by_run (run m s))
  where
    by_run : (r : Run) → IsPrefix (output_after r) (output_after (run_on n r))
    by_run (Running t) = output_after-run n t
    by_run (Stopped end t) = IsPrefix-same (output_at end t)
