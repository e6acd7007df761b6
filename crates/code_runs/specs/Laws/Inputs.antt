-- What a run leaves of the input: what is behind the bytes that it took (this project's own).
use Rattle.std.specs.Prelude.{◌≡◌, ℕ, zero, suc, List, map, Some, refl}
use Rattle.a64_code.specs.State.{State}
use Rattle.a64_code.specs.Stepped.{Stepped, Leads, Ends}
use Rattle.a64_code.specs.Step.{step}
use Rattle.a64_laws.specs.Laws.Effects.Leaves.{OnLeads}
use Rattle.a64_laws.specs.Laws.Effects.Takes.{LeftOf, LeftOf-all, LeftOf-then, Takes, Takes-same, Takes-then, effect-takes}
use Rattle.mte_machine.specs.Run.{run, run_after, Steps, answers_after}
use Rattle.code_runs.specs.Laws.EachStep.{each-step, each-Steps}

pub step-takes : (s : State) → OnLeads (step s) (Takes s)
step-takes s = each-step (Takes s) s (λ instr. effect-takes instr s)

pub Takes-Steps : (n : ℕ) {s t : State} → Steps n s t → Takes s t
Takes-Steps n steps =
    each-Steps Takes (record { same = λ s. Takes-same s s refl; then = λ s t u first second. Takes-then first second }) step-takes n steps

after_first : (n : ℕ) (s : State) (bytes : List ℕ) (first : Stepped) → OnLeads first (Takes s) → s.outside.answers ≡ map Some bytes →
    ((t : State) (left : List ℕ) → t.outside.answers ≡ map Some left → LeftOf left (answers_after (run n t))) →
    LeftOf bytes (answers_after (run_after first s (run n)))
after_first n s bytes (Leads t) takes is again = let one = takes.input bytes is in LeftOf-then one (again t one.left one.is)
after_first n s bytes (Ends end) takes is again = LeftOf-all bytes s.outside.answers is

pub answers_after-run : (n : ℕ) (s : State) (bytes : List ℕ) → s.outside.answers ≡ map Some bytes → LeftOf bytes (answers_after (run n s))
answers_after-run zero s bytes is = LeftOf-all bytes s.outside.answers is
answers_after-run (suc n) s bytes is = after_first n s bytes (step s) (step-takes s) is
    (λ t left left_is. answers_after-run n t left left_is)
