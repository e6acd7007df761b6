-- What a step and a run of the machine answer, and what they leave, over any source and sink (this project's own). In each
-- record `before` and `after` are the objects, and `old` and `new` say for an outside in which state the machine is.
use Rattle.std.specs.Prelude.{◌≡◌, ◌≢◌, ◌⊎◌, ◌↔◌, ℕ, List}
use Rattle.mt_outside.specs.Told.{Rose}
use Rattle.a64_code.specs.Outside.{Outside}
use Rattle.a64_code.specs.State.{State}
use Rattle.a64_code.specs.Stepped.{Stepped, Leads, Ends}
use Rattle.a64_code.specs.Services.{output_at}
use Rattle.a64_code.specs.declared.end.MachineEnd.{MachineEnd}
use Rattle.a64_code.specs.declared.end.MachineEnd.TheVariants.{OutOfSteps, InputFault, OutputFault}
use Rattle.mte_machine.specs.declared.step.Step.{Step}
use Rattle.mte_machine.specs.declared.step.Step.TheVariants.{Ran, Ended}
use Rattle.mte_machine.specs.Run.{run, end_of, state_after, output_after, answers_after, Steps}
use Rattle.mte_machine.specs.Objects.{Objects, MayAnswer, MayHaveTaken, Fits, GoesOn, without_input, without_output}

-- ---- a step, which does this over each outside

-- Over the outside whose first call of one kind fails, the step fails, or that object is the same and the step leads on as well.
abbrev pub Spares : (Outside → Outside) → (Outside → Stepped) → (Outside → State) → MachineEnd → Type 0 → Outside → Outside → Type 0
Spares without does new fault IsSame outside rest =
    (IsSame × (does (without outside) ≡ Leads (new (without rest)))) ⊎ (does (without outside) ≡ Ends fault)

-- The step led from this outside to that one.
pub record LeadsOn {S K : Type 0} (does : Outside → Stepped) (new : Outside → State) (before after : Objects S K)
    (outside rest : Outside) : Type 0 where
  pub fits : Fits before outside
  pub leads : does outside ≡ Leads (new rest)
  pub source_kept : Spares without_input does new InputFault (after.source ≡ before.source) outside rest
  pub sink_kept : Spares without_output does new OutputFault (after.sink ≡ before.sink) outside rest

-- It ran, where the sink had taken these bytes before: whatever the objects stand for now, there is an outside before from
-- which the step led there.
pub record RanFrom {S K : Type 0} (does : Outside → Stepped) (new : Outside → State) (before after : Objects S K)
    (taken : List ℕ) : Type 0 where
  -- what the sink has taken now
  pub now : List ℕ
  pub told : MayHaveTaken after.output now
  pub leads : (rest : Outside) → rest.output ≡ now → MayAnswer after.input rest.answers →
      (outside : Outside) × (outside.output ≡ taken) × LeadsOn does new before after outside rest

-- It ended the run, and the machine is as before.
pub record EndedFrom {S K : Type 0} (does : Outside → Stepped) (old new : Outside → State) (before after : Objects S K) (taken : List ℕ)
    (end : MachineEnd) : Type 0 where
  pub outside : Outside
  pub output : outside.output ≡ taken
  pub fits : Fits before outside
  pub ends : does outside ≡ Ends end
  pub state : (w : Outside) → new w ≡ old w
  -- what the objects tell now
  pub left : MayAnswer after.input outside.answers
  pub told : MayHaveTaken after.output (output_at end (old outside))
  -- a fault comes only where the count of that object rose
  pub input_fault : end ≡ InputFault → Rose before.read_faults after.read_faults
  pub output_fault : end ≡ OutputFault → Rose before.write_faults after.write_faults
  -- an object that the step asks for nothing stays as it is
  pub source_kept : (after.source ≡ before.source) ⊎ (does (without_input outside) ≡ Ends InputFault)
  pub sink_kept : (after.sink ≡ before.sink) ⊎ (does (without_output outside) ≡ Ends OutputFault)

abbrev pub AnswersFrom : {S K : Type 0} → (Outside → Stepped) → (Outside → State) → (Outside → State) → Objects S K → Objects S K →
    List ℕ → Step → Type 0
AnswersFrom does old new before after taken Ran = RanFrom does new before after taken
AnswersFrom does old new before after taken (Ended end) = EndedFrom does old new before after taken end

-- The count of an object's faults is as before, unless this end is its fault.
pub record CountsUpTo {S K : Type 0} (before after : Objects S K) (end : MachineEnd) : Type 0 where
  pub read_faults : end ≢ InputFault → after.read_faults ≡ before.read_faults
  pub write_faults : end ≢ OutputFault → after.write_faults ≡ before.write_faults

-- A step that ran left both counts, and one that ended the run all but that of its fault.
abbrev pub Counts : {S K : Type 0} → Objects S K → Objects S K → Step → Type 0
Counts before after Ran = (after.read_faults ≡ before.read_faults) × (after.write_faults ≡ before.write_faults)
Counts before after (Ended end) = CountsUpTo before after end

-- What a step answers and leaves.
pub record StepAnswers {S K : Type 0} (does : Outside → Stepped) (old new : Outside → State) (before after : Objects S K)
    (answer : Step) : Type 0 where
  pub goes_on : GoesOn before after
  pub counts : Counts before after answer
  pub answers : (taken : List ℕ) → MayHaveTaken before.output taken → AnswersFrom does old new before after taken answer

-- ---- a run

-- What a run of at most n steps answers and leaves: there is an outside that the objects may stand for, from which the steps
-- lead there.
pub record RunAnswers {S K : Type 0} (n : ℕ) (old new : Outside → State) (before after : Objects S K) (answer : MachineEnd) : Type 0 where
  pub outside : Outside
  pub fits : Fits before outside
  pub end : answer ≡ end_of (run n (old outside))
  pub state : new (state_after (run n (old outside))).outside ≡ state_after (run n (old outside))
  pub out_of_steps : (answer ≡ OutOfSteps) ↔ ((s : State) × Steps n (old outside) s)
  -- what the objects tell afterwards
  pub goes_on : GoesOn before after
  pub input : MayAnswer after.input (answers_after (run n (old outside)))
  pub output : MayHaveTaken after.output (output_after (run n (old outside)))
  -- a fault comes only where the count of that object rose, and any other end left it
  pub input_fault : answer ≡ InputFault → Rose before.read_faults after.read_faults
  pub output_fault : answer ≡ OutputFault → Rose before.write_faults after.write_faults
  pub counts : CountsUpTo before after answer
  -- an object that the run asks for nothing stays as it is
  pub source_kept : end_of (run n (old (without_input outside))) ≢ InputFault → after.source ≡ before.source
  pub sink_kept : end_of (run n (old (without_output outside))) ≢ OutputFault → after.sink ≡ before.sink
