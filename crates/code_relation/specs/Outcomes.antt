-- The outcome of something that runs in the meaning, as the laws on bounded runs have it (this project's own).
use Rattle.block_meaning.specs.Running.{Result, Goes, Stops, Stop, Divide, Deep, More, IsUndefined, Stuck, State as MeaningState}
use Rattle.code_runs.specs.Outcome.{Outcome, Completes, Finishes, Lacks, Unsaid}

-- More is for want of work. Stuck is a bound of the definition that was too small: of this nothing is said.
abbrev pub outcome_of : {A : Type 0} → Result A → Outcome MeaningState Stop A
outcome_of (Goes a now) = Completes a now
outcome_of (Stops Divide now) = Finishes Divide now
outcome_of (Stops Deep now) = Finishes Deep now
outcome_of (Stops More now) = Lacks now
outcome_of (Stops (IsUndefined u) now) = Finishes (IsUndefined u) now
outcome_of (Stops Stuck now) = Unsaid
