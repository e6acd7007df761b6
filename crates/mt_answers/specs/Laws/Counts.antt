-- The counts of the files' faults that the commands leave, from those that a read and a write leave.
use Rattle.std.proofs.Common.{◌≡◌, ◌∙◌}
use Rattle.mt_answers.specs.Counted.{IsWriteFault, Uncounted, UncountedReads}
use Rattle.mt_answers.specs.Seen.{FilesSeen}
use Rattle.mt_answers.specs.declared.ended.Why.{Why}

-- both counts stay, whatever is answered
pub both_stay : (before after : FilesSeen) {why : Why} → after.read_faults ≡ before.read_faults →
    after.write_faults ≡ before.write_faults →
    UncountedReads before after why
both_stay before after reads writes = record { reads = λ no_fault. reads; writes = writes }

-- a command that may write has written nothing yet
pub unwritten : (before after : FilesSeen) {why : Why} → UncountedReads before after why → Uncounted before after why
unwritten before after counts = record { reads = counts.reads; writes = λ no_fault. counts.writes }

-- it has read and then written
pub then_written : (before read after : FilesSeen) {why : Why} → read.read_faults ≡ before.read_faults →
    read.write_faults ≡ before.write_faults →
    after.read_faults ≡ read.read_faults → (¬ IsWriteFault why → after.write_faults ≡ read.write_faults) → Uncounted before after why
then_written before read after reads writes also stay = record {
  reads = λ no_fault. also ∙ reads;
  writes = λ no_fault. stay no_fault ∙ writes;
}
