-- Which counts of the files' faults a call leaves: it counts no fault but the one that it answers (this project's own).
use Rattle.std.specs.Prelude.{◌≡◌}
use Rattle.mt_answers.specs.Seen.{FilesSeen}
use Rattle.mt_answers.specs.declared.ended.Why.{Why}
use Rattle.mt_answers.specs.declared.ended.Why.TheVariants.{ReadFault, WriteFault}

-- the fault of a read is answered
abbrev pub IsReadFault : Why → Type 0
IsReadFault (ReadFault file) = Unit {0}
IsReadFault _ = ⊥

-- the fault of a write is answered
abbrev pub IsWriteFault : Why → Type 0
IsWriteFault (WriteFault file) = Unit {0}
IsWriteFault _ = ⊥

-- Each count stays, unless its fault is answered.
pub record Uncounted (before after : FilesSeen) (why : Why) : Type 0 where
  pub reads : ¬ IsReadFault why → after.read_faults ≡ before.read_faults
  pub writes : ¬ IsWriteFault why → after.write_faults ≡ before.write_faults

-- The same of a command that writes no file: the count of writes stays in any case.
pub record UncountedReads (before after : FilesSeen) (why : Why) : Type 0 where
  pub reads : ¬ IsReadFault why → after.read_faults ≡ before.read_faults
  pub writes : after.write_faults ≡ before.write_faults
