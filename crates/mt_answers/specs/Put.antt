-- What is put on the output, and what a put leaves of it (this project's own).
use Rattle.std.specs.Prelude.{◌≡◌, ℕ, List, ◌++◌, Option}
use Rattle.mt_outside.specs.Told.{Rose, WhereTold}
use Rattle.mt_outside.specs.Sink.{PutGives}
use Rattle.mt_outside.specs.declared.sink.PutAnswer.TheVariants.{Failed}
use Rattle.mt_outside.specs.declared.sink.Sink.{Ghosts as SinkGhosts}
use Rattle.mte_machine.specs.Objects.{Objects}
use Rattle.mt_answers.specs.Seen.{FilesSeen}
use Rattle.mt_answers.specs.declared.answer.Answer.{Answer}
use Rattle.mt_answers.specs.declared.answer.Answer.TheVariants as answer

-- the output, with the bytes that it tells and the count of its faults
pub record Output (K : Type 0) : Type 0 where
  pub sink : K
  pub told : Option (List ℕ)
  pub faults : ℕ

abbrev pub output_seen : {K : Type 0} → SinkGhosts K → K → Output K
output_seen show sink = record { sink = sink; told = show.told sink; faults = show.faults sink }

-- the text was put, all of it, and no fault was counted
pub record PutsAll {K : Type 0} (text : List ℕ) (before after : Output K) : Type 0 where
  pub content : WhereTold before.told after.told (λ old new. new ≡ old ++ text)
  pub uncounted : after.faults ≡ before.faults

-- the put failed: a fault was counted, and what was put begins the text
pub record PutsPart {K : Type 0} (text : List ℕ) (before after : Output K) : Type 0 where
  pub content : WhereTold before.told after.told (PutGives text Failed)
  pub failed : Rose before.faults after.faults

-- the files and the output
pub record FilesAndOutput (K : Type 0) : Type 0 where
  pub files : FilesSeen
  pub output : Output K

abbrev pub with_output : {K : Type 0} → FilesSeen → Output K → FilesAndOutput K
with_output files output = record { files = files; output = output }

abbrev pub output_of : {S K : Type 0} → Objects S K → Output K
output_of streams = record { sink = streams.sink; told = streams.output; faults = streams.write_faults }

-- the answer to a put, by what it leaves
pub data IsPut {K : Type 0} (text : List ℕ) (out now : Output K) : Answer → Type 0 where
  all : PutsAll text out now → IsPut text out now answer.Done
  part : PutsPart text out now → IsPut text out now answer.OutputFault
