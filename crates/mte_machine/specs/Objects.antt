-- A source and a sink as the machine meets them, and the outsides of its state that they may stand for (this project's own).
use Rattle.std.specs.Prelude.{◌≡◌, ◌≤◌, ℕ, List, map, Option, Some, IfSome}
use Rattle.mt_outside.specs.Told.{WhereTold}
use Rattle.mt_outside.specs.declared.source.Source.{Ghosts as SourceGhosts}
use Rattle.mt_outside.specs.declared.sink.Sink.{Ghosts as SinkGhosts}
use Rattle.a64_code.specs.Outside.{Outside}

-- a source and a sink at one time: the bytes left and the bytes taken, as far as they tell, and the counts of their faults
pub record Objects (S K : Type 0) : Type 0 where
  pub source : S
  pub sink : K
  pub input : Option (List ℕ)
  pub output : Option (List ℕ)
  pub read_faults : ℕ
  pub write_faults : ℕ

abbrev pub objects : {S K : Type 0} → SourceGhosts S → SinkGhosts K → S → K → Objects S K
objects source_shows sink_shows source sink = record {
  source = source;
  sink = sink;
  input = source_shows.told source;
  output = sink_shows.told sink;
  read_faults = source_shows.faults source;
  write_faults = sink_shows.faults sink;
}

-- A source with these bytes left gives these answers: the bytes, and then its end. One that does not tell may give any.
abbrev pub MayAnswer : Option (List ℕ) → List (Option ℕ) → Type 0
MayAnswer input answers = IfSome input (λ bytes. answers ≡ map Some bytes)

-- A sink that has taken these bytes has taken them. One that does not tell may have taken any.
abbrev pub MayHaveTaken : Option (List ℕ) → List ℕ → Type 0
MayHaveTaken output taken = IfSome output (λ bytes. taken ≡ bytes)

-- the objects may stand for this outside
pub record Fits {S K : Type 0} (around : Objects S K) (outside : Outside) : Type 0 where
  pub input : MayAnswer around.input outside.answers
  pub output : MayHaveTaken around.output outside.output

-- A call goes from these objects to those: what tells goes on telling, what does not never begins to, and no count falls.
pub record GoesOn {S K : Type 0} (before after : Objects S K) : Type 0 where
  pub input : WhereTold before.input after.input (λ _ _. Unit {0})
  pub output : WhereTold before.output after.output (λ _ _. Unit {0})
  pub read_faults : before.read_faults ≤ after.read_faults
  pub write_faults : before.write_faults ≤ after.write_faults

-- the outside whose first `next`, or whose first put, fails
abbrev pub without_input : Outside → Outside
without_input outside = record outside { next_failure = Some 0 }

abbrev pub without_output : Outside → Outside
without_output outside = record outside { put_failure = Some 0 }
