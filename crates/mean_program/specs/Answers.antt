-- What `mean` answers, by what the program means.
use Rattle.std.specs.Prelude.{◌≡◌, ℕ, List, ◌++◌, Option, Some, Result, Ok, Err}
use Rattle.block_meaning.specs.Meaning.{End, Done, Stopped, Outcome}
use Rattle.block_meaning.specs.Running.{Program, Stop, Divide, Deep, More, IsUndefined}
use Rattle.c_type_base.specs.declared.typed.Typed.{Typed}
use Rattle.mean_start.specs.declared.file.FrameSizes.{FrameSizes}
use Rattle.mean_start.specs.Files.{frames_in}
use Rattle.mean_program.specs.declared.end.MeanEnd.{MeanEnd}
use Rattle.mean_program.specs.declared.end.MeanEnd.TheVariants as end
use Rattle.mean_program.specs.declared.end.MeanFault.{MeanFault}

-- the program of these files, frames and bytes of the stack
abbrev pub program_of : List Typed → FrameSizes → ℕ → Program
program_of units frames stack = record { units = units; frames = frames_in frames; stack = stack }

abbrev pub StopIs : MeanEnd → Stop → Type 0
StopIs end.Divide Divide = Unit {0}
StopIs end.Deep Deep = Unit {0}
StopIs end.More More = Unit {0}
StopIs (end.Undefined why file span) (IsUndefined u) = (why ≡ u.why) × (file ≡ u.file) × (span ≡ u.span)
StopIs _ _ = ⊥

-- an end is the definition's
abbrev pub EndIs : MeanEnd → End → Type 0
EndIs (end.Done status) (Done n) = status ≡ n
EndIs e (Stopped why) = StopIs e why
EndIs _ _ = ⊥

-- one list begins with another
pub record Begins (part whole : List ℕ) : Type 0 where
  pub rest : List ℕ
  pub is : whole ≡ part ++ rest

-- what is left of the input, and what was put after what the sink had taken before
pub record Leaves (before : List ℕ) (o : Outcome) (input output : Option (List ℕ)) : Type 0 where
  pub input_left : input ≡ Some o.rest
  pub put : output ≡ Some (before ++ o.output)

-- after a fault, what was put is a prefix of the program's output
pub record PutPart (before : List ℕ) (o : Outcome) (output : Option (List ℕ)) : Type 0 where
  pub part : List ℕ
  pub put : output ≡ Some (before ++ part)
  pub begins : Begins part o.output

-- over what the source has left and the sink has taken at the end
abbrev pub MeanGives : List ℕ → Outcome → Result MeanEnd MeanFault → Option (List ℕ) → Option (List ℕ) → Type 0
MeanGives before o (Ok e) input output = EndIs e o.end × Leaves before o input output
MeanGives before o (Err fault) input output = PutPart before o output
