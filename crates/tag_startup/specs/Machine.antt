-- The run of an image from its start (this project's own): how it ends, what its output is then, and what of the input is left.
use Rattle.std.specs.Prelude.{◌≡◌, ◌≢◌, ℕ, List, Option}
use Rattle.mt_outside.specs.Told.{Rose}
use Rattle.a64_code.specs.Outside.{Outside}
use Rattle.a64_code.specs.State.{State}
use Rattle.a64_code.specs.declared.end.MachineEnd.{MachineEnd}
use Rattle.a64_code.specs.declared.end.MachineEnd.TheVariants.{InputFault, OutputFault}
use Rattle.elf_image.specs.Image.{Image}
use Rattle.mte_machine.specs.Answers.{CountsUpTo}
use Rattle.mte_machine.specs.Objects.{Objects, MayAnswer, MayHaveTaken, Fits, GoesOn, without_input, without_output}
use Rattle.mte_machine.specs.Run.{run, end_of, output_after, answers_after}
use Rattle.tag_startup.specs.Loaded.{loaded}
use Rattle.tag_startup.specs.Starts.{Starts}

-- an image, what its start is given (the random tags that are drawn in turn, and the bytes of the stack), and how many steps it may run
pub record Launch : Type 0 where
  pub image : Image
  pub choices : List ℕ
  pub stack : ℕ
  pub steps : ℕ

abbrev pub launch : Image → List ℕ → ℕ → ℕ → Launch
launch image choices stack steps = record { image = image; choices = choices; stack = stack; steps = steps }

-- how a run ends, with its output, and these answers of the source left
pub record Ending : Type 0 where
  pub end : MachineEnd
  pub output : List ℕ
  pub left : List (Option ℕ)

abbrev pub ending : MachineEnd → List ℕ → List (Option ℕ) → Ending
ending end output left = record { end = end; output = output; left = left }

-- the state at the start of an image that starts
abbrev pub first_state : (l : Launch) → Starts l.image → Outside → State
first_state l starts outside = loaded l.image starts.intervals l.choices l.stack outside

-- The image starts so, and its run of at most so many steps over this outside ends so. There is no run of an image that does not start.
pub record Machine (l : Launch) (outside : Outside) (e : Ending) : Type 0 where
  pub starts : Starts l.image
  pub ends : e.end ≡ end_of (run l.steps (first_state l starts outside))
  pub puts : e.output ≡ output_after (run l.steps (first_state l starts outside))
  pub leaves : e.left ≡ answers_after (run l.steps (first_state l starts outside))

-- the run over this outside ends so
pub record MachineEnds (l : Launch) (outside : Outside) (end : MachineEnd) : Type 0 where
  pub output : List ℕ
  pub left : List (Option ℕ)
  pub machine : Machine l outside (ending end output left)

-- What a run over a source and a sink answers, and what it leaves of them: there is an outside that the two may stand for, over
-- which the run is that of the image.
pub record RunsImage {S K : Type 0} (l : Launch) (before after : Objects S K) (end : MachineEnd) : Type 0 where
  pub outside : Outside
  pub fits : Fits before outside
  pub output : List ℕ
  pub left : List (Option ℕ)
  pub machine : Machine l outside (ending end output left)
  -- what the two tell afterwards
  pub goes_on : GoesOn before after
  pub left_told : MayAnswer after.input left
  pub output_told : MayHaveTaken after.output output
  -- a fault comes only where the count of that object rose
  pub input_fault : end ≡ InputFault → Rose before.read_faults after.read_faults
  pub output_fault : end ≡ OutputFault → Rose before.write_faults after.write_faults
  -- and the count of an object stays where the end is no fault of it
  pub counts : CountsUpTo before after end
  -- an object that the run asks for nothing stays as it is
  pub source_kept : (other : MachineEnd) → MachineEnds l (without_input outside) other → other ≢ InputFault → after.source ≡ before.source
  pub sink_kept : (other : MachineEnd) → MachineEnds l (without_output outside) other → other ≢ OutputFault → after.sink ≡ before.sink
