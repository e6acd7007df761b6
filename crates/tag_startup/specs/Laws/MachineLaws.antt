-- The run of an image that starts, from that of the machine that it starts in.
use Rattle.std.proofs.Common.{◌≡◌, ℕ, List, refl, ◌∙◌, ap, subst}
use mathlib.Core.Path.{fun_ext}
use Rattle.a64_code.specs.Outside.{Outside}
use Rattle.a64_code.specs.State.{State}
use Rattle.a64_code.specs.declared.end.MachineEnd.{MachineEnd}
use Rattle.elf_image.specs.Image.{Image}
use Rattle.mte_machine.specs.Answers.{RunAnswers}
use Rattle.mte_machine.specs.Objects.{Objects}
use Rattle.mte_machine.specs.Run.{run, end_of}
use Rattle.tag_startup.specs.Laws.OneStart.{one_start}
use Rattle.tag_startup.specs.Loaded.{loaded}
use Rattle.tag_startup.specs.Machine.{MachineEnds, RunsImage, first_state, launch}
use Rattle.tag_startup.specs.Starts.{Starts}

-- the run of an image that starts
pub machine_of : (image : Image) (choices : List ℕ) (stack n : ℕ) (outside : Outside) (starts : Starts image) →
    MachineEnds (launch image choices stack n) outside (end_of (run n (loaded image starts.intervals choices stack outside)))
machine_of image choices stack n outside starts =
    record { output = _; left = _; machine = record { starts = starts; ends = refl; puts = refl; leaves = refl } }

-- however an image starts, its run ends so
same_end : (image : Image) (choices : List ℕ) (stack n : ℕ) (outside : Outside) (one other : Starts image) →
    end_of (run n (first_state (launch image choices stack n) one outside))
    ≡ end_of (run n (loaded image other.intervals choices stack outside))
same_end image choices stack n outside one other =
    ap (λ intervals. end_of (run n (loaded image intervals choices stack outside))) (one_start image one other)

-- the end of a run is one
pub one_end : (image : Image) (choices : List ℕ) (stack n : ℕ) (outside : Outside) (end : MachineEnd) (starts : Starts image) →
    MachineEnds (launch image choices stack n) outside end → end ≡ end_of (run n (loaded image starts.intervals choices stack outside))
one_end image choices stack n outside end starts ends =
    ends.machine.ends ∙ same_end image choices stack n outside ends.machine.starts starts

-- a machine that goes from the image's first state runs the image
pub runs_image : {S K : Type 0} (image : Image) (choices : List ℕ) (stack n : ℕ) (left : Outside → State) (before after : Objects S K)
    (end : MachineEnd) (starts : Starts image) →
    RunAnswers n (loaded image starts.intervals choices stack) left before after end →
    RunsImage (launch image choices stack n) before after end
runs_image image choices stack n left before after end starts answers = record {
  outside = answers.outside;
  fits = answers.fits;
  output = _;
  left = _;
  machine = record { starts = starts; ends = answers.end; puts = refl; leaves = refl };
  goes_on = answers.goes_on;
  left_told = answers.input;
  output_told = answers.output;
  input_fault = answers.input_fault;
  output_fault = answers.output_fault;
  counts = answers.counts;
  source_kept = λ other ends differ. answers.source_kept (λ is. differ (one_end image choices stack n _ other starts ends ∙ is));
  sink_kept = λ other ends differ. answers.sink_kept (λ is. differ (one_end image choices stack n _ other starts ends ∙ is));
}

-- the same of a machine whose state is known to be that one
pub runs_started : {S K : Type 0} (image : Image) (choices : List ℕ) (stack n : ℕ) (old left : Outside → State)
    (before after : Objects S K) (end : MachineEnd) (starts : Starts image) →
    ((w : Outside) → old w ≡ loaded image starts.intervals choices stack w) → RunAnswers n old left before after end →
    RunsImage (launch image choices stack n) before after end
runs_started image choices stack n old left before after end starts same answers =
    runs_image image choices stack n left before after end starts
    (subst (λ from. RunAnswers n from left before after end) (fun_ext same) answers)
