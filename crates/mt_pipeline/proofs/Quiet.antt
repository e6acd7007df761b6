-- A run of an image that exits always leaves the input and the output alone.
use Rattle.std.proofs.Common.{◌≡◌, ◌≢◌, ◌≤◌, ◌⊎◌, ℕ, ◌%◌, List, sym, ◌∙◌, subst, inl, inr}
use Rattle.a64_code.specs.declared.end.MachineEnd.{MachineEnd}
use Rattle.a64_code.specs.declared.end.MachineEnd.TheVariants.{Exited, OutOfSteps, InputFault, OutputFault}
use Rattle.elf_image.specs.Constant.{constant_image, int_max}
use Rattle.elf_image.specs.Image.{Image}
use Rattle.elf_image.specs.ImageFile.{ImageFile}
use Rattle.elf_image.specs.Ranges.{IsFileOf}
use Rattle.elf_image.specs.Laws.ConstantLaws.{constant_is_file}
use Rattle.elf_image.specs.Laws.OneImage.{one_image}
use Rattle.mte_machine.specs.Objects.{Objects, objects, without_input, without_output}
use Rattle.mt_outside.specs.declared.source.Source.{Ghosts as SourceGhosts}
use Rattle.mt_outside.specs.declared.sink.Sink.{Ghosts as SinkGhosts}
use Rattle.tag_startup.specs.Machine.{RunsImage, launch, ending}
use Rattle.mt_pipeline.specs.Agrees.{ExitsAlways}
use Rattle.mt_pipeline.specs.Laws.ConstantRun.{constant_exits}

no_input_fault : (end : MachineEnd) (status : ℕ) → (end ≡ Exited status) ⊎ (end ≡ OutOfSteps) → end ≢ InputFault
no_input_fault end status (inl exits) = λ is. let e : Exited status ≡ InputFault = sym exits ∙ is in cc
no_input_fault end status (inr over) = λ is. let e : OutOfSteps ≡ InputFault = sym over ∙ is in cc

no_output_fault : (end : MachineEnd) (status : ℕ) → (end ≡ Exited status) ⊎ (end ≡ OutOfSteps) → end ≢ OutputFault
no_output_fault end status (inl exits) = λ is. let e : Exited status ≡ OutputFault = sym exits ∙ is in cc
no_output_fault end status (inr over) = λ is. let e : OutOfSteps ≡ OutputFault = sym over ∙ is in cc

pub record IsQuiet {S K : Type 0} (before after : Objects S K) : Type 0 where
  pub source : after.source ≡ before.source
  pub sink : after.sink ≡ before.sink

pub exits_quiet : {S K : Type 0} (image : Image) (status : ℕ) (choices : List ℕ) (stack steps : ℕ) (before after : Objects S K)
    (end : MachineEnd) → ExitsAlways image status →
    RunsImage (launch image choices stack steps) before after end → IsQuiet before after
exits_quiet image status choices stack steps before after end always runs =
    let deaf = always.starts choices stack steps (without_input runs.outside) in
    let dumb = always.starts choices stack steps (without_output runs.outside) in
    record {
      source = runs.source_kept deaf.0 deaf.1
          (no_input_fault deaf.0 status (always.exits choices stack steps
          (without_input runs.outside) (ending deaf.0 deaf.1.output deaf.1.left) deaf.1.machine).soon);
      sink = runs.sink_kept dumb.0 dumb.1
          (no_output_fault dumb.0 status (always.exits choices stack steps
          (without_output runs.outside) (ending dumb.0 dumb.1.output dumb.1.left) dumb.1.machine).soon);
    }

-- a source and a sink that are the same are seen the same
pub same_objects : {S K : Type 0} (source_shows : SourceGhosts S) (sink_shows : SinkGhosts K) (s t : S) (k l : K) → t ≡ s → l ≡ k →
    objects source_shows sink_shows t l ≡ objects source_shows sink_shows s k
same_objects source_shows sink_shows s t k l source sink = λ i. objects source_shows sink_shows (source i) (sink i)

-- the run of a file of a constant's image leaves the two alone
pub file_quiet : {S K : Type 0} (image : Image) (bytes : List ℕ) (n : ℕ) (choices : List ℕ) (stack steps : ℕ) (before after : Objects S K)
    (end : MachineEnd) → IsFileOf image bytes → n ≤ int_max → ImageFile (constant_image n) bytes →
    RunsImage (launch image choices stack steps) before after end → IsQuiet before after
file_quiet image bytes n choices stack steps before after end is within file_is runs =
    let same : image ≡ constant_image n = one_image image (constant_image n) bytes is (constant_is_file n bytes within file_is) in
    exits_quiet image (n % 256) choices stack steps before after end
    (subst (λ i. ExitsAlways i (n % 256)) (sym same) (constant_exits n within)) runs
