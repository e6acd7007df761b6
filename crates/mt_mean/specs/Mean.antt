-- What the command `mean` answers: how the program of its sources ends by what they mean, or another answer with its cause (this
-- project's own).
use Rattle.std.specs.Prelude.{◌≡◌, ◌⊎◌, ℕ, List, Some, Result, Ok, Err}
use Rattle.block_meaning.specs.Meaning.{Outcome}
use Rattle.mean_program.specs.Answers.{MeanGives}
use Rattle.mean_program.specs.declared.end.MeanEnd.{MeanEnd}
use Rattle.mean_program.specs.declared.end.MeanEnd.TheVariants as end
use Rattle.mean_program.specs.declared.end.MeanFault.{MeanFault}
use Rattle.mean_program.specs.declared.end.MeanFault.TheVariants as fault
use Rattle.mean_texts.specs.Texts.{AreTogether, TextsMean}
use Rattle.mt_answers.specs.Counted.{UncountedReads}
use Rattle.mt_answers.specs.Each.{Hold}
use Rattle.mt_answers.specs.Seen.{Seen, IsTold, ReadFailed, SameFiles, IsSilent}
use Rattle.mt_answers.specs.Status.{ends, ended_so}
use Rattle.mt_answers.specs.declared.ended.Ended.{Ended}
use Rattle.mt_answers.specs.declared.ended.Why.{Why}
use Rattle.mt_answers.specs.declared.ended.Why.TheVariants.{Exited, Divide, StackFault, OutOfSteps, UndefinedStep}
use Rattle.mt_answers.specs.declared.ended.Why.TheVariants.{InputFault, OutputFault, NoMemory, Refused, NoFile, Link, ReadFault}
use Rattle.mt_mean.specs.Sources.{MeansNothing}
use Rattle.mt_outside.specs.Told.{Rose}
use Rattle.mt_words.specs.Jobs.{MeanOptions}
use Rattle.mte_machine.specs.Objects.{Objects}

-- what is answered where a program's run ends so, or fails: calls that are too deep are told as a stack's fault, and work that is over
-- as steps that are
abbrev pub ended_as : Result MeanEnd MeanFault → Ended
ended_as (Ok (end.Done status)) = ended_so status Exited
ended_as (Ok end.Divide) = ends Divide
ended_as (Ok end.Deep) = ends StackFault
ended_as (Ok end.More) = ends OutOfSteps
ended_as (Ok (end.Undefined why file span)) = ends (UndefinedStep (record { reason = why }) file span.start)
ended_as (Err fault.InputFault) = ends InputFault
ended_as (Err fault.OutputFault) = ends OutputFault
ended_as (Err fault.NoMemory) = ends NoMemory

-- the count of what failed rose
abbrev pub IsCounted : {S K : Type 0} → Result MeanEnd MeanFault → Objects S K → Objects S K → Type 0
IsCounted (Err fault.InputFault) before after = Rose before.read_faults after.read_faults
IsCounted (Err fault.OutputFault) before after = Rose before.write_faults after.write_faults
IsCounted _ before after = Unit {0}

-- The program of these texts ran to this end over the input and the output: to what the texts mean, or it failed when a part of that
-- was put.
pub record RunsAs {S K : Type 0} (texts : List (List ℕ)) (options : MeanOptions) (before after : Objects S K)
    (run : Result MeanEnd MeanFault) : Type 0 where
  pub gives : (input taken : List ℕ) → before.input ≡ Some input → before.output ≡ Some taken → (o : Outcome) →
      TextsMean texts options.stack input options.work o → MeanGives taken o run after.input after.output
  pub counted : IsCounted run before after

-- This is answered to what texts mean: how their program ended, what is left of the input and what was put after what the output had
-- taken before; or that memory was wanting, or the input or the output failed, after a part of what they put.
pub record AnswersTo {S K : Type 0} (taken : List ℕ) (o : Outcome) (after : Objects S K) (ended : Ended) : Type 0 where
  pub run : Result MeanEnd MeanFault
  pub gives : MeanGives taken o run after.input after.output
  pub told : ended ≡ ended_as run

-- no program was run, and memory was not wanting
abbrev pub ComesBeforeMeaning : Why → Type 0
ComesBeforeMeaning (Refused file number place) = Unit {0}
ComesBeforeMeaning (NoFile file) = Unit {0}
ComesBeforeMeaning (Link number) = Unit {0}
ComesBeforeMeaning (ReadFault file) = Unit {0}
ComesBeforeMeaning _ = ⊥

-- The answers, each by its cause. Memory may be wanting before the program runs, and while it does.
pub data CauseOfMean {S K : Type 0} (files : List (List ℕ)) (options : MeanOptions) (before after : Seen S K) : Ended → Type 0 where
  -- the files hold texts that have a meaning together, and their program ran
  ran : (texts : List (List ℕ)) (run : Result MeanEnd MeanFault) → Hold before.files files texts → AreTogether texts →
      RunsAs texts options before.streams after.streams run → CauseOfMean files options before after (ended_as run)
  -- or they mean nothing
  nothing : {why : Why} → MeansNothing files before.files after.files why → IsSilent before after →
      CauseOfMean files options before after (ends why)
  no_memory : IsSilent before after → CauseOfMean files options before after (ends NoMemory)

-- What `mean` of files answers, and what it leaves.
pub record MeanAnswers {S K : Type 0} (names : List (List ℕ)) (options : MeanOptions) (before after : Seen S K) (ended : Ended) : Type 0
  where
    -- Where the files hold texts that mean this with the input, the stack and the work, and no read of a file failed, it is answered.
    pub means : (texts : List (List ℕ)) (input taken : List ℕ) (o : Outcome) → IsTold before.files → Hold before.files names texts →
        before.streams.input ≡ Some input → before.streams.output ≡ Some taken → TextsMean texts options.stack input options.work o →
        ¬ ReadFailed before.files after.files → AnswersTo taken o after.streams ended
    -- Where they mean nothing together and no read failed, that is answered, or memory is wanting.
    pub refuses : (why : Why) → IsTold before.files → MeansNothing names before.files after.files why →
        ¬ ReadFailed before.files after.files → (ended ≡ ends why) ⊎ (ended ≡ ends NoMemory)
    -- Each answer comes only by its cause.
    pub cause : CauseOfMean names options before after ended
    -- Nothing was taken or put where no program was run.
    pub silent : ComesBeforeMeaning ended.why → IsSilent before after
    -- No file changes.
    pub files : SameFiles before.files after.files
    -- No fault of a file is counted but the one that is answered, and none of a write.
    pub counts : UncountedReads before.files after.files ended.why
