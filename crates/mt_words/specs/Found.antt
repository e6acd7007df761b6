-- What the parts of `job_of` find: what is asked for, or that there is none.
use Rattle.std.specs.Prelude.{◌≡◌, ◌≤◌, ℕ, List, [], ◌∷◌, Option, Some, None, Bool, IfSome, IfNone, ◌||◌, is_some, not}
use Rattle.std.specs.Borrow.{Bor}
use Rattle.mt_words.specs.declared.given.Options.{Options as OptionsValue}
use Rattle.mt_words.specs.declared.job.Job.{Job as JobValue}
use Rattle.mt_words.specs.declared.job.RunOptions.{RunOptions as RunValue}
use Rattle.mt_words.specs.declared.job.MeanOptions.{MeanOptions as MeanValue}
use Rattle.mt_words.specs.Jobs.{Job, MeanOptions, RunOptions}
use Rattle.mt_words.specs.Numbers.{IsCount, OrDefault, default_count}
use Rattle.mt_words.specs.Reading.{Given, Options}
use Rattle.mt_words.specs.Asks.{AskMean, AskRun, Asks, none_given, only_out}
use Rattle.mt_words.specs.Model.{job_is, mean_options, run_options, texts}
use Rattle.mt_words.specs.Held.{options_are}

pub record Finds (given : Given) (found : Option JobValue) : Type 0 where
  pub some : IfSome found (λ job. Asks given (job_is job))
  pub none : IfNone found ((job : Job) → ¬ Asks given job)

pub record FindsRun (options : Options) (found : Option RunValue) : Type 0 where
  pub some : IfSome found (λ run. AskRun options (run_options run))
  pub none : IfNone found ((run : RunOptions) → ¬ AskRun options run)

pub record FindsMean (options : Options) (found : Option MeanValue) : Type 0 where
  pub some : IfSome found (λ mean. AskMean options (mean_options mean))
  pub none : IfNone found ((mean : MeanOptions) → ¬ AskMean options mean)

-- no other option than a run's is given, and the run makes at most so many steps
pub record MayRun (options : Options) (count : ℕ) : Type 0 where
  pub no_out : options.out ≡ None
  pub no_work : options.work ≡ None
  pub steps : OrDefault IsCount default_count options.steps count

-- one file, and no option
pub record FindsFile (files : List (List ℕ)) (options : Options) (found : Option (Bor (List ℕ))) : Type 0 where
  pub some : IfSome found (λ file. (files ≡ file.now ∷ []) × (options ≡ none_given))
  pub none : IfNone found ((file : List ℕ) → files ≡ file ∷ [] → ¬ (options ≡ none_given))

-- one file
pub record FindsOne (files : List (List ℕ)) (found : Option (Bor (List ℕ))) : Type 0 where
  pub some : IfSome found (λ file. files ≡ file.now ∷ [])
  pub none : IfNone found ((file : List ℕ) → ¬ (files ≡ file ∷ []))

-- a file at least, and `--out` alone
pub record FindsOut (files : ℕ) (options : Options) (found : Option (Bor (List ℕ))) : Type 0 where
  pub some : IfSome found (λ out. (1 ≤ files) × (options ≡ only_out out.now))
  pub none : IfNone found ((out : List ℕ) → 1 ≤ files → ¬ (options ≡ only_out out))

-- an option of a run or a meaning is given
abbrev pub is_any_given : OptionsValue → Bool
is_any_given options = is_some options.tags || (is_some options.steps || (is_some options.stack || is_some options.work))

-- what is given with a command's name
abbrev pub given_as : List ℕ → List (Bor (List ℕ)) → OptionsValue → Given
given_as command files options = record { command = Some command; files = texts files; options = options_are options }

abbrev pub given_with : List ℕ → List ℕ → OptionsValue → Given
given_with command file options = record { command = Some command; files = file ∷ []; options = options_are options }
