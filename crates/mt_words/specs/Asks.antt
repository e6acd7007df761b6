-- The table of the commands: how many files each has, which options it lists, and the job that it asks for. An option that a command does
-- not list is not given.
use Rattle.std.specs.Prelude.{◌≡◌, ◌≤◌, List, ℕ, [], ◌∷◌, Option, Some, None, codes, length}
use Rattle.mt_words.specs.Jobs.{RunOptions, MeanOptions, Job, Go, Build, Link, Run, Mean, Dump, Plan}
use Rattle.mt_words.specs.Numbers.{AreChoices, IsCount, IsStack, OrDefault, default_choices, default_count, default_stack}
use Rattle.mt_words.specs.Reading.{Given, Options}

abbrev pub none_given : Options
none_given = record { out = None; tags = None; steps = None; stack = None; work = None }

-- `--out` alone
abbrev pub only_out : List ℕ → Options
only_out out = record none_given { out = Some out }

-- `--tags`, `--steps` and `--stack` may be given
pub record AskRun (options : Options) (run : RunOptions) : Type 0 where
  pub choices : OrDefault AreChoices default_choices options.tags run.choices
  pub steps : OrDefault IsCount default_count options.steps run.steps
  pub stack : OrDefault IsStack default_stack options.stack run.stack
  pub no_out : options.out ≡ None
  pub no_work : options.work ≡ None

-- `--work` and `--stack` may be given
pub record AskMean (options : Options) (mean : MeanOptions) : Type 0 where
  pub work : OrDefault IsCount default_count options.work mean.work
  pub stack : OrDefault IsStack default_stack options.stack mean.stack
  pub no_out : options.out ≡ None
  pub no_tags : options.tags ≡ None
  pub no_steps : options.steps ≡ None

-- what is given asks for this job
pub data Asks (given : Given) : Job → Type 0 where
  go : (options : RunOptions) → given.command ≡ Some (codes "go") → 1 ≤ length given.files → AskRun given.options options →
      Asks given (Go given.files options)
  build : (out : List ℕ) → given.command ≡ Some (codes "build") → 1 ≤ length given.files → given.options ≡ only_out out →
      Asks given (Build given.files out)
  link : (out : List ℕ) → given.command ≡ Some (codes "link") → 1 ≤ length given.files → given.options ≡ only_out out →
      Asks given (Link given.files out)
  run : (image : List ℕ) (options : RunOptions) → given.command ≡ Some (codes "run") → given.files ≡ image ∷ [] →
      AskRun given.options options → Asks given (Run image options)
  mean : (options : MeanOptions) → given.command ≡ Some (codes "mean") → 1 ≤ length given.files → AskMean given.options options →
      Asks given (Mean given.files options)
  dump : (file : List ℕ) → given.command ≡ Some (codes "dump") → given.files ≡ file ∷ [] → given.options ≡ none_given →
      Asks given (Dump file)
  plan : (file : List ℕ) → given.command ≡ Some (codes "plan") → given.files ≡ file ∷ [] → given.options ≡ none_given →
      Asks given (Plan file)
