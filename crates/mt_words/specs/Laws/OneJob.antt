-- Words have one job at most: what is asked for is a function of what is given.
use Rattle.std.proofs.Common.{◌≡◌, ℕ, ◌*◌, List, [], ◌∷◌, Bool, true, false, Option, Some, None, sym, ap, ◌∙◌}
use Rattle.std.specs.Prelude.{codes, map}
use Rattle.std.specs.Char.{digit_value}
use Rattle.std.specs.Str.{bytes_eq}
use Rattle.std.specs.Str.Parse.{digits_value}
use Rattle.mt_words.specs.Asks.{AskRun, AskMean, Asks, go, build, link, run, mean, dump, plan}
use Rattle.mt_words.specs.HasJob.{HasJob}
use Rattle.mt_words.specs.Jobs.{RunOptions, MeanOptions, Job, Go, Build, Link, Run, Mean, Dump, Plan}
use Rattle.mt_words.specs.Numbers.{AreChoices, IsCount, IsStack, OrDefault, default_choices, default_count, default_stack}
use Rattle.mt_words.specs.Reading.{Given, Options, given_by}

-- ---- the values of options

choices_in : Option (List ℕ) → List ℕ
choices_in None = default_choices
choices_in (Some digits) = map digit_value digits

count_in : Option (List ℕ) → ℕ
count_in None = default_count
count_in (Some digits) = digits_value 10 digits

stack_in : Option (List ℕ) → ℕ
stack_in None = default_stack
stack_in (Some digits) = digits_value 10 digits * 1024

out_in : Option (List ℕ) → List ℕ
out_in None = []
out_in (Some name) = name

first_in : List (List ℕ) → List ℕ
first_in [] = []
first_in (file ∷ files) = file

choices_same : (given : Option (List ℕ)) (choices : List ℕ) → OrDefault AreChoices default_choices given choices → choices_in given
    ≡ choices
unfolding choices_in
choices_same None choices is = sym is
choices_same (Some digits) choices is = sym is.values

count_same : (given : Option (List ℕ)) (count : ℕ) → OrDefault IsCount default_count given count → count_in given ≡ count
unfolding count_in
count_same None count is = sym is
count_same (Some digits) count is = is.number.value

stack_same : (given : Option (List ℕ)) (stack : ℕ) → OrDefault IsStack default_stack given stack → stack_in given ≡ stack
unfolding stack_in
stack_same None stack is = sym is
stack_same (Some digits) stack is = ap (λ k. k * 1024) is.number.value ∙ sym is.bytes

abbrev run_in : Options → RunOptions
run_in options = record { choices = choices_in options.tags; steps = count_in options.steps; stack = stack_in options.stack }

abbrev mean_in : Options → MeanOptions
mean_in options = record { work = count_in options.work; stack = stack_in options.stack }

run_same : (options : Options) (asked : RunOptions) → AskRun options asked → run_in options ≡ asked
run_same options asked is = λ i. record {
  choices = choices_same options.tags asked.choices is.choices i;
  steps = count_same options.steps asked.steps is.steps i;
  stack = stack_same options.stack asked.stack is.stack i;
}

mean_same : (options : Options) (asked : MeanOptions) → AskMean options asked → mean_in options ≡ asked
mean_same options asked is = λ i. record {
  work = count_same options.work asked.work is.work i;
  stack = stack_same options.stack asked.stack is.stack i;
}

-- ---- the job

-- by whether the command is `go`, `build`, `link`, `run`, `mean`, `dump`, and else `plan`
job_in : Bool → Bool → Bool → Bool → Bool → Bool → Given → Job
job_in true b l r m d given = Go given.files (run_in given.options)
job_in false true l r m d given = Build given.files (out_in given.options.out)
job_in false false true r m d given = Link given.files (out_in given.options.out)
job_in false false false true m d given = Run (first_in given.files) (run_in given.options)
job_in false false false false true d given = Mean given.files (mean_in given.options)
job_in false false false false false true given = Dump (first_in given.files)
job_in false false false false false false given = Plan (first_in given.files)

asked : Given → Option (List ℕ) → Option Job
asked given None = None
asked given (Some name) =
    Some (job_in (bytes_eq name (codes "go")) (bytes_eq name (codes "build")) (bytes_eq name (codes "link"))
    (bytes_eq name (codes "run")) (bytes_eq name (codes "mean")) (bytes_eq name (codes "dump")) given)

asks : (given : Given) (job : Job) → Asks given job → asked given given.command ≡ Some job
unfolding asked job_in out_in first_in
asks given _ (go options name some is) = ap (asked given) name ∙ ap (λ o. Some (Go given.files o)) (run_same given.options options is)
asks given _ (build out name some is) = ap (asked given) name ∙ ap (λ o. Some (Build given.files (out_in o.out))) is
asks given _ (link out name some is) = ap (asked given) name ∙ ap (λ o. Some (Link given.files (out_in o.out))) is
asks given _ (run image options name one is) =
    ap (asked given) name ∙ ap (λ files. Some (Run (first_in files) (run_in given.options))) one
    ∙ ap (λ o. Some (Run image o)) (run_same given.options options is)
asks given _ (mean options name some is) = ap (asked given) name ∙ ap (λ o. Some (Mean given.files o)) (mean_same given.options options is)
asks given _ (dump file name one none) = ap (asked given) name ∙ ap (λ files. Some (Dump (first_in files))) one
asks given _ (plan file name one none) = ap (asked given) name ∙ ap (λ files. Some (Plan (first_in files))) one

same_some : (job other : Job) → ◌≡◌ {A = Option Job} (Some job) (Some other) → job ≡ other
same_some job other e = cc

pub one_job : (words : List (List ℕ)) (job other : Job) → HasJob words job → HasJob words other → job ≡ other
one_job words job other first second =
    same_some job other (sym (asks (given_by words) job first.asks) ∙ asks (given_by words) other second.asks)
