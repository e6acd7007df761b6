-- The job that a value of the code's type stands for.
use Rattle.std.specs.Prelude.{ℕ, List, map}
use Rattle.std.specs.Borrow.{Bor}
use Rattle.mt_words.specs.declared.job.Job.{Job as JobValue}
use Rattle.mt_words.specs.declared.job.Job.TheVariants as value
use Rattle.mt_words.specs.declared.job.RunOptions.{RunOptions as RunValue}
use Rattle.mt_words.specs.declared.job.MeanOptions.{MeanOptions as MeanValue}
use Rattle.mt_words.specs.Jobs.{Job, Go, Build, Link, Run, Mean, Dump, Plan, RunOptions, MeanOptions}

-- the texts behind references
abbrev pub texts : List (Bor (List ℕ)) → List (List ℕ)
texts = map (λ text. text.now)

abbrev pub run_options : RunValue → RunOptions
run_options options = record { choices = options.choices.items; steps = options.steps; stack = options.stack }

abbrev pub mean_options : MeanValue → MeanOptions
mean_options options = record { work = options.work; stack = options.stack }

abbrev pub job_is : JobValue → Job
job_is (value.Go files options) = Go (texts files.items) (run_options options)
job_is (value.Build files out) = Build (texts files.items) out.now
job_is (value.Link files out) = Link (texts files.items) out.now
job_is (value.Run image options) = Run image.now (run_options options)
job_is (value.Mean files options) = Mean (texts files.items) (mean_options options)
job_is (value.Dump file) = Dump file.now
job_is (value.Plan file) = Plan file.now
