-- What the driver answers to each job, and what it leaves outside (this project's own).
use Rattle.mt_answers.specs.Seen.{Seen}
use Rattle.mt_answers.specs.declared.ended.Ended.{Ended}
use Rattle.mt_link.specs.Link.{LinkAnswers}
use Rattle.mt_mean.specs.Mean.{MeanAnswers}
use Rattle.mt_words.specs.Jobs.{Job, Go, Build, Link, Run, Mean, Dump, Plan}
use Rattle.mt_pipeline.specs.Build.{BuildAnswers}
use Rattle.mt_pipeline.specs.Dump.{DumpAnswers}
use Rattle.mt_pipeline.specs.Go.{GoAnswers}
use Rattle.mt_pipeline.specs.Plan.{PlanAnswers}
use Rattle.mt_pipeline.specs.RunFile.{RunAnswers}

abbrev pub Answers : {S K : Type 0} → Job → Seen S K → Seen S K → Ended → Type 0
Answers (Go files options) = GoAnswers files options
Answers (Build files out) = BuildAnswers files out
Answers (Link files out) = LinkAnswers files out
Answers (Run image options) = RunAnswers image options
Answers (Mean files options) = MeanAnswers files options
Answers (Dump file) = DumpAnswers file
Answers (Plan file) = PlanAnswers file
