-- Words that found no memory.
use Rattle.std.proofs.Common.{◌≡◌, refl, sym, ap, ◌∙◌, subst, inl, inr}
use Rattle.mt_answers.specs.Counted.{UncountedReads}
use Rattle.mt_answers.specs.Laws.Counts.{both_stay, unwritten}
use Rattle.mt_answers.specs.Laws.Written.{same_files}
use Rattle.mt_answers.specs.Put.{output_of}
use Rattle.mt_answers.specs.Seen.{FilesSeen, Seen, SameFiles}
use Rattle.mt_answers.specs.Status.{ends}
use Rattle.mt_answers.specs.declared.ended.Ended.{Ended}
use Rattle.mt_answers.specs.declared.ended.Why.TheVariants.{NoMemory, Usage}
use Rattle.mt_link.specs.Link.{no_memory as link_no_memory}
use Rattle.mt_link.specs.Laws.LinkLaws.{link_answers}
use Rattle.mt_words.specs.Jobs.{Job, Go, Build, Link, Run, Mean, Dump, Plan}
use Rattle.mt_mean.specs.Mean.{no_memory as mean_no_memory}
use Rattle.mt_mean.specs.Laws.Causes.{mean_answers}
use Rattle.mt_pipeline.specs.Answers.{Answers}
use Rattle.mt_pipeline.specs.Build.{no_memory as build_no_memory}
use Rattle.mt_pipeline.specs.Dump.{no_memory as dump_no_memory}
use Rattle.mt_pipeline.specs.Go.{no_memory as go_no_memory}
use Rattle.mt_pipeline.specs.Plan.{no_memory as plan_no_memory}
use Rattle.mt_pipeline.specs.RunFile.{no_memory as run_no_memory}
use Rattle.mt_pipeline.proofs.BuildCauses.{build_answers}
use Rattle.mt_pipeline.proofs.DumpCauses.{dump_answers}
use Rattle.mt_pipeline.proofs.GoCauses.{go_answers}
use Rattle.mt_pipeline.proofs.PlanCauses.{plan_answers}
use Rattle.mt_pipeline.proofs.RunCauses.{run_answers}

same : (files : FilesSeen) → SameFiles files files
same files = same_files files.told files.told refl

counts : (files : FilesSeen) → UncountedReads files files NoMemory
counts files = both_stay files files refl refl

-- a call that found no memory for the words answers so whatever they ask for, and has touched nothing
wanting : {S K : Type 0} (job : Job) (before : Seen S K) → Answers job before before (ends NoMemory)
wanting (Go files options) before =
    go_answers files options before before _ (go_no_memory refl) refl (same before.files) (counts before.files)
wanting (Build files out) before = record {
  writes = build_answers files out before.files before.files _ (build_no_memory (same before.files))
      (unwritten before.files before.files (counts before.files));
  silent = refl;
}
wanting (Link files out) before = record {
  writes = link_answers files out before.files before.files _ (link_no_memory (same before.files))
      (unwritten before.files before.files (counts before.files));
  silent = refl;
}
wanting (Run image options) before =
    run_answers image options before before _ (run_no_memory refl) (λ bytes n holds within is. refl) (same before.files)
    (counts before.files)
wanting (Mean files options) before =
    mean_answers files options before before _ (mean_no_memory refl) (same before.files) (counts before.files)
wanting (Dump file) before = record {
  dumps = dump_answers file before.files before.files (output_of before.streams) (output_of before.streams) _ (dump_no_memory refl)
      (same before.files) (counts before.files);
  source = refl;
  input = refl;
  input_faults = refl;
}
wanting (Plan file) before = record {
  plans = plan_answers file before.files before.files (output_of before.streams) (output_of before.streams) _ (plan_no_memory refl)
      (same before.files) (counts before.files);
  source = refl;
  input = refl;
  input_faults = refl;
}

pub wants_memory : {S K : Type 0} (job : Job) (before : Seen S K) (ended : Ended) → ended ≡ ends NoMemory → Answers job before before ended
wants_memory job before ended is = subst (λ e. Answers job before before e) (sym is) (wanting job before)

-- want of memory is no usage
pub memory_not_usage : (ended : Ended) → ended ≡ ends NoMemory → ended.why ≡ Usage → ⊥
memory_not_usage ended is e =
    let same : NoMemory ≡ Usage = sym (ap (λ (x : Ended). x.why) is) ∙ e in
    cc
