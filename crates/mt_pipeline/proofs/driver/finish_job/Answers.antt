use Rattle.std.proofs.Common.{◌≡◌, ℕ, List, Bor, refl, sym, subst}
use Rattle.mte_machine.specs.Objects.{objects}
use Rattle.mt_answers.specs.Answer.{ended_of}
use Rattle.mt_answers.specs.Each.{names_of}
use Rattle.mt_answers.specs.Seen.{seen, files_seen}
use Rattle.mt_answers.specs.declared.ended.Ended.{Ended}
use Rattle.mt_answers.specs.declared.ended.Why.TheVariants.{Usage}
use Rattle.mt_link.specs.Link.{LinkAnswers, WritesLinked}
use Rattle.mt_link.specs.Laws.LinkLaws.{link_not_usage}
use Rattle.mt_mean.specs.Mean.{MeanAnswers}
use Rattle.mt_mean.specs.Laws.Causes.{mean_not_usage}
use Rattle.mt_words.specs.Jobs.{Dump, Plan}
use Rattle.mt_words.specs.Laws.Formed.{IsFormed}
use Rattle.mt_words.specs.Model.{job_is, mean_options, run_options}
use Rattle.mt_words.specs.declared.job.Job.{Job as JobValue}
use Rattle.mt_pipeline.specs.Answers.{Answers}
use Rattle.mt_pipeline.specs.Build.{BuildAnswers, WritesBuilt}
use Rattle.mt_pipeline.specs.Go.{GoAnswers}
use Rattle.mt_pipeline.specs.RunFile.{RunAnswers}
use Rattle.mt_pipeline.proofs.BuildCauses.{build_not_usage}
use Rattle.mt_pipeline.proofs.DumpCauses.{dump_not_usage}
use Rattle.mt_pipeline.proofs.GoCauses.{go_not_usage}
use Rattle.mt_pipeline.proofs.PlanCauses.{plan_not_usage}
use Rattle.mt_pipeline.proofs.RunCauses.{run_not_usage}
use Rattle.mt_pipeline.proofs.driver.finish_job.Goals as goal

pub go-requires : goal.go-requires
go-requires g c = (subst (λ (j : JobValue). IsFormed (job_is j)) c.in-Go.is c.requires).1

pub run_file-requires : goal.run_file-requires
run_file-requires g c = subst (λ (j : JobValue). IsFormed (job_is j)) c.in-Run.is c.requires

pub returns-in-Go-clause-answers : goal.returns-in-Go-clause-answers
returns-in-Go-clause-answers g c =
    let before = seen (files_seen g.F.Files c.args.files.now) (objects g.S.Source g.K.Sink c.args.input.now c.args.out.now) in
    let after = seen (files_seen g.F.Files c.go.new.files) (objects g.S.Source g.K.Sink c.go.new.input c.go.new.out) in
    let options = run_options c.in-Go.options in
    let done = subst (λ (xs : List (Bor (List ℕ))). GoAnswers (names_of xs) options before after (ended_of c.go.result))
    c.deref-in-Go.ensures.value c.go.ensures in
    subst (λ (j : JobValue). Answers (job_is j) before after c.finish.result) (sym c.in-Go.is)
    (subst (λ (e : Ended). GoAnswers (names_of c.in-Go.names.items) options before after e) (sym c.finish.ensures.ended) done)

pub returns-in-Build-clause-answers : goal.returns-in-Build-clause-answers
returns-in-Build-clause-answers g c =
    let before = seen (files_seen g.F.Files c.args.files.now) (objects g.S.Source g.K.Sink c.args.input.now c.args.out.now) in
    let after = seen (files_seen g.F.Files c.write_built.new.files) (objects g.S.Source g.K.Sink c.args.input.now c.args.out.now) in
    let image = c.in-Build.image.now in
    let done = subst
    (λ (xs : List (Bor (List ℕ))). WritesBuilt (names_of xs) image before.files after.files (ended_of c.write_built.result))
    c.deref-in-Build-2.ensures.value c.write_built.ensures in
    subst (λ (j : JobValue). Answers (job_is j) before after c.finish_image.result) (sym c.in-Build.is)
    (subst (λ (e : Ended). BuildAnswers (names_of c.in-Build.names.items) image before after e) (sym c.finish_image.ensures.ended)
    (record { writes = done; silent = refl }))

pub returns-in-Link-clause-answers : goal.returns-in-Link-clause-answers
returns-in-Link-clause-answers g c =
    let before = seen (files_seen g.F.Files c.args.files.now) (objects g.S.Source g.K.Sink c.args.input.now c.args.out.now) in
    let after = seen (files_seen g.F.Files c.write_linked.new.files) (objects g.S.Source g.K.Sink c.args.input.now c.args.out.now) in
    let image = c.in-Link.image.now in
    let done = subst
    (λ (xs : List (Bor (List ℕ))). WritesLinked (names_of xs) image before.files after.files (ended_of c.write_linked.result))
    c.deref-in-Link-2.ensures.value c.write_linked.ensures in
    subst (λ (j : JobValue). Answers (job_is j) before after c.finish_image-in-Link.result) (sym c.in-Link.is)
    (subst (λ (e : Ended). LinkAnswers (names_of c.in-Link.names.items) image before after e) (sym c.finish_image-in-Link.ensures.ended)
    (record { writes = done; silent = refl }))

pub returns-in-Run-clause-answers : goal.returns-in-Run-clause-answers
returns-in-Run-clause-answers g c =
    let before = seen (files_seen g.F.Files c.args.files.now) (objects g.S.Source g.K.Sink c.args.input.now c.args.out.now) in
    let after = seen (files_seen g.F.Files c.run_file.new.files) (objects g.S.Source g.K.Sink c.run_file.new.input c.run_file.new.out) in
    subst (λ (j : JobValue). Answers (job_is j) before after c.finish-in-Run.result) (sym c.in-Run.is)
    (subst (λ (e : Ended). RunAnswers c.in-Run.image.now (run_options c.in-Run.options) before after e)
    (sym c.finish-in-Run.ensures.ended) c.run_file.ensures)

pub returns-in-Dump-clause-answers : goal.returns-in-Dump-clause-answers
returns-in-Dump-clause-answers g c =
    let before = seen (files_seen g.F.Files c.args.files.now) (objects g.S.Source g.K.Sink c.args.input.now c.args.out.now) in
    let after = seen (files_seen g.F.Files c.dump_file.new.files) (objects g.S.Source g.K.Sink c.args.input.now c.dump_file.new.out) in
    subst (λ (j : JobValue). Answers (job_is j) before after c.finish-in-Dump.result) (sym c.in-Dump.is)
    (subst (λ (e : Ended). Answers (Dump c.in-Dump.file.now) before after e) (sym c.finish-in-Dump.ensures.ended)
    (record { dumps = c.dump_file.ensures; source = refl; input = refl; input_faults = refl }))

pub returns-in-Plan-clause-answers : goal.returns-in-Plan-clause-answers
returns-in-Plan-clause-answers g c =
    let before = seen (files_seen g.F.Files c.args.files.now) (objects g.S.Source g.K.Sink c.args.input.now c.args.out.now) in
    let after = seen (files_seen g.F.Files c.plan_file.new.files) (objects g.S.Source g.K.Sink c.args.input.now c.plan_file.new.out) in
    subst (λ (j : JobValue). Answers (job_is j) before after c.finish-in-Plan.result) (sym c.in-Plan.is)
    (subst (λ (e : Ended). Answers (Plan c.in-Plan.file.now) before after e) (sym c.finish-in-Plan.ensures.ended)
    (record { plans = c.plan_file.ensures; source = refl; input = refl; input_faults = refl }))

pub returns-in-Mean-clause-answers : goal.returns-in-Mean-clause-answers
returns-in-Mean-clause-answers g c =
    let before = seen (files_seen g.F.Files c.args.files.now) (objects g.S.Source g.K.Sink c.args.input.now c.args.out.now) in
    let after = seen (files_seen g.F.Files c.mean_sources.new.files)
    (objects g.S.Source g.K.Sink c.mean_sources.new.input c.mean_sources.new.out) in
    let options = mean_options c.in-Mean.options in
    let done = subst (λ (xs : List (Bor (List ℕ))). MeanAnswers (names_of xs) options before after (ended_of c.mean_sources.result))
    c.deref-in-Mean-2.ensures.value c.mean_sources.ensures in
    subst (λ (j : JobValue). Answers (job_is j) before after c.finish-in-Mean.result) (sym c.in-Mean.is)
    (subst (λ (e : Ended). MeanAnswers (names_of c.in-Mean.names.items) options before after e) (sym c.finish-in-Mean.ensures.ended) done)

-- a job that is done is answered by no usage
pub returns-in-Go-clause-usage : goal.returns-in-Go-clause-usage
returns-in-Go-clause-usage g c =
    λ is. go_not_usage _ _ _ _ c.go.ensures.cause (subst (λ (e : Ended). e.why ≡ Usage) c.finish.ensures.ended is)

pub returns-in-Build-clause-usage : goal.returns-in-Build-clause-usage
returns-in-Build-clause-usage g c =
    λ is. build_not_usage _ _ _ _ c.write_built.ensures.cause
    (subst (λ (e : Ended). e.why ≡ Usage) c.finish_image.ensures.ended is)

pub returns-in-Link-clause-usage : goal.returns-in-Link-clause-usage
returns-in-Link-clause-usage g c =
    λ is. link_not_usage _ _ _ _ c.write_linked.ensures.cause
    (subst (λ (e : Ended). e.why ≡ Usage) c.finish_image-in-Link.ensures.ended is)

pub returns-in-Run-clause-usage : goal.returns-in-Run-clause-usage
returns-in-Run-clause-usage g c =
    λ is. run_not_usage _ _ _ _ c.run_file.ensures.cause
    (subst (λ (e : Ended). e.why ≡ Usage) c.finish-in-Run.ensures.ended is)

pub returns-in-Dump-clause-usage : goal.returns-in-Dump-clause-usage
returns-in-Dump-clause-usage g c =
    λ is. dump_not_usage _ _ _ _ _ c.dump_file.ensures.cause
    (subst (λ (e : Ended). e.why ≡ Usage) c.finish-in-Dump.ensures.ended is)

pub returns-in-Plan-clause-usage : goal.returns-in-Plan-clause-usage
returns-in-Plan-clause-usage g c =
    λ is. plan_not_usage _ _ _ _ _ c.plan_file.ensures.cause
    (subst (λ (e : Ended). e.why ≡ Usage) c.finish-in-Plan.ensures.ended is)

pub returns-in-Mean-clause-usage : goal.returns-in-Mean-clause-usage
returns-in-Mean-clause-usage g c =
    λ is. mean_not_usage _ _ _ _ c.mean_sources.ensures.cause
    (subst (λ (e : Ended). e.why ≡ Usage) c.finish-in-Mean.ensures.ended is)
