use Rattle.std.proofs.Common.{IfSome, IfNone, Option, inl, inr, map, refl, subst}
use Rattle.std.specs.String.{string_bytes}
use Rattle.mte_machine.specs.Objects.{objects}
use Rattle.mt_answers.specs.Seen.{seen, files_seen}
use Rattle.mt_words.specs.HasJob.{HasJob, HasNoJob}
use Rattle.mt_words.specs.Jobs.{Job}
use Rattle.mt_words.specs.Laws.Formed.{IsFormed}
use Rattle.mt_words.specs.Laws.OneJob.{one_job}
use Rattle.mt_words.specs.Model.{job_is}
use Rattle.mt_words.specs.declared.job.Job.{Job as JobValue}
use Rattle.mt_pipeline.specs.Answers.{Answers}
use Rattle.mt_pipeline.proofs.Wants.{memory_not_usage, wants_memory}
use Rattle.mt_pipeline.proofs.driver.drive.Goals as goal

-- memory was wanting for the words
pub returns-in-Err-clause-answers : goal.returns-in-Err-clause-answers
returns-in-Err-clause-answers g c = λ job has.
    let before = seen (files_seen g.F.Files c.args.files.now) (objects g.S.Source g.K.Sink c.args.input.now c.args.out.now) in
    wants_memory job before c.finish.result c.finish.ensures.ended

pub returns-in-Err-clause-usage : goal.returns-in-Err-clause-usage
returns-in-Err-clause-usage g c = λ is. absurd (memory_not_usage c.finish.result c.finish.ensures.ended is)

pub returns-in-Err-clause-no_job : goal.returns-in-Err-clause-no_job
returns-in-Err-clause-no_job g c = λ none. record { usage = inr c.finish.ensures.ended; untouched = refl }

-- the words have a job
pub finish_job-requires : goal.finish_job-requires
finish_job-requires g c = subst (λ (f : Option JobValue). IfSome f (λ j. IsFormed (job_is j))) c.in-Some.is c.in-Ok.ensures.formed

pub returns-in-Some-clause-answers : goal.returns-in-Some-clause-answers
returns-in-Some-clause-answers g c = λ job has.
    let before = seen (files_seen g.F.Files c.args.files.now) (objects g.S.Source g.K.Sink c.args.input.now c.args.out.now) in
    let after = seen (files_seen g.F.Files c.finish_job.new.files)
    (objects g.S.Source g.K.Sink c.finish_job.new.input c.finish_job.new.out) in
    let words = map string_bytes c.args.words.now in
    let found = subst (λ (f : Option JobValue). IfSome f (λ j. HasJob words (job_is j))) c.in-Some.is c.in-Ok.ensures.some in
    subst (λ (j : Job). Answers j before after c.finish_job.result) (one_job words (job_is c.in-Some.job) job found has)
    c.finish_job.ensures.answers

pub returns-in-Some-clause-usage : goal.returns-in-Some-clause-usage
returns-in-Some-clause-usage g c = λ is. absurd (c.finish_job.ensures.usage is)

pub returns-in-Some-clause-no_job : goal.returns-in-Some-clause-no_job
returns-in-Some-clause-no_job g c = λ none.
    let words = map string_bytes c.args.words.now in
    let found = subst (λ (f : Option JobValue). IfSome f (λ j. HasJob words (job_is j))) c.in-Some.is c.in-Ok.ensures.some in
    absurd (none (job_is c.in-Some.job) found)

-- or they have none
pub returns-in-None-clause-answers : goal.returns-in-None-clause-answers
returns-in-None-clause-answers g c = λ job has.
    absurd (subst (λ (f : Option JobValue). IfNone f (HasNoJob (map string_bytes c.args.words.now))) c.in-None.is c.in-Ok.ensures.none
    job has)

pub returns-in-None-clause-usage : goal.returns-in-None-clause-usage
returns-in-None-clause-usage g c = λ is.
    subst (λ (f : Option JobValue). IfNone f (HasNoJob (map string_bytes c.args.words.now))) c.in-None.is c.in-Ok.ensures.none

pub returns-in-None-clause-no_job : goal.returns-in-None-clause-no_job
returns-in-None-clause-no_job g c = λ none. record { usage = inl c.finish-in-None.ensures.ended; untouched = refl }
