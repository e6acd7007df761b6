use Rattle.std.proofs.Common.{List, ℕ, refl, sym, subst}
use Rattle.mt_compile.specs.Planned.{HasPlan, IsPlanCause}
use Rattle.mt_answers.specs.declared.answer.Answer.{Answer}
use Rattle.mt_answers.specs.Answer.{ended_of}
use Rattle.mt_pipeline.specs.Plan.{Plans}
use Rattle.mt_answers.specs.Put.{output_seen, with_output}
use Rattle.mt_answers.specs.Seen.{files_seen}
use Rattle.mt_answers.specs.Refusals.{answer_to_source}
use Rattle.mt_answers.specs.Laws.Counts.{both_stay}
use Rattle.mt_pipeline.proofs.PlanCauses.{plan_answers, plan_unread, plan_put, plan_refused}
use Rattle.mt_answers.specs.Laws.Written.{same_files}
use Rattle.mt_pipeline.proofs.plan.plan_file.Goals as goal

-- there were no bytes
pub returns-in-Err : goal.returns-in-Err
returns-in-Err g c =
    let before = files_seen g.F.Files c.args.files.now in
    let after = files_seen g.F.Files c.read_file.new.files in
    let out = output_seen g.K.Sink c.args.out.now in
    plan_answers c.args.file.now before after out out (ended_of c.in-Err.answer)
    (plan_unread c.args.file.now before after out out c.in-Err.answer c.in-Err.ensures.cause refl)
    (same_files _ _ c.read_file.ensures.kept)
    (record { reads = c.in-Err.ensures.uncounted_err; writes = c.read_file.ensures.writes })

-- the lines were put, or a part of them
pub returns-in-Ok-plan_of : goal.returns-in-Ok-plan_of
returns-in-Ok-plan_of g c =
    let before = files_seen g.F.Files c.args.files.now in
    let after = files_seen g.F.Files c.read_file.new.files in
    let out = output_seen g.K.Sink c.args.out.now in
    let now = output_seen g.K.Sink c.put_bytes.new.out in
    let has : HasPlan c.in-Ok.bytes.items c.deref-in-Ok-plan_of.result.now =
    subst (λ (b : List ℕ). HasPlan b c.deref-in-Ok-plan_of.result.now) c.deref.ensures.value
    (subst (λ (t : List ℕ). HasPlan c.deref.result.now t) (sym c.deref-in-Ok-plan_of.ensures.value) c.in-Ok-plan_of.ensures.lines) in
    plan_answers c.args.file.now before after out now (ended_of c.put_bytes.result)
    (plan_put c.args.file.now before after out now c.in-Ok.bytes.items c.deref-in-Ok-plan_of.result.now c.put_bytes.result
    c.in-Ok.ensures.bytes has c.put_bytes.ensures)
    (same_files _ _ c.read_file.ensures.kept)
    (both_stay before after c.in-Ok.ensures.uncounted_ok c.read_file.ensures.writes)

-- or there are none
pub returns : goal.returns
returns g c =
    let before = files_seen g.F.Files c.args.files.now in
    let after = files_seen g.F.Files c.read_file.new.files in
    let out = output_seen g.K.Sink c.args.out.now in
    let refused = c.in-Err-plan_of.refused in
    let cause = subst (λ (b : List ℕ). IsPlanCause b refused) c.deref.ensures.value c.in-Err-plan_of.ensures.refused in
    subst (λ (a : Answer). Plans c.args.file.now (with_output before out) (with_output after out) (ended_of a))
    (sym c.of_source.ensures)
    (plan_answers c.args.file.now before after out out (ended_of (answer_to_source 0 refused.refusal refused.place))
    (plan_refused c.args.file.now before after out out c.in-Ok.bytes.items refused.refusal refused.place c.in-Ok.ensures.bytes refl cause)
    (same_files _ _ c.read_file.ensures.kept)
    (both_stay before after c.in-Ok.ensures.uncounted_ok c.read_file.ensures.writes))
