use Rattle.std.proofs.Common.{◌≡◌, ◌≢◌, ◌⊎◌, [], List, ℕ, refl, sym, subst}
use Rattle.mte_machine.specs.Objects.{objects}
use Rattle.elf_image.specs.Constant.{constant_image}
use Rattle.elf_image.specs.ImageFile.{ImageFile}
use Rattle.elf_image.specs.Ranges.{IsFileOf}
use Rattle.tag_startup.specs.Machine.{RunsImage, launch}
use Rattle.mt_answers.specs.Answer.{ended_of}
use Rattle.mt_answers.specs.Laws.Counts.{both_stay}
use Rattle.mt_answers.specs.Laws.SameBytes.{same_bytes}
use Rattle.mt_answers.specs.Laws.Written.{same_files}
use Rattle.mt_answers.specs.Seen.{seen, files_seen}
use Rattle.mt_answers.specs.Status.{ended_by}
use Rattle.mt_answers.specs.Unrun.{answer_to_run}
use Rattle.mt_answers.specs.declared.answer.Answer.{Answer}
use Rattle.mt_answers.specs.declared.refusal.RunRefusal.TheVariants.{NoMemory}
use Rattle.mt_words.specs.Model.{run_options}
use Rattle.mt_pipeline.specs.RunFile.{RefusesRun, RunAnswers, ran}
use Rattle.mt_pipeline.proofs.Options.{not_empty, stack_of}
use Rattle.mt_pipeline.proofs.Quiet.{file_quiet, same_objects}
use Rattle.mt_pipeline.proofs.RunCauses.{run_answers, run_refused, run_unread}
use Rattle.mt_pipeline.proofs.run.run_file.Goals as goal

pub run_image-requires-clause-choices : goal.run_image-requires-clause-choices
run_image-requires-clause-choices g c =
    subst (λ (xs : List ℕ). xs ≢ []) (sym c.deref-2.ensures.value) (not_empty c.args.options.now.choices.items c.requires.some)

pub run_image-requires-clause-stack : goal.run_image-requires-clause-stack
run_image-requires-clause-stack g c = stack_of c.args.options.now.stack c.requires.stack

-- there were no bytes
pub returns-in-Err : goal.returns-in-Err
returns-in-Err g c =
    let before = seen (files_seen g.F.Files c.args.files.now) (objects g.S.Source g.K.Sink c.args.input.now c.args.out.now) in
    let after = seen (files_seen g.F.Files c.read_file.new.files) (objects g.S.Source g.K.Sink c.args.input.now c.args.out.now) in
    run_answers c.args.name.now (run_options c.args.options.now) before after (ended_of c.in-Err.answer)
    (run_unread c.args.name.now (run_options c.args.options.now) before after c.in-Err.answer c.in-Err.ensures.cause refl)
    (λ bytes n holds within is. refl) (same_files _ _ c.read_file.ensures.kept)
    (record { reads = c.in-Err.ensures.uncounted_err; writes = c.read_file.ensures.writes })

-- the image ran
pub returns-in-Ok-run_image : goal.returns-in-Ok-run_image
returns-in-Ok-run_image g c =
    let options = run_options c.args.options.now in
    let before = seen (files_seen g.F.Files c.args.files.now) (objects g.S.Source g.K.Sink c.args.input.now c.args.out.now) in
    let after = seen (files_seen g.F.Files c.read_file.new.files)
    (objects g.S.Source g.K.Sink c.run_image.new.source c.run_image.new.sink) in
    let read = c.in-Ok.bytes.items in
    let image = c.in-Ok-run_image.ensures.image.0 in
    let is : IsFileOf image read = subst (λ b. IsFileOf image b) c.deref.ensures.value c.in-Ok-run_image.ensures.image.1 in
    let runs = subst (λ (choices : List ℕ). RunsImage (launch image choices options.stack options.steps) before.streams after.streams
    c.in-Ok-run_image.end)
    c.deref-2.ensures.value
    (c.in-Ok-run_image.ensures.runs image c.in-Ok-run_image.ensures.image.1) in
    run_answers c.args.name.now options before after (ended_by c.in-Ok-run_image.end)
    (ran read image c.in-Ok.ensures.bytes is (record { end = c.in-Ok-run_image.end; runs = runs; answered = refl }))
    (λ bytes n holds within file_is.
    let file : ImageFile (constant_image n) read = subst (λ b. ImageFile (constant_image n) b)
    (sym (same_bytes before.files c.args.name.now bytes read holds c.in-Ok.ensures.bytes)) file_is in
    let quiet = file_quiet image read n _ options.stack options.steps before.streams after.streams c.in-Ok-run_image.end
    is within file runs in
    same_objects g.S.Source g.K.Sink _ _ _ _ quiet.source quiet.sink)
    (same_files _ _ c.read_file.ensures.kept)
    (both_stay _ _ c.in-Ok.ensures.uncounted_ok c.read_file.ensures.writes)

-- or it did not, for want of memory or since the bytes do not run
pub returns : goal.returns
returns g c =
    let options = run_options c.args.options.now in
    let before = seen (files_seen g.F.Files c.args.files.now) (objects g.S.Source g.K.Sink c.args.input.now c.args.out.now) in
    let after = seen (files_seen g.F.Files c.read_file.new.files)
    (objects g.S.Source g.K.Sink c.run_image.new.source c.run_image.new.sink) in
    let kept = c.in-Err-run_image.ensures.silent in
    let silent = same_objects g.S.Source g.K.Sink _ _ _ _ kept.0 kept.1 in
    let refusal = c.in-Err-run_image.refusal in
    let cause = subst (λ b. (refusal ≡ NoMemory) ⊎ RefusesRun b refusal) c.deref.ensures.value c.in-Err-run_image.ensures.refused in
    subst (λ (a : Answer). RunAnswers c.args.name.now options before after (ended_of a)) (sym c.answer.ensures)
    (run_answers c.args.name.now options before after (ended_of (answer_to_run refusal))
    (run_refused c.args.name.now options before after c.in-Ok.bytes.items refusal c.in-Ok.ensures.bytes silent cause)
    (λ bytes n holds within is. silent) (same_files _ _ c.read_file.ensures.kept)
    (both_stay _ _ c.in-Ok.ensures.uncounted_ok c.read_file.ensures.writes))
