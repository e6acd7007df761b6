use Rattle.std.proofs.Common.{◌≢◌, [], List, ℕ, refl, sym, subst}
use Rattle.mte_machine.specs.Objects.{objects}
use Rattle.elf_image.specs.Image.{image_of}
use Rattle.tag_startup.specs.Machine.{RunsImage, launch}
use Rattle.mt_answers.specs.Answer.{ended_of}
use Rattle.mt_answers.specs.Each.{names_of}
use Rattle.mt_answers.specs.Laws.Counts.{both_stay}
use Rattle.mt_answers.specs.Laws.Written.{same_files}
use Rattle.mt_answers.specs.Seen.{seen, files_seen}
use Rattle.mt_answers.specs.Status.{ended_by}
use Rattle.mt_words.specs.Model.{run_options}
use Rattle.mt_pipeline.specs.Go.{CauseOfGo, ran, unbuilt, no_memory}
use Rattle.mt_pipeline.specs.Sources.{NotBuilt}
use Rattle.mt_pipeline.proofs.BuiltRuns.{whole}
use Rattle.mt_pipeline.proofs.GoCauses.{go_answers}
use Rattle.mt_pipeline.proofs.Options.{not_empty, stack_of}
use Rattle.mt_pipeline.proofs.Quiet.{exits_quiet, same_objects}
use Rattle.mt_answers.specs.Laws.Answering.{answered}
use Rattle.mt_pipeline.proofs.go.go.Goals as goal

pub run_parts-requires-clause-valid : goal.run_parts-requires-clause-valid
run_parts-requires-clause-valid g c =
    (whole c.in-Ok.ensures.built.texts (image_of c.in-Ok.parts) c.in-Ok.ensures.built.builds).valid

pub run_parts-requires-clause-choices : goal.run_parts-requires-clause-choices
run_parts-requires-clause-choices g c =
    subst (λ (xs : List ℕ). xs ≢ []) (sym c.deref.ensures.value) (not_empty c.args.options.now.choices.items c.requires.some)

pub run_parts-requires-clause-stack : goal.run_parts-requires-clause-stack
run_parts-requires-clause-stack g c = stack_of c.args.options.now.stack c.requires.stack

-- nothing was built
pub returns-in-Err : goal.returns-in-Err
returns-in-Err g c =
    let before = seen (files_seen g.F.Files c.args.files.now) (objects g.S.Source g.K.Sink c.args.input.now c.args.out.now) in
    let after = seen (files_seen g.F.Files c.build_files.new.files) (objects g.S.Source g.K.Sink c.args.input.now c.args.out.now) in
    let names = names_of c.args.names.now in
    let options = run_options c.args.options.now in
    go_answers names options before after (ended_of c.in-Err.answer)
    (answered (CauseOfGo names options before after) (NotBuilt names before.files after.files) c.in-Err.answer c.in-Err.ensures.unbuilt
    (no_memory refl) (λ why not. unbuilt not refl))
    refl (same_files _ _ c.build_files.ensures.kept)
    (record { reads = c.in-Err.ensures.uncounted_err; writes = c.build_files.ensures.writes })

-- the image ran
pub returns-in-Ok-run_parts : goal.returns-in-Ok-run_parts
returns-in-Ok-run_parts g c =
    let is = c.in-Ok.ensures.built in
    let image = image_of c.in-Ok.parts in
    let options = run_options c.args.options.now in
    let before = seen (files_seen g.F.Files c.args.files.now) (objects g.S.Source g.K.Sink c.args.input.now c.args.out.now) in
    let after = seen (files_seen g.F.Files c.build_files.new.files)
    (objects g.S.Source g.K.Sink c.run_parts.new.source c.run_parts.new.sink) in
    let runs = subst
    (λ (choices : List ℕ). RunsImage (launch image choices options.stack options.steps) before.streams after.streams
    c.in-Ok-run_parts.end)
    c.deref.ensures.value c.in-Ok-run_parts.ensures.runs in
    let quiet = exits_quiet image _ _ options.stack options.steps before.streams after.streams c.in-Ok-run_parts.end
    (whole is.texts image is.builds).exits runs in
    go_answers (names_of c.args.names.now) options before after (ended_by c.in-Ok-run_parts.end)
    (ran image is (record { end = c.in-Ok-run_parts.end; runs = runs; answered = refl }))
    (same_objects g.S.Source g.K.Sink _ _ _ _ quiet.source quiet.sink) (same_files _ _ c.build_files.ensures.kept)
    (both_stay _ _ c.in-Ok.ensures.uncounted_ok c.build_files.ensures.writes)

-- memory was wanting for it
pub returns : goal.returns
returns g c =
    let before = seen (files_seen g.F.Files c.args.files.now) (objects g.S.Source g.K.Sink c.args.input.now c.args.out.now) in
    let after = seen (files_seen g.F.Files c.build_files.new.files)
    (objects g.S.Source g.K.Sink c.run_parts.new.source c.run_parts.new.sink) in
    let kept = c.in-Err-run_parts.ensures.silent in
    let silent = same_objects g.S.Source g.K.Sink _ _ _ _ kept.0 kept.1 in
    go_answers (names_of c.args.names.now) (run_options c.args.options.now) before after _ (no_memory silent) silent
    (same_files _ _ c.build_files.ensures.kept)
    (both_stay _ _ c.in-Ok.ensures.uncounted_ok c.build_files.ensures.writes)
