use Rattle.std.proofs.Common.{Err, ap, refl, sym, subst}
use Rattle.mean_start.specs.Files.{frames_in}
use Rattle.mt_answers.specs.Answer.{ended_of}
use Rattle.mt_answers.specs.Each.{Stops, names_of, viewed}
use Rattle.mt_answers.specs.Laws.Answering.{answered}
use Rattle.mt_answers.specs.Laws.Counts.{both_stay}
use Rattle.mt_answers.specs.Laws.EachLaws.{seen_stop}
use Rattle.mt_answers.specs.Laws.Written.{same_files}
use Rattle.mt_answers.specs.Seen.{seen, files_seen}
use Rattle.mt_answers.specs.declared.answer.Answer.{Answer}
use Rattle.mt_mean.specs.Laws.Causes.{mean_answers}
use Rattle.mt_mean.specs.Mean.{CauseOfMean, MeanAnswers, nothing, no_memory}
use Rattle.mt_mean.specs.Sources.{filed, held_as, no_file}
use Rattle.mt_mean.proofs.Runs.{placed, counted_files, ended, refused, same_objects}
use Rattle.mt_mean.proofs.run.mean_sources.Goals as goal
use Rattle.mt_words.specs.Model.{mean_options}
use Rattle.mte_machine.specs.Objects.{objects}

pub mean_files-requires-clause-trees : goal.mean_files-requires-clause-trees
mean_files-requires-clause-trees g c =
    let before = files_seen g.F.Files c.args.files.now in
    let place = placed before before (names_of c.args.names.now) c.in-Ok.typed.items c.in-Ok-side_by_side.sources c.in-Ok.ensures.made
    c.in-Ok-side_by_side.ensures in
    (counted_files place.texts c.in-Ok-side_by_side.sources place.are).trees

pub mean_files-requires-clause-frames : goal.mean_files-requires-clause-frames
mean_files-requires-clause-frames g c =
    let before = files_seen g.F.Files c.args.files.now in
    let place = placed before before (names_of c.args.names.now) c.in-Ok.typed.items c.in-Ok-side_by_side.sources c.in-Ok.ensures.made
    c.in-Ok-side_by_side.ensures in
    (counted_files place.texts c.in-Ok-side_by_side.sources place.are).frames

-- one of the files gave nothing
pub returns-in-Err : goal.returns-in-Err
returns-in-Err g c =
    let before = seen (files_seen g.F.Files c.args.files.now) (objects g.S.Source g.K.Sink c.args.input.now c.args.out.now) in
    let after = seen (files_seen g.F.Files c.make_each.new.files) (objects g.S.Source g.K.Sink c.args.input.now c.args.out.now) in
    let names = names_of c.args.names.now in
    let options = mean_options c.args.options.now in
    mean_answers names options before after (ended_of c.in-Err.answer)
    (answered (CauseOfMean names options before after) (Stops (viewed held_as filed) before.files after.files 0 names) c.in-Err.answer
    c.in-Err.ensures.stops (no_memory refl)
    (λ why stops. nothing (no_file (seen_stop held_as filed before.files after.files 0 names why stops)) refl))
    (same_files _ _ c.make_each.ensures.kept)
    (record { reads = c.in-Err.ensures.uncounted_err; writes = c.make_each.ensures.writes })

-- memory was wanting for all of them
pub returns-in-Err-side_by_side : goal.returns-in-Err-side_by_side
returns-in-Err-side_by_side g c =
    let before = seen (files_seen g.F.Files c.args.files.now) (objects g.S.Source g.K.Sink c.args.input.now c.args.out.now) in
    let after = seen (files_seen g.F.Files c.make_each.new.files) (objects g.S.Source g.K.Sink c.args.input.now c.args.out.now) in
    mean_answers (names_of c.args.names.now) (mean_options c.args.options.now) before after _ (no_memory refl)
    (same_files _ _ c.make_each.ensures.kept) (both_stay _ _ c.in-Ok.ensures.uncounted_ok c.make_each.ensures.writes)

-- the program ran
pub returns-in-Ok-mean_files : goal.returns-in-Ok-mean_files
returns-in-Ok-mean_files g c =
    let before = seen (files_seen g.F.Files c.args.files.now) (objects g.S.Source g.K.Sink c.args.input.now c.args.out.now) in
    let after = seen (files_seen g.F.Files c.make_each.new.files)
    (objects g.S.Source g.K.Sink c.mean_files.new.source c.mean_files.new.sink) in
    let names = names_of c.args.names.now in
    let options = mean_options c.args.options.now in
    let sources = c.in-Ok-side_by_side.sources in
    let place = placed before.files after.files names c.in-Ok.typed.items sources c.in-Ok.ensures.made c.in-Ok-side_by_side.ensures in
    subst (λ (a : Answer). MeanAnswers names options before after (ended_of a)) (sym c.answer_to_end.ensures)
    (mean_answers names options before after _
    (ended names options before after place.texts sources.trees sources.units (frames_in sources.frames) place.held place.are
    c.in-Ok-mean_files.end c.in-Ok-mean_files.ensures.linked c.in-Ok-mean_files.ensures.means)
    (same_files _ _ c.make_each.ensures.kept) (both_stay _ _ c.in-Ok.ensures.uncounted_ok c.make_each.ensures.writes))

-- or it did not, or failed
pub returns : goal.returns
returns g c =
    let before = seen (files_seen g.F.Files c.args.files.now) (objects g.S.Source g.K.Sink c.args.input.now c.args.out.now) in
    let after = seen (files_seen g.F.Files c.make_each.new.files)
    (objects g.S.Source g.K.Sink c.mean_files.new.source c.mean_files.new.sink) in
    let names = names_of c.args.names.now in
    let options = mean_options c.args.options.now in
    let sources = c.in-Ok-side_by_side.sources in
    let place = placed before.files after.files names c.in-Ok.typed.items sources c.in-Ok.ensures.made c.in-Ok-side_by_side.ensures in
    let result = c.in-Err-mean_files.ensures in
    subst (λ (a : Answer). MeanAnswers names options before after (ended_of a)) (sym c.answer_to_refusal.ensures)
    (mean_answers names options before after _
    (refused names options before after place.texts sources.trees sources.units (frames_in sources.frames) place.held place.are
    c.in-Err-mean_files.refusal result.refused result.means
    (λ not. same_objects g.S.Source g.K.Sink _ _ _ _ (result.source_kept not) (result.sink_kept not))
    (λ is. result.input_fault (ap Err is)) (λ is. result.output_fault (ap Err is)))
    (same_files _ _ c.make_each.ensures.kept) (both_stay _ _ c.in-Ok.ensures.uncounted_ok c.make_each.ensures.writes))
