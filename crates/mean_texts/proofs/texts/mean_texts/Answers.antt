use Rattle.std.proofs.Common.{sym, ◌∙◌}
use Rattle.mean_program.specs.declared.end.MeanFault.TheVariants.{InputFault, OutputFault}
use Rattle.mean_start.specs.Files.{frames_in}
use Rattle.std.proofs.lemmas.List.{length-map}
use Rattle.mean_texts.specs.Texts.{texts_of}
use Rattle.mean_texts.proofs.Turns.{as_many_trees, as_many_frames}
use Rattle.mean_texts.proofs.Wholes.{early_gives, early_cause, early_late, early_refuses, no_early_fault}
use Rattle.mean_texts.proofs.Wholes.{run_gives, run_means, run_cause, run_late, run_refuses, not_linked}
use Rattle.mean_texts.proofs.texts.mean_texts.Goals as goal

-- a text is refused, or memory was wanting

pub returns-in-Err-clause-means : goal.returns-in-Err-clause-means
returns-in-Err-clause-means g c = λ input taken left put o means.
    early_gives (texts_of c.args.texts.now) c.in-Err.refusal taken o _ _ c.in-Err.ensures.refused means.together put

pub returns-in-Err-clause-refused : goal.returns-in-Err-clause-refused
returns-in-Err-clause-refused g c = early_cause (texts_of c.args.texts.now) c.in-Err.refusal c.in-Err.ensures.refused

pub returns-in-Err-clause-input_fault : goal.returns-in-Err-clause-input_fault
returns-in-Err-clause-input_fault g c = λ is.
    absurd (no_early_fault (texts_of c.args.texts.now) c.in-Err.refusal InputFault c.in-Err.ensures.refused is)

pub returns-in-Err-clause-output_fault : goal.returns-in-Err-clause-output_fault
returns-in-Err-clause-output_fault g c = λ is.
    absurd (no_early_fault (texts_of c.args.texts.now) c.in-Err.refusal OutputFault c.in-Err.ensures.refused is)

pub returns-in-Err-clause-complete : goal.returns-in-Err-clause-complete
returns-in-Err-clause-complete g c = λ together. early_late (texts_of c.args.texts.now) c.in-Err.refusal c.in-Err.ensures.refused together

pub returns-in-Err-clause-refuses : goal.returns-in-Err-clause-refuses
returns-in-Err-clause-refuses g c = λ other refused.
    early_refuses (texts_of c.args.texts.now) c.in-Err.refusal other c.in-Err.ensures.refused refused

-- their files are run

pub mean_files-requires-clause-trees : goal.mean_files-requires-clause-trees
mean_files-requires-clause-trees g c =
    let files = c.in-Ok.files in
    as_many_trees (texts_of c.args.texts.now) files.trees files.units (frames_in files.frames) c.in-Ok.ensures.files

pub mean_files-requires-clause-frames : goal.mean_files-requires-clause-frames
mean_files-requires-clause-frames g c =
    let files = c.in-Ok.files in
    sym (length-map files.frames.bytes.items (λ file. file.items))
    ∙ as_many_frames (texts_of c.args.texts.now) files.trees files.units (frames_in files.frames) c.in-Ok.ensures.files

pub returns-in-Ok-clause-means : goal.returns-in-Ok-clause-means
returns-in-Ok-clause-means g c = λ input taken left put o means.
    run_gives (texts_of c.args.texts.now) c.in-Ok.files c.in-Ok.ensures.files c.args.stack c.args.work input taken o c.mean_files.result
    (g.S.Source.told c.mean_files.new.source) (g.K.Sink.told c.mean_files.new.sink)
    (λ linked m. c.mean_files.ensures.means linked input taken left put o m) means

pub returns-in-Ok-clause-meaning : goal.returns-in-Ok-clause-meaning
returns-in-Ok-clause-meaning g c =
    run_means (texts_of c.args.texts.now) c.in-Ok.files c.in-Ok.ensures.files c.args.stack c.args.work c.mean_files.result
    c.mean_files.ensures.linked

pub returns-in-Ok-clause-refused : goal.returns-in-Ok-clause-refused
returns-in-Ok-clause-refused g c =
    run_cause (texts_of c.args.texts.now) c.in-Ok.files c.in-Ok.ensures.files c.mean_files.result c.mean_files.ensures.refused

pub returns-in-Ok-clause-complete : goal.returns-in-Ok-clause-complete
returns-in-Ok-clause-complete g c = λ together.
    run_late (texts_of c.args.texts.now) c.in-Ok.files c.in-Ok.ensures.files c.mean_files.result c.mean_files.ensures.refused together

pub returns-in-Ok-clause-refuses : goal.returns-in-Ok-clause-refuses
returns-in-Ok-clause-refuses g c = λ other refused.
    run_refuses (texts_of c.args.texts.now) c.in-Ok.files c.in-Ok.ensures.files c.mean_files.result other c.mean_files.ensures.linked
    c.mean_files.ensures.refused refused

pub returns-in-Ok-clause-source_kept : goal.returns-in-Ok-clause-source_kept
returns-in-Ok-clause-source_kept g c = λ other refused.
    c.mean_files.ensures.source_kept
    (λ linked. not_linked (texts_of c.args.texts.now) c.in-Ok.files c.in-Ok.ensures.files other refused linked)

pub returns-in-Ok-clause-sink_kept : goal.returns-in-Ok-clause-sink_kept
returns-in-Ok-clause-sink_kept g c = λ other refused.
    c.mean_files.ensures.sink_kept
    (λ linked. not_linked (texts_of c.args.texts.now) c.in-Ok.files c.in-Ok.ensures.files other refused linked)
