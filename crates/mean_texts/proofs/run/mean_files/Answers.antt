use Rattle.std.proofs.Common.{sym, ap, subst, ◌∙◌, Err}
use Rattle.block_meaning.specs.Meaning.{Meaning}
use Rattle.mean_program.specs.declared.end.MeanFault.TheVariants.{InputFault, OutputFault}
use Rattle.mean_start.specs.Files.{frames_in}
use Rattle.mean_texts.specs.Answers.{TextsGive}
use Rattle.mean_texts.specs.Laws.Causes.{IsFilesCause}
use Rattle.mean_texts.specs.Texts.{names_of, program_of}
use Rattle.mean_texts.proofs.Runs.{link_cause, link_gives, no_link_fault, fault_cause, fault_gives, is_input_fault, is_output_fault}
use Rattle.mean_texts.proofs.run.mean_files.Goals as goal

-- the names are not linked

pub returns-in-Err-clause-means : goal.returns-in-Err-clause-means
returns-in-Err-clause-means g c = λ linked input taken left put o m.
    subst (λ r. TextsGive taken o (Err r) (g.S.Source.told c.args.source.now) (g.K.Sink.told c.args.sink.now)) (sym c.of_link.ensures)
    (link_gives (names_of c.args.files.now) c.in-Err.refusal taken o _ _
    (rw (c.as_slice.ensures, c.as_slice-2.ensures) at c.in-Err.ensures.refused) linked put)

pub returns-in-Err-clause-refused : goal.returns-in-Err-clause-refused
returns-in-Err-clause-refused g c =
    subst (IsFilesCause (names_of c.args.files.now)) (sym c.of_link.ensures)
    (link_cause (names_of c.args.files.now) c.in-Err.refusal
    (rw (c.as_slice.ensures, c.as_slice-2.ensures) at c.in-Err.ensures.refused))

pub returns-in-Err-clause-input_fault : goal.returns-in-Err-clause-input_fault
returns-in-Err-clause-input_fault g c = λ is.
    absurd (no_link_fault c.in-Err.refusal InputFault (ap Err (sym c.of_link.ensures) ∙ is))

pub returns-in-Err-clause-output_fault : goal.returns-in-Err-clause-output_fault
returns-in-Err-clause-output_fault g c = λ is.
    absurd (no_link_fault c.in-Err.refusal OutputFault (ap Err (sym c.of_link.ensures) ∙ is))

-- they are, and the run ended

pub returns-in-Ok-mean-clause-means : goal.returns-in-Ok-mean-clause-means
returns-in-Ok-mean-clause-means g c = λ linked input taken left put o m.
    c.in-Ok-mean.ensures.means input taken left put o
    (subst (λ units. Meaning (program_of units (frames_in c.args.files.now.frames) c.args.stack) input c.args.work o)
    (sym c.as_slice-in-Ok.ensures) m)

pub returns-in-Ok-mean-clause-linked : goal.returns-in-Ok-mean-clause-linked
returns-in-Ok-mean-clause-linked g c = rw (c.as_slice.ensures, c.as_slice-2.ensures) at c.in-Ok.ensures.linked

-- or failed

pub returns-in-Err-mean-clause-means : goal.returns-in-Err-mean-clause-means
returns-in-Err-mean-clause-means g c = λ linked input taken left put o m.
    subst (λ r. TextsGive taken o (Err r) (g.S.Source.told c.mean.new.source) (g.K.Sink.told c.mean.new.sink)) (sym c.of_fault.ensures)
    (fault_gives taken o c.in-Err-mean.fault (g.S.Source.told c.mean.new.source) (g.K.Sink.told c.mean.new.sink)
    (c.in-Err-mean.ensures.means input taken left put o
    (subst (λ units. Meaning (program_of units (frames_in c.args.files.now.frames) c.args.stack) input c.args.work o)
    (sym c.as_slice-in-Ok.ensures) m)))

pub returns-in-Err-mean-clause-refused : goal.returns-in-Err-mean-clause-refused
returns-in-Err-mean-clause-refused g c =
    subst (IsFilesCause (names_of c.args.files.now)) (sym c.of_fault.ensures)
    (fault_cause (names_of c.args.files.now) c.in-Err-mean.fault
    (rw (c.as_slice.ensures, c.as_slice-2.ensures) at c.in-Ok.ensures.linked))

pub returns-in-Err-mean-clause-input_fault : goal.returns-in-Err-mean-clause-input_fault
returns-in-Err-mean-clause-input_fault g c = λ is.
    c.in-Err-mean.ensures.input_fault (is_input_fault c.in-Err-mean.fault (ap Err (sym c.of_fault.ensures) ∙ is))

pub returns-in-Err-mean-clause-output_fault : goal.returns-in-Err-mean-clause-output_fault
returns-in-Err-mean-clause-output_fault g c = λ is.
    c.in-Err-mean.ensures.output_fault (is_output_fault c.in-Err-mean.fault (ap Err (sym c.of_fault.ensures) ∙ is))

-- nothing is taken or put where the names are not linked

pub returns-in-Ok-mean-clause-source_kept : goal.returns-in-Ok-mean-clause-source_kept
returns-in-Ok-mean-clause-source_kept g c = λ never.
    absurd (never (rw (c.as_slice.ensures, c.as_slice-2.ensures) at c.in-Ok.ensures.linked))

pub returns-in-Ok-mean-clause-sink_kept : goal.returns-in-Ok-mean-clause-sink_kept
returns-in-Ok-mean-clause-sink_kept g c = λ never.
    absurd (never (rw (c.as_slice.ensures, c.as_slice-2.ensures) at c.in-Ok.ensures.linked))

pub returns-in-Err-mean-clause-source_kept : goal.returns-in-Err-mean-clause-source_kept
returns-in-Err-mean-clause-source_kept g c = λ never.
    absurd (never (rw (c.as_slice.ensures, c.as_slice-2.ensures) at c.in-Ok.ensures.linked))

pub returns-in-Err-mean-clause-sink_kept : goal.returns-in-Err-mean-clause-sink_kept
returns-in-Err-mean-clause-sink_kept g c = λ never.
    absurd (never (rw (c.as_slice.ensures, c.as_slice-2.ensures) at c.in-Ok.ensures.linked))
