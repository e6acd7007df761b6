use Rattle.std.proofs.Common.{sym, subst}
use Rattle.mt_answers.specs.Answer.{IsAnswerTo, ended_of}
use Rattle.mt_answers.specs.Counted.{IsReadFault}
use Rattle.mt_answers.specs.declared.answer.Answer.{Answer}
use Rattle.mt_compile.specs.Planned.{IsPlanCause}
use Rattle.mt_mean.specs.Sources.{RefusesFile}
use Rattle.mt_mean.proofs.Refusals.{source_answer, source_not_read}
use Rattle.mt_mean.proofs.file.FilingStage.make.Goals as goal

-- the text is refused
pub returns-clause-refused : goal.returns-clause-refused
returns-clause-refused c =
    subst (λ (a : Answer). IsAnswerTo (RefusesFile c.args.number c.args.bytes.items) a) (sym c.of_source.ensures)
    (source_answer c.args.number c.args.bytes.items c.in-Err.refused.refusal c.in-Err.refused.place
    (subst (λ b. IsPlanCause b c.in-Err.refused) c.deref.ensures.value c.in-Err.ensures.refused))

pub returns-clause-reads : goal.returns-clause-reads
returns-clause-reads c =
    subst (λ (a : Answer). ¬ IsReadFault (ended_of a).why) (sym c.of_source.ensures)
    (source_not_read c.args.number c.in-Err.refused.refusal c.in-Err.refused.place)
