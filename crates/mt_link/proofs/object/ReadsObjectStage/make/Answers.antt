use Rattle.std.proofs.Common.{◌≡◌, ◌⊎◌, ℕ, List, sym, subst}
use Rattle.elf_obj.specs.ObjectFault.{ObjectFault}
use Rattle.elf_obj.specs.declared.refusal.ObjectRefusal.TheVariants.{NoMemory}
use Rattle.mt_answers.specs.Answer.{IsAnswerTo, ended_of}
use Rattle.mt_answers.specs.Counted.{IsReadFault}
use Rattle.mt_answers.specs.declared.answer.Answer.{Answer}
use Rattle.mt_link.specs.Link.{RefusesObject}
use Rattle.mt_link.proofs.Refusals.{object_answer, object_not_read}
use Rattle.mt_link.proofs.object.ReadsObjectStage.make.Goals as goal

-- the bytes are no object's
pub returns-clause-refused : goal.returns-clause-refused
returns-clause-refused c =
    subst (λ (a : Answer). IsAnswerTo (RefusesObject c.args.number c.args.bytes.items) a) (sym c.of_object.ensures)
    (object_answer c.args.number c.args.bytes.items c.in-Err.refusal
    (subst (λ (bytes : List ℕ). (c.in-Err.refusal ≡ NoMemory) ⊎ ObjectFault bytes c.in-Err.refusal) c.deref.ensures.value
    c.in-Err.ensures.refused))

pub returns-clause-reads : goal.returns-clause-reads
returns-clause-reads c =
    subst (λ (a : Answer). ¬ IsReadFault (ended_of a).why) (sym c.of_object.ensures)
    (object_not_read c.args.number c.in-Err.refusal)
