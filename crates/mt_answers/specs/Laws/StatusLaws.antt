-- The status of an answer is that of its reason.
use Rattle.std.proofs.Common.{◌≡◌, refl, sym, subst}
use Rattle.a64_code.specs.declared.end.MachineEnd.{MachineEnd}
use Rattle.a64_code.specs.declared.end.MachineEnd.TheVariants as end
use Rattle.mt_answers.specs.Answer.{ended_of}
use Rattle.mt_answers.specs.Status.{ended_by, status_of}
use Rattle.mt_answers.specs.declared.answer.Answer.{Answer}
use Rattle.mt_answers.specs.declared.answer.Answer.TheVariants as answer
use Rattle.mt_answers.specs.declared.ended.Ended.{Ended}

abbrev pub HasStatus : Ended → Type 0
HasStatus ended = ended.status ≡ status_of ended.status ended.why

run_status : (e : MachineEnd) → HasStatus (ended_by e)
run_status (end.Exited status) = refl
run_status (end.TagFault at pointer_tag memory_tag) = refl
run_status (end.MemoryFault at) = refl
run_status (end.AlignFault at) = refl
run_status end.StackFault = refl
run_status (end.BadCode at) = refl
run_status end.Divide = refl
run_status end.OutOfSteps = refl
run_status end.InputFault = refl
run_status end.OutputFault = refl

answer_status : (a : Answer) → HasStatus (ended_of a)
answer_status answer.Done = refl
answer_status (answer.Ran end) = run_status end
answer_status (answer.Undefined file place why) = refl
answer_status answer.Usage = refl
answer_status (answer.Refused file place refusal) = refl
answer_status (answer.NoFile file) = refl
answer_status (answer.Link refusal) = refl
answer_status (answer.BadObject file refusal) = refl
answer_status (answer.BadImage file refusal) = refl
answer_status (answer.BadDump file refusal) = refl
answer_status answer.NoMemory = refl
answer_status (answer.WriteFault file) = refl
answer_status answer.OutputFault = refl
answer_status (answer.ReadFault file) = refl

pub has_status : (ended : Ended) (a : Answer) → ended ≡ ended_of a → ended.status ≡ status_of ended.status ended.why
has_status ended a is = subst HasStatus (sym is) (answer_status a)
