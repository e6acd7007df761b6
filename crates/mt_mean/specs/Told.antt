-- What the command answers to the end of a run and to a refusal, as the program holds it.
use Rattle.a64_code.specs.declared.end.MachineEnd.TheVariants as machine
use Rattle.mean_program.specs.declared.end.MeanEnd.{MeanEnd}
use Rattle.mean_program.specs.declared.end.MeanEnd.TheVariants as end
use Rattle.mean_program.specs.declared.end.MeanFault.TheVariants as fault
use Rattle.mean_texts.specs.declared.refusal.MeanRefusal.{MeanRefusal}
use Rattle.mean_texts.specs.declared.refusal.MeanRefusal.TheVariants.{Compile, Link, Fault, NoMemory}
use Rattle.mt_answers.specs.Refusals.{answer_to_link}
use Rattle.mt_answers.specs.declared.answer.Answer.{Answer}
use Rattle.mt_answers.specs.declared.answer.Answer.TheVariants as answer

abbrev pub answer_to_end : MeanEnd → Answer
answer_to_end (end.Done status) = answer.Ran (machine.Exited status)
answer_to_end end.Divide = answer.Ran machine.Divide
answer_to_end end.Deep = answer.Ran machine.StackFault
answer_to_end end.More = answer.Ran machine.OutOfSteps
answer_to_end (end.Undefined why file span) = answer.Undefined file span.start (record { reason = why })

-- files that are typed have no refusal of a text
abbrev pub answer_to_refusal : MeanRefusal → Answer
answer_to_refusal (Link refusal) = answer_to_link refusal
answer_to_refusal (Fault fault.InputFault) = answer.Ran machine.InputFault
answer_to_refusal (Fault fault.OutputFault) = answer.Ran machine.OutputFault
answer_to_refusal (Fault fault.NoMemory) = answer.NoMemory
answer_to_refusal NoMemory = answer.NoMemory
answer_to_refusal (Compile file refusal) = answer.NoMemory
