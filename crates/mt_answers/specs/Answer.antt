-- What a caller sees of an answer as the program holds it.
use Rattle.std.specs.Prelude.{◌≡◌, ◌⊎◌}
use Rattle.mt_compile.specs.Refused.{number_of}
use Rattle.elf_obj.specs.Refusal.{number_of as object_number, place_of as object_place}
use Rattle.linker.specs.Refusal.{number_of as link_number}
use Rattle.memtag_dump.specs.Refusal.{number_of as dump_number, place_of as dump_place}
use Rattle.mt_answers.specs.Status.{ends, ended_by, run_number, run_place}
use Rattle.mt_answers.specs.declared.answer.Answer.{Answer}
use Rattle.mt_answers.specs.declared.answer.Answer.TheVariants as answer
use Rattle.mt_answers.specs.declared.ended.Ended.{Ended}
use Rattle.mt_answers.specs.declared.ended.Why.{Why}
use Rattle.mt_answers.specs.declared.ended.Why.TheVariants.{Done, Usage, Refused, NoFile, Link, BadImage, NoMemory, WriteFault}
use Rattle.mt_answers.specs.declared.ended.Why.TheVariants.{OutputFault, ReadFault, UndefinedStep}

-- the status and the reason of an answer
abbrev pub ended_of : Answer → Ended
ended_of answer.Done = ends Done
ended_of (answer.Ran end) = ended_by end
ended_of (answer.Undefined file place why) = ends (UndefinedStep why file place)
ended_of answer.Usage = ends Usage
ended_of (answer.Refused file place refusal) = ends (Refused file (number_of refusal) place)
ended_of (answer.NoFile file) = ends (NoFile file)
ended_of (answer.Link refusal) = ends (Link (link_number refusal))
ended_of (answer.BadObject file refusal) = ends (BadImage file (object_number refusal) (object_place refusal))
ended_of (answer.BadImage file refusal) = ends (BadImage file (run_number refusal) (run_place refusal))
ended_of (answer.BadDump file refusal) = ends (BadImage file (dump_number refusal) (dump_place refusal))
ended_of answer.NoMemory = ends NoMemory
ended_of (answer.WriteFault file) = ends (WriteFault file)
ended_of answer.OutputFault = ends OutputFault
ended_of (answer.ReadFault file) = ends (ReadFault file)

-- memory is wanting, or the answer is one for a reason that has its cause
abbrev pub IsAnswerTo : (Why → Type 0) → Answer → Type 0
IsAnswerTo Cause given = (given ≡ answer.NoMemory) ⊎ ((why : Why) × (ended_of given ≡ ends why) × Cause why)
