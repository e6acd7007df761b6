-- What the command `dump` answers where there is no text, as the program holds it.
use Rattle.memtag_dump.specs.declared.refusal.DumpRefusal.{DumpRefusal}
use Rattle.memtag_dump.specs.declared.refusal.DumpRefusal.TheVariants.{NoMemory}
use Rattle.mt_answers.specs.declared.answer.Answer.{Answer}
use Rattle.mt_answers.specs.declared.answer.Answer.TheVariants as answer

abbrev pub answer_to_dump : DumpRefusal → Answer
answer_to_dump NoMemory = answer.NoMemory
answer_to_dump refusal = answer.BadDump 0 refusal
