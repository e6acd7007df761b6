-- Why an image does not run, as the program holds it, and what a command answers then.
use Rattle.elf_image.specs.declared.refusal.ImageRefusal.{ImageRefusal}
use Rattle.elf_image.specs.declared.refusal.ImageRefusal.TheVariants as image
use Rattle.tag_startup.specs.declared.refusal.StartRefusal.{StartRefusal}
use Rattle.tag_startup.specs.declared.refusal.StartRefusal.TheVariants as start
use Rattle.mt_answers.specs.declared.answer.Answer.{Answer}
use Rattle.mt_answers.specs.declared.answer.Answer.TheVariants as answer
use Rattle.mt_answers.specs.declared.refusal.RunRefusal.{RunRefusal}
use Rattle.mt_answers.specs.declared.refusal.RunRefusal.TheVariants.{Image, Start, NoMemory}

-- it was not read
abbrev pub of_image : ImageRefusal → RunRefusal
of_image image.NoMemory = NoMemory
of_image refusal = Image refusal

-- it was not started
abbrev pub of_start : StartRefusal → RunRefusal
of_start start.NoMemory = NoMemory
of_start refusal = Start refusal

abbrev pub answer_to_run : RunRefusal → Answer
answer_to_run NoMemory = answer.NoMemory
answer_to_run refusal = answer.BadImage 0 refusal
