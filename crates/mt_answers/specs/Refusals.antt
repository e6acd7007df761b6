-- Refusals as the program holds them, and what is answered to them.
use Rattle.std.specs.Prelude.{ℕ}
use Rattle.mt_compile.specs.Causes.{without_place}
use Rattle.mt_compile.specs.declared.refused.Refused.{Refused}
use Rattle.mt_compile.specs.declared.refusal.CompileRefusal.{CompileRefusal}
use Rattle.mt_compile.specs.declared.refusal.CompileRefusal.TheVariants as compile
use Rattle.elf_obj.specs.declared.refusal.ObjectRefusal.{ObjectRefusal}
use Rattle.elf_obj.specs.declared.refusal.ObjectRefusal.TheVariants as object
use Rattle.mt_answers.specs.Each.{file_number}
use Rattle.mt_answers.specs.declared.answer.Answer.{Answer}
use Rattle.mt_answers.specs.declared.answer.Answer.TheVariants as answer
use Rattle.mt_answers.specs.declared.refusal.BuildRefusal.{BuildRefusal}
use Rattle.mt_answers.specs.declared.refusal.BuildRefusal.TheVariants as build
use Rattle.linker.specs.declared.refusal.LinkRefusal.{LinkRefusal}
use Rattle.linker.specs.declared.refusal.LinkRefusal.TheVariants as link

-- the text of this number is refused so, at this byte
abbrev pub of_source : ℕ → CompileRefusal → ℕ → Refused BuildRefusal
of_source file compile.NoMemory place = without_place build.NoMemory
of_source file refusal place = record { refusal = build.Compile (file_number file) refusal; place = place }

-- the link is refused so
abbrev pub of_link : LinkRefusal → Refused BuildRefusal
of_link link.NoMemory = without_place build.NoMemory
of_link refusal = without_place (build.Link refusal)

-- the answer where the source of the file with this number is refused so, at this byte
abbrev pub answer_to_source : ℕ → CompileRefusal → ℕ → Answer
answer_to_source number compile.NoMemory place = answer.NoMemory
answer_to_source number refusal place = answer.Refused number place refusal

-- the answer where code is not linked
abbrev pub answer_to_link : LinkRefusal → Answer
answer_to_link link.NoMemory = answer.NoMemory
answer_to_link refusal = answer.Link refusal

-- the answer where the file with this number is no object's
abbrev pub answer_to_object : ℕ → ObjectRefusal → Answer
answer_to_object number object.NoMemory = answer.NoMemory
answer_to_object number refusal = answer.BadObject number refusal

-- the number of the file that an answer names, 0 where it names none
abbrev pub file_in : Answer → ℕ
file_in (answer.Undefined file place why) = file
file_in (answer.Refused file place refusal) = file
file_in (answer.NoFile file) = file
file_in (answer.BadObject file refusal) = file
file_in (answer.BadImage file refusal) = file
file_in (answer.BadDump file refusal) = file
file_in (answer.WriteFault file) = file
file_in (answer.ReadFault file) = file
file_in answer.Done = 0
file_in (answer.Ran end) = 0
file_in answer.Usage = 0
file_in (answer.Link refusal) = 0
file_in answer.NoMemory = 0
file_in answer.OutputFault = 0
