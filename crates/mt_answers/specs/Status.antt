-- The status of each answer, and the numbers and places that are told of refusals (this project's own; 64, 65, 66, 71, 73 and 74
-- were chosen after sysexits.h).
use Rattle.std.specs.Prelude.{ℕ}
use Rattle.a64_code.specs.declared.end.MachineEnd.{MachineEnd}
use Rattle.a64_code.specs.declared.end.MachineEnd.TheVariants as end
use Rattle.linker.specs.Refusal.{number_of as link_number}
use Rattle.elf_image.specs.Refusal.{number_of as image_number, place_of as image_place}
use Rattle.tag_startup.specs.Refusal.{number_of as start_number, place_of as start_place}
use Rattle.mt_answers.specs.declared.ended.Ended.{Ended}
use Rattle.mt_answers.specs.declared.ended.Why.{Why}
use Rattle.mt_answers.specs.declared.ended.Why.TheVariants.{Done, Exited, Usage, Refused, NoFile, Link, BadImage, NoMemory}
use Rattle.mt_answers.specs.declared.ended.Why.TheVariants.{WriteFault, OutputFault, ReadFault, InputFault, OutOfSteps, UndefinedStep}
use Rattle.mt_answers.specs.declared.ended.Why.TheVariants.{TagFault, MemoryFault, AlignFault, StackFault, BadCode, Divide}
use Rattle.mt_compile.specs.Refused.{number_of as compile_number}
use Rattle.mt_answers.specs.declared.refusal.BuildRefusal.{BuildRefusal}
use Rattle.mt_answers.specs.declared.refusal.BuildRefusal.TheVariants as build
use Rattle.mt_answers.specs.declared.refusal.RunRefusal.{RunRefusal}
use Rattle.mt_answers.specs.declared.refusal.RunRefusal.TheVariants as run

-- `own` is the status of the program that was run
abbrev pub status_of : ℕ → Why → ℕ
status_of own Done = 0
status_of own Exited = own
status_of own Usage = 64
status_of own (Refused file number place) = 65
status_of own (NoFile file) = 66
status_of own (Link number) = 67
status_of own (BadImage file number place) = 68
status_of own NoMemory = 71
status_of own (WriteFault file) = 73
status_of own OutputFault = 73
status_of own (ReadFault file) = 74
status_of own InputFault = 74
status_of own (TagFault at pointer_tag memory_tag) = 80
status_of own (MemoryFault at) = 81
status_of own (AlignFault at) = 82
status_of own StackFault = 83
status_of own (BadCode at) = 84
status_of own Divide = 85
status_of own OutOfSteps = 86
status_of own (UndefinedStep why file place) = 87

-- what is answered for a reason, where the program that was run has this status of its own
abbrev pub ended_so : ℕ → Why → Ended
ended_so own why = record { status = status_of own why; why = why }

-- what is answered for a reason, where no program has a status of its own
abbrev pub ends : Why → Ended
ends why = ended_so 0 why

-- the end of a run as a reason, and the program's own status
abbrev pub why_of : MachineEnd → Why
why_of (end.Exited status) = Exited
why_of (end.TagFault at pointer_tag memory_tag) = TagFault at pointer_tag memory_tag
why_of (end.MemoryFault at) = MemoryFault at
why_of (end.AlignFault at) = AlignFault at
why_of end.StackFault = StackFault
why_of (end.BadCode at) = BadCode at
why_of end.Divide = Divide
why_of end.OutOfSteps = OutOfSteps
why_of end.InputFault = InputFault
why_of end.OutputFault = OutputFault

abbrev pub own_status : MachineEnd → ℕ
own_status (end.Exited status) = status
own_status _ = 0

-- what is answered to the end of a run
abbrev pub ended_by : MachineEnd → Ended
ended_by end = ended_so (own_status end) (why_of end)

-- the reasons that need no line: the program says by its status how it went
abbrev pub HasNoLine : Why → Type 0
HasNoLine Done = Unit {0}
HasNoLine Exited = Unit {0}
HasNoLine _ = ⊥

-- no program was run
abbrev pub ComesBeforeRun : Why → Type 0
ComesBeforeRun Usage = Unit {0}
ComesBeforeRun (Refused file number place) = Unit {0}
ComesBeforeRun (NoFile file) = Unit {0}
ComesBeforeRun (Link number) = Unit {0}
ComesBeforeRun (BadImage file number place) = Unit {0}
ComesBeforeRun NoMemory = Unit {0}
ComesBeforeRun (ReadFault file) = Unit {0}
ComesBeforeRun _ = ⊥

-- ---- the refusals of a link, of a build and of a run; want of memory, which is no refusal, has the number and the place 0

abbrev pub build_number : BuildRefusal → ℕ
build_number (build.Compile file refusal) = compile_number refusal
build_number (build.Link refusal) = link_number refusal
build_number build.NoMemory = 0

abbrev pub run_number : RunRefusal → ℕ
run_number (run.Image refusal) = image_number refusal
run_number (run.Start refusal) = start_number refusal
run_number run.NoMemory = 0

abbrev pub run_place : RunRefusal → ℕ
run_place (run.Image refusal) = image_place refusal
run_place (run.Start refusal) = start_place refusal
run_place run.NoMemory = 0
