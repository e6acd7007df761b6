-- The answers to the end of a run, and their reasons.
use Rattle.std.proofs.Common.{◌≡◌, ◌≤◌, ℕ, sym, subst, ap, ◌∙◌}
use Rattle.a64_code.specs.declared.end.MachineEnd.{MachineEnd}
use Rattle.a64_code.specs.declared.end.MachineEnd.TheVariants as end
use Rattle.elf_image.specs.Image.{Image}
use Rattle.mte_machine.specs.Objects.{Objects}
use Rattle.tag_startup.specs.Machine.{ending}
use Rattle.mt_pipeline.specs.Agrees.{ExitsAlways}
use Rattle.mt_words.specs.Jobs.{RunOptions}
use Rattle.mt_pipeline.specs.Ran.{RunsTo}
use Rattle.mt_answers.specs.Status.{ended_by, ended_so, why_of, ComesBeforeRun}
use Rattle.mt_answers.specs.declared.ended.Ended.{Ended}
use Rattle.mt_answers.specs.declared.ended.Why.TheVariants.{Exited, Usage}

-- no run ends as a call does that runs nothing
pub ran_after : (e : MachineEnd) → ComesBeforeRun (why_of e) → ⊥
ran_after (end.Exited status) before = before
ran_after (end.TagFault at pointer_tag memory_tag) before = before
ran_after (end.MemoryFault at) before = before
ran_after (end.AlignFault at) before = before
ran_after end.StackFault before = before
ran_after (end.BadCode at) before = before
ran_after end.Divide before = before
ran_after end.OutOfSteps before = before
ran_after end.InputFault before = before
ran_after end.OutputFault before = before

pub ran_not_usage : (e : MachineEnd) → why_of e ≡ Usage → ⊥
ran_not_usage e is = ran_after e (subst ComesBeforeRun (sym is) tt)

-- an image that exits always is answered so where three steps may run
pub exits_late : {S K : Type 0} (image : Image) (status : ℕ) (options : RunOptions) (before after : Objects S K) (ended : Ended) →
    ExitsAlways image status → RunsTo image options before after ended → 3 ≤ options.steps →
    ended ≡ ended_so status Exited
exits_late image status options before after ended always to enough =
    let runs = to.runs in
    to.answered ∙ ap ended_by
    ((always.exits options.choices options.stack options.steps runs.outside (ending to.end runs.output runs.left) runs.machine).late enough)
