use Rattle.std.proofs.Common.{subst, sym}
use Rattle.c_types.specs.Laws.PromiseLaws.{typed-laid_out}
use Rattle.c_types.specs.Laws.TypedObjects.{typed-objects}
use Rattle.mt_compile.specs.Planned.{IsPlanCause}
use Rattle.mt_compile.specs.Typed.{IsTyped}
use Rattle.mt_compile.proofs.Causes.{plan_untyped, plan_cause, types_unread, types_cause}
use Rattle.mt_compile.proofs.file.typed_file.Goals as goal

-- the text spells no program that is read
pub returns-in-Err-clause-refused : goal.returns-in-Err-clause-refused
returns-in-Err-clause-refused c =
    plan_untyped c.args.text.now c.in-Err.refused (types_unread c.args.text.now c.in-Err.refused c.in-Err.ensures.refused)

-- its program breaks a rule
pub returns-in-Err-check-clause-refused : goal.returns-in-Err-check-clause-refused
returns-in-Err-check-clause-refused c =
    subst (λ r. IsPlanCause c.args.text.now r) (sym c.of_types.ensures)
    (plan_untyped c.args.text.now _
    (types_cause c.args.text.now c.in-Ok.program c.in-Err-check.refusal c.in-Ok.ensures.spelled c.in-Err-check.ensures.refused))

-- its structs are laid out, and its locals have types that objects may have
pub frame_sizes-requires-clause-laid_out : goal.frame_sizes-requires-clause-laid_out
frame_sizes-requires-clause-laid_out c = typed-laid_out c.in-Ok.program c.in-Ok-check.typed c.in-Ok-check.ensures.typed

pub frame_sizes-requires-clause-objects : goal.frame_sizes-requires-clause-objects
frame_sizes-requires-clause-objects c = typed-objects c.in-Ok.program c.in-Ok-check.typed c.in-Ok-check.ensures.typed

-- its functions have frames
pub returns-in-Ok-frame_sizes-clause-file : goal.returns-in-Ok-frame_sizes-clause-file
returns-in-Ok-frame_sizes-clause-file c =
    record { spelled = c.in-Ok.ensures.spelled; well = c.in-Ok-check.ensures.typed; sizes_are = c.in-Ok-frame_sizes.ensures.found }

-- or are too many, or one is too large
pub returns-in-Err-frame_sizes-clause-refused : goal.returns-in-Err-frame_sizes-clause-refused
returns-in-Err-frame_sizes-clause-refused c =
    let is : IsTyped c.args.text.now c.in-Ok-check.typed =
    record { program = c.in-Ok.program; spelled = c.in-Ok.ensures.spelled; well = c.in-Ok-check.ensures.typed } in
    subst (λ r. IsPlanCause c.args.text.now r) (sym c.of_plan.ensures)
    (plan_cause c.args.text.now c.in-Ok-check.typed c.in-Err-frame_sizes.refusal is c.in-Err-frame_sizes.ensures.refused)
