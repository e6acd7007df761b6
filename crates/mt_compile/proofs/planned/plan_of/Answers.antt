use Rattle.std.proofs.Common.{subst, sym}
use Rattle.c_types.specs.Laws.PromiseLaws.{typed-laid_out}
use Rattle.c_types.specs.Laws.TypedObjects.{typed-objects}
use Rattle.mt_compile.specs.Planned.{IsPlanCause}
use Rattle.mt_compile.proofs.Causes.{plan_untyped, plan_cause}
use Rattle.mt_compile.proofs.planned.plan_of.Goals as goal

-- the text has no typed program
pub returns-in-Err-clause-refused : goal.returns-in-Err-clause-refused
returns-in-Err-clause-refused c = plan_untyped c.args.text.now c.in-Err.refused c.in-Err.ensures.refused

-- its structs are laid out, and its locals have types that objects may have
pub plan-requires-clause-laid_out : goal.plan-requires-clause-laid_out
plan-requires-clause-laid_out c = typed-laid_out c.in-Ok.ensures.typed.program c.in-Ok.typed c.in-Ok.ensures.typed.well

pub plan-requires-clause-objects : goal.plan-requires-clause-objects
plan-requires-clause-objects c = typed-objects c.in-Ok.ensures.typed.program c.in-Ok.typed c.in-Ok.ensures.typed.well

-- its program has lines
pub returns-in-Ok-plan-clause-lines : goal.returns-in-Ok-plan-clause-lines
returns-in-Ok-plan-clause-lines c =
    record { typed = c.in-Ok.typed; is = c.in-Ok.ensures.typed; lines_are = c.in-Ok-plan.ensures.found }

-- or has none
pub returns-clause-refused : goal.returns-clause-refused
returns-clause-refused c =
    subst (λ r. IsPlanCause c.args.text.now r) (sym c.of_plan.ensures)
    (plan_cause c.args.text.now c.in-Ok.typed c.in-Err-plan.refusal c.in-Ok.ensures.typed c.in-Err-plan.ensures.refused)
