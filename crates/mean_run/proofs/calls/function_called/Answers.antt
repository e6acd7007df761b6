use Rattle.std.proofs.Common.{sym, subst, ap, ◌∙◌}
use Rattle.std.specs.Prelude.{slice_get}
use Rattle.mean_machine.specs.Evaluation.{function_called}
use Rattle.mean_run.specs.Calling.{called_answer}
use Rattle.mean_run.specs.Laws.Calls.{function-linked}
use Rattle.mean_effects.specs.Shown.{Gives}
use Rattle.mean_run.proofs.calls.function_called.Goals as goal

pub returns-in-OtherType : goal.returns-in-OtherType
returns-in-OtherType c = λ here n now of_here shown.
    subst (λ x. Gives n now (called_answer c.args.h.unit c.args.span x) (function_called here c.args.span c.args.number now))
    c.in-OtherType.is
    (function-linked c.args.h here n now c.args.span c.in-Some.file.now c.args.number c.in-Some-at.linked.now of_here shown
    (sym c.in-Some.ensures)
    (ap (λ l. slice_get l c.args.number) (sym c.deref.ensures.value) ∙ sym c.in-Some-at.ensures))

pub returns-in-Function : goal.returns-in-Function
returns-in-Function c = λ here n now of_here shown.
    subst (λ x. Gives n now (called_answer c.args.h.unit c.args.span x) (function_called here c.args.span c.args.number now))
    c.in-Function.is
    (function-linked c.args.h here n now c.args.span c.in-Some.file.now c.args.number c.in-Some-at.linked.now of_here shown
    (sym c.in-Some.ensures)
    (ap (λ l. slice_get l c.args.number) (sym c.deref.ensures.value) ∙ sym c.in-Some-at.ensures))
