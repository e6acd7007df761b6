use Rattle.std.proofs.Common.{◌≡◌, refl, sym, subst, ap, ◌∙◌, ◌∷◌, ◌++◌}
use Rattle.mean_machine.specs.Frames.{GivesValue}
use Rattle.mean_machine.specs.Steps.{resume}
use Rattle.mean_run.specs.declared.process.Process.{Process}
use Rattle.mean_run.specs.Laws.Moving.{moves-here}
use Rattle.mean_expressions.specs.Stacked.{FrameShown, Stacked}
use Rattle.mean_run.specs.Processes.{Moves, world_of}
use Rattle.mean_run.proofs.steps.value_for.Goals as goal

pub returns-in-OnOperand : goal.returns-in-OnOperand
returns-in-OnOperand c = λ here k g now at of_now shown.
    let p = c.args.p.now in
    let s = subst (λ x. FrameShown x (world_of p) here g (Stacked k p.stack.items)) c.in-OnOperand.is shown in
    let after : Process = record { now = c.operand_given.new.n; locals = p.locals; stack = c.operand_given.new.stack; here = p.here } in
    subst (λ x. Moves after now c.operand_given.result (resume (GivesValue c.args.v) here (x ∷ k) now)) (sym s.0)
    (moves-here {p = after} at (c.operand_given.ensures (world_of p) here k now at.code s.1 of_now))

pub returns-in-OnValue : goal.returns-in-OnValue
returns-in-OnValue c = λ here k g now at of_now shown.
    let p = c.args.p.now in
    let s = subst (λ x. FrameShown x (world_of p) here g (Stacked k p.stack.items)) c.in-OnValue.is shown in
    let after : Process = record { now = c.value_given.new.n; locals = p.locals; stack = c.value_given.new.stack; here = p.here } in
    subst (λ x. Moves after now c.value_given.result (resume (GivesValue c.args.v) here (x ∷ k) now)) (sym s.0)
    (moves-here {p = after} at (c.value_given.ensures (world_of p) here k now at.code s.1 of_now))
