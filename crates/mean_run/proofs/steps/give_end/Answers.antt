use Rattle.std.proofs.Common.{◌≡◌, sym, subst, ap, ◌∙◌, ◌∷◌, ◌++◌, Some}
use Rattle.std.specs.Prelude.{option_to_list}
use Rattle.mean_machine.specs.Frames.{Finished}
use Rattle.mean_machine.specs.Steps.{resume}
use Rattle.mean_run.specs.Laws.Moving.{moves-here}
use Rattle.mean_run.specs.declared.process.Process.{Process}
use Rattle.mean_expressions.specs.declared.frames.Frame.TheVariants.{OnDone}
use Rattle.mean_run.specs.Laws.Popping.{popped}
use Rattle.mean_run.specs.Processes.{Moves, world_of}
use Rattle.mean_run.proofs.steps.give_end.Goals as goal

pub returns-in-Some-OnDone : goal.returns-in-Some-OnDone
returns-in-Some-OnDone c = λ here k now is.
    let p = c.args.p.now in
    let w = c.in-Some-OnDone in
    let q = popped k p.stack.items c.pop.new.self.items (OnDone w.frame) (world_of p) here
    (c.pop.ensures.items ∙ ap (λ x. c.pop.new.self.items ++ option_to_list x) (w.is ∙ ap Some w.field-0-is)) is.stack in
    let after : Process = record { now = c.done_given.new.n; locals = p.locals; stack = c.done_given.new.stack; here = p.here } in
    subst (λ x. Moves after now c.done_given.result (resume (Finished) here x now)) (sym (q.is ∙ ap (λ x. x ∷ q.below) q.shown.0))
    (moves-here {p = after} is.at (c.done_given.ensures (world_of p) here q.below now is.at.code q.shown.1 is.shown))
