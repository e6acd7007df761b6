use Rattle.std.proofs.Common.{◌≡◌, sym, subst, ap, ◌∙◌, ◌∷◌, ◌++◌, Some}
use Rattle.std.specs.Prelude.{option_to_list}
use Rattle.mean_machine.specs.Frames.{GivesPlace}
use Rattle.mean_machine.specs.Steps.{resume}
use Rattle.mean_run.specs.Laws.Moving.{moves-here}
use Rattle.mean_run.specs.declared.process.Process.{Process}
use Rattle.mean_expressions.specs.declared.frames.Frame.TheVariants.{OnPlace}
use Rattle.mean_run.specs.Laws.Popping.{popped}
use Rattle.mean_run.specs.Processes.{Moves, world_of}
use Rattle.mean_run.proofs.steps.give_place.Goals as goal

pub returns-in-Some-OnPlace : goal.returns-in-Some-OnPlace
returns-in-Some-OnPlace c = λ here k now is.
    let p = c.args.p.now in
    let w = c.in-Some-OnPlace in
    let q = popped k p.stack.items c.pop.new.self.items (OnPlace w.frame) (world_of p) here
    (c.pop.ensures.items ∙ ap (λ x. c.pop.new.self.items ++ option_to_list x) (w.is ∙ ap Some w.field-0-is)) is.stack in
    let after : Process = record { now = c.place_given.new.n; locals = p.locals; stack = c.place_given.new.stack; here = p.here } in
    subst (λ x. Moves after now c.place_given.result (resume (GivesPlace c.args.at) here x now)) (sym (q.is ∙ ap (λ x. x ∷ q.below) q.shown.0))
    (moves-here {p = after} is.at (c.place_given.ensures (world_of p) here q.below now is.at.code q.shown.1 is.shown))
