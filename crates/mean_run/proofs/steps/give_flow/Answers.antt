use Rattle.std.proofs.Common.{◌≡◌, sym, subst, ap, ◌∙◌, ◌∷◌, ◌++◌, Some}
use Rattle.std.specs.Prelude.{option_to_list}
use Rattle.mean_machine.specs.Frames.{GivesFlow}
use Rattle.mean_machine.specs.Steps.{resume}
use Rattle.mean_expressions.specs.declared.frames.Frame.TheVariants.{OnFlow}
use Rattle.mean_run.specs.Laws.Popping.{popped}
use Rattle.mean_expressions.specs.Stacked.{flow_of}
use Rattle.mean_run.specs.Processes.{Moves, world_of}
use Rattle.mean_run.proofs.steps.give_flow.Goals as goal

pub returns-in-Some-OnFlow : goal.returns-in-Some-OnFlow
returns-in-Some-OnFlow c = λ here k now is.
    let p = c.args.p.now in
    let w = c.in-Some-OnFlow in
    let q = popped k p.stack.items c.pop.new.self.items (OnFlow w.frame) (world_of p) here
    (c.pop.ensures.items ∙ ap (λ x. c.pop.new.self.items ++ option_to_list x) (w.is ∙ ap Some w.field-0-is)) is.stack in
    subst (λ x. Moves c.flow_given.new.p now c.flow_given.result (resume (GivesFlow (flow_of c.args.flow)) here x now)) (sym q.is)
    (c.flow_given.ensures here q.below q.top now is.at is.shown q.shown)
