use Rattle.std.proofs.Common.{◌≡◌, refl, sym, subst, ap, ◌∙◌, ◌∷◌, ◌++◌}
use Rattle.std.specs.Prelude.{option_to_list}
use Rattle.mean_machine.specs.Frames.{GivesValue}
use Rattle.mean_machine.specs.Steps.{resume}
use Rattle.mean_run.specs.Laws.Popping.{popped}
use Rattle.mean_run.specs.Processes.{Moves, world_of}
use Rattle.mean_run.proofs.steps.give_value.Goals as goal

pub returns-in-Some : goal.returns-in-Some
returns-in-Some c = λ here k now is.
    let p = c.args.p.now in
    let q = popped k p.stack.items c.pop.new.self.items c.in-Some.frame (world_of p) here
    (c.pop.ensures.items ∙ ap (λ x. c.pop.new.self.items ++ option_to_list x) c.in-Some.is) is.stack in
    subst (λ x. Moves c.value_for.new.p now c.value_for.result (resume (GivesValue c.args.v) here x now)) (sym q.is)
    (c.value_for.ensures here q.below q.top now is.at is.shown q.shown)
