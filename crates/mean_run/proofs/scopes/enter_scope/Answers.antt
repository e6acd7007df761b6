use Rattle.std.proofs.Common.{sym, ◌∙◌, subst, ◌∷◌}
use Rattle.block_meaning.specs.Locals.{new_locals}
use Rattle.mean_machine.specs.Frames.{OnFlow, Scope}
use Rattle.mean_machine.specs.Going.{Stand, by}
use Rattle.mean_run.specs.Entering.{Enters}
use Rattle.mean_run.specs.Laws.Scopes.{enters-spent, scope-with}
use Rattle.mean_expressions.specs.Stacked.{numbers_of}
use Rattle.mean_run.proofs.scopes.enter_scope.Goals as goal

pub returns-in-Ok : goal.returns-in-Ok
returns-in-Ok c = λ inside here k now process.
    let ns = numbers_of c.args.d in
    let any = sym c.declares.ensures ∙ c.if-declares.true in
    let next : Stand = by (new_locals here ns) (λ inner. inside inner (OnFlow (Scope here ns) ∷ k)) in
    subst (Enters c.enter_locals.new.p now c.enter_locals.result inside) (sym (scope-with here k ns inside now any))
    (enters-spent inside next c.in-Ok.is (c.spend.ensures now process.shown) (λ after shown.
    c.enter_locals.ensures inside here k after (record { at = process.at; stack = process.stack; shown = shown }) any))
