use Rattle.std.proofs.Common.{refl, sym, ◌∙◌, subst, ◌∷◌, []}
use Rattle.block_meaning.specs.Running.{Context}
use Rattle.mean_machine.specs.Frames.{OnFlow, Scope}
use Rattle.mean_machine.specs.Going.{Stand}
use Rattle.std.proofs.lemmas.List.{with_items_is}
use Rattle.std.specs.Vec.{with_items}
use Rattle.mean_run.specs.declared.process.Process.{Process}
use Rattle.mean_run.specs.Entering.{Origin, Made}
use Rattle.mean_run.specs.Laws.Scopes.{enters-in-call, enters-pushed, made-none}
use Rattle.mean_expressions.specs.Stacked.{numbers_of}
use Rattle.mean_run.proofs.scopes.enter_locals.Goals as goal

pub returns-in-Ok : goal.returns-in-Ok
returns-in-Ok c = λ inside here k now process any.
    let p = c.args.p.now in
    let o : Origin = record { here = here; locals = p.locals.items; start = now } in
    let ns = numbers_of c.args.d in
    let f : Context → Stand = λ inner. inside inner (OnFlow (Scope here ns) ∷ k) in
    let after : Process =
    record { now = c.open.new.n; locals = with_items p.locals c.open.new.locals; stack = c.push.new.stack; here = p.here } in
    enters-in-call after now c.push.result inside here ns f any (λ call runs.
    enters-pushed {p = after} c.push.result k inside c.args.d p.locals.items p.stack.items refl
    (subst (Made p.here o ns c.open.new.n)
    (sym (with_items_is p.locals c.open.new.locals (c.open.auto.locals ∙ c.deref_mut.ensures.len)))
    (c.in-Ok.ensures o (subst (Made p.here o [] p.now) (sym c.deref_mut.ensures.value) (made-none call process.at runs process.shown))))
    c.push.ensures process.at process.stack)
