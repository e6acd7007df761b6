use Rattle.std.proofs.Common.{refl, sym, ◌∙◌, subst, []}
use Rattle.std.proofs.lemmas.List.{with_items_is}
use Rattle.std.specs.Vec.{with_items}
use Rattle.mean_run.specs.declared.process.Process.{Process}
use Rattle.mean_run.specs.Entering.{Origin, Closed}
use Rattle.mean_expressions.specs.Stacked.{numbers_of}
use Rattle.mean_run.specs.Laws.Scopes.{closed-none, moves-left}
use Rattle.mean_run.proofs.scopes.leave_scope.Goals as goal

pub returns-in-Ok : goal.returns-in-Ok
returns-in-Ok c = λ here b inside.
    let p = c.args.p.now in
    let o : Origin = record { here = here; locals = p.locals.items; start = b.now } in
    let after : Process = record { now = c.close.new.n; locals = with_items p.locals c.close.new.locals; stack = p.stack; here = p.here } in
    moves-left {p = after} b.frames c.args.d c.args.flow p.locals.items refl
    (subst (Closed p.here o (numbers_of c.args.d) c.close.new.n)
    (sym (with_items_is p.locals c.close.new.locals (c.close.auto.locals ∙ c.deref_mut.ensures.len)))
    (c.in-Ok.ensures o (subst (Closed p.here o [] p.now) (sym c.deref_mut.ensures.value) (closed-none inside.at inside.shown))))
    inside.outside inside.stack
