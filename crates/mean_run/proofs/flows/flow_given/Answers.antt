use Rattle.std.proofs.Common.{sym, subst, ◌∷◌}
use Rattle.mean_machine.specs.Frames.{GivesFlow}
use Rattle.mean_machine.specs.Steps.{resume}
use Rattle.mean_expressions.specs.declared.frames.Frame.TheVariants.{OnFlow}
use Rattle.mean_run.specs.declared.process.Process.{Process}
use Rattle.mean_run.specs.Laws.Moving.{moves-here}
use Rattle.mean_expressions.specs.Stacked.{FrameShown, Stacked, flow_of}
use Rattle.mean_run.specs.Processes.{Moves, world_of}
use Rattle.mean_run.proofs.flows.flow_given.Goals as goal

pub returns-in-Items : goal.returns-in-Items
returns-in-Items c = λ here k g now at of_now shown.
    let p = c.args.p.now in
    let s = subst (λ x. FrameShown (OnFlow x) (world_of p) here g (Stacked k p.stack.items)) c.in-Items.is shown in
    let after : Process = record { now = p.now; locals = p.locals; stack = c.after_item.new.stack; here = p.here } in
    subst (λ x. Moves after now c.after_item.result (resume (GivesFlow (flow_of c.args.flow)) here (x ∷ k) now)) (sym s.0)
    (moves-here {p = after} at (c.after_item.ensures p.now (world_of p) here k now s.1 of_now))

pub returns-in-Body : goal.returns-in-Body
returns-in-Body c = λ here k g now at of_now shown.
    let p = c.args.p.now in
    let s = subst (λ x. FrameShown (OnFlow x) (world_of p) here g (Stacked k p.stack.items)) c.in-Body.is shown in
    let after : Process = record { now = c.after_body.new.n; locals = p.locals; stack = c.after_body.new.stack; here = p.here } in
    subst (λ x. Moves after now c.after_body.result (resume (GivesFlow (flow_of c.args.flow)) here (x ∷ k) now)) (sym s.0)
    (moves-here {p = after} at (c.after_body.ensures (world_of p) here k now s.1 of_now))

pub returns-in-Scope : goal.returns-in-Scope
returns-in-Scope c = λ here k g now at of_now shown.
    let p = c.args.p.now in
    let s = subst (λ x. FrameShown (OnFlow x) (world_of p) here g (Stacked k p.stack.items)) c.in-Scope.is shown in
    subst (λ x. Moves c.leave_scope.new.p now c.leave_scope.result (resume (GivesFlow (flow_of c.args.flow)) here (x ∷ k) now)) (sym s.is)
    (c.leave_scope.ensures here (record { outer = s.outer; frames = k; now = now })
    (record { at = at; outside = s.outside; stack = s.shown; shown = of_now }))

pub returns-in-Called : goal.returns-in-Called
returns-in-Called c = λ here k g now at of_now shown.
    let p = c.args.p.now in
    let s = subst (λ x. FrameShown (OnFlow x) (world_of p) here g (Stacked k p.stack.items)) c.in-Called.is shown in
    subst (λ x. Moves c.leave_call.new.p now c.leave_call.result (resume (GivesFlow (flow_of c.args.flow)) here (x ∷ k) now)) (sym s.is)
    (c.leave_call.ensures here s.call (record { outer = s.outer; frames = k; now = now })
    (record { number = s.number; outside = s.outside; stack = s.shown; shown = of_now }))
