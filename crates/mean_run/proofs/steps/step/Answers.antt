use Rattle.std.proofs.Common.{◌≡◌, refl, sym, subst, ap, Result}
use Rattle.block_meaning.specs.Running.{State}
use Rattle.mean_machine.specs.Frames.{Machine}
use Rattle.mean_machine.specs.Steps as machine
use Rattle.mean_expressions.specs.declared.frames.Control.{Control}
use Rattle.mean_effects.specs.declared.now.Ending.{Ending}
use Rattle.mean_run.specs.declared.process.Process.{Process}
use Rattle.mean_run.specs.Laws.Moving.{moves-here, moves-free}
use Rattle.mean_effects.specs.Shown.{IsWindow}
use Rattle.mean_expressions.specs.Stacked.{standing}
use Rattle.mean_run.specs.Processes.{Moves, world_of}
use Rattle.mean_run.proofs.steps.step.Goals as goal
use Rattle.mean_run.proofs.steps.step.Goals.{in-Evaluate, in-Locate, in-Execute, in-Declare, in-Fill, in-GivesValue, in-GivesPlace, in-GivesFlow, in-Finished, in-Call}

-- the same process, answer and machine
moves_as : {p q : Process} {now : State} {r s : Result Control Ending} {m n : Machine} → p ≡ q → r ≡ s → m ≡ n → Moves q now s n →
    Moves p now r m
moves_as {p = p} {q = q} {now = now} {r = r} {s = s} {m = m} {n = n} same_p same_r same_m moves =
    subst (λ x. Moves x now r m) (sym same_p) (subst (λ x. Moves q now x m) (sym same_r) (subst (λ x. Moves q now s x) (sym same_m) moves))

pub returns : goal.returns
returns c = λ here k now is.
    let p = c.args.p.now in
    let machine_of : Control → Machine = λ x. machine.step (standing x here k now) in
    elim c.match-control.branch [
      | in-Evaluate w ↦ moves_as w.p-is w.result-is (ap machine_of w.in-Evaluate.is) (moves-here
          {p = record { now = w.evaluate.new.n; locals = p.locals; stack = w.evaluate.new.stack; here = p.here }} is.at
          (w.evaluate.ensures (world_of p) here k now is.at.code is.stack is.shown))
      | in-Locate w ↦ moves_as w.p-is w.result-is (ap machine_of w.in-Locate.is) (moves-here
          {p = record { now = w.locate.new.n; locals = p.locals; stack = w.locate.new.stack; here = p.here }} is.at
          (w.locate.ensures (world_of p) here k now is.at.code (subst (λ x. IsWindow x p.here here) (sym w.as_slice.ensures.value) is.at.window)
          is.stack is.shown))
      | in-Execute w ↦ moves_as w.p-is w.result-is (ap machine_of w.in-Execute.is) (w.execute.ensures here k now is)
      | in-Declare w ↦ moves_as w.p-is w.result-is (ap machine_of w.in-Declare.is) (moves-here
          {p = record { now = w.declare.new.n; locals = p.locals; stack = w.declare.new.stack; here = p.here }} is.at
          (w.declare.ensures (world_of p) here k now is.at.code
          (subst (λ x. IsWindow x p.here here) (sym w.as_slice-in-Declare.ensures.value) is.at.window) is.stack is.shown))
      | in-Fill w ↦ moves_as w.p-is w.result-is (ap machine_of w.in-Fill.is) (moves-here
          {p = record { now = w.fill.new.n; locals = p.locals; stack = w.fill.new.stack; here = p.here }} is.at
          (w.fill.ensures (world_of p) here k now is.at.code is.stack is.shown))
      | in-GivesValue w ↦ moves_as w.p-is w.result-is (ap machine_of w.in-GivesValue.is) (w.give_value.ensures here k now is)
      | in-GivesPlace w ↦ moves_as w.p-is w.result-is (ap machine_of w.in-GivesPlace.is) (w.give_place.ensures here k now is)
      | in-GivesFlow w ↦ moves_as w.p-is w.result-is (ap machine_of w.in-GivesFlow.is) (w.give_flow.ensures here k now is)
      | in-Finished w ↦ moves_as w.p-is w.result-is (ap machine_of w.in-Finished.is) (w.give_end.ensures here k now is)
      | in-Call w ↦ moves_as w.p-is w.result-is refl (moves-free p now (machine_of c.args.control))
    ]
