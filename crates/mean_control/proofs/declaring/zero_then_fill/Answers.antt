use Rattle.std.proofs.Common.{◌∷◌}
use Rattle.mean_machine.specs.Execution.{zeroed}
use Rattle.mean_machine.specs.Frames.{Fill, Declared, OnDone, Runs}
use Rattle.mean_machine.specs.Going.{Stand}
use Rattle.mean_expressions.specs.Laws.Standing.{stands-then, stands-stop}
use Rattle.mean_effects.specs.Objects.{object_of}
use Rattle.mean_control.proofs.declaring.zero_then_fill.Goals as goal

pub returns-in-Ok : goal.returns-in-Ok
returns-in-Ok c = λ w here k now of_here stacked of_now.
    let o = object_of c.args.o in
    let i = c.args.i in
    let next : Unit {0} → Stand = λ u. Runs (Fill o i.init.now) here (OnDone (Declared i.rest.now) ∷ k) in
    stands-then (zeroed here o i.init.now now) next c.in-Ok.is (c.zeroed.ensures here now of_here of_now) (λ after shown.
    c.fill_first.ensures c.zeroed.new.n w here k after stacked shown)

pub returns-in-Err : goal.returns-in-Err
returns-in-Err c = λ w here k now of_here stacked of_now.
    let o = object_of c.args.o in
    let i = c.args.i in
    let next : Unit {0} → Stand = λ u. Runs (Fill o i.init.now) here (OnDone (Declared i.rest.now) ∷ k) in
    stands-stop (zeroed here o i.init.now now) next c.in-Err.is (c.zeroed.ensures here now of_here of_now)
