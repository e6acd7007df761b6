use Rattle.std.proofs.Common.{ap, ◌∷◌}
use Rattle.block_meaning.specs.Memory.{Object}
use Rattle.mean_machine.specs.Execution.{declared_object, zeroed}
use Rattle.mean_machine.specs.Frames.{Fill, Declared, OnDone, Runs}
use Rattle.mean_machine.specs.Going.{Stand, by}
use Rattle.mean_expressions.specs.Laws.Standing.{stands-then, stands-stop, stands-spent}
use Rattle.mean_effects.specs.Objects.{objects_of}
use Rattle.mean_control.proofs.declaring.initialise.Goals as goal

pub returns-in-Ok-declared_object : goal.returns-in-Ok-declared_object
returns-in-Ok-declared_object c = λ w here k now of_here window stacked of_now.
    let i = c.args.i in
    let run = declared_object here i.declaration.now in
    let next : Object → Stand = λ o.
    by (zeroed here o i.init.now) (λ u. Runs (Fill o i.init.now) here (OnDone (Declared i.rest.now) ∷ k)) in
    stands-spent (by run next) c.in-Ok.is (c.spend.ensures now of_now) (λ after shown.
    stands-then (run after) next (ap objects_of c.in-Ok-declared_object.is)
    (c.declared_object.ensures c.spend.new.n here after of_here window shown) (λ last shown'.
    c.zero_then_fill.ensures w here k last of_here stacked shown'))

pub returns-in-Err-declared_object : goal.returns-in-Err-declared_object
returns-in-Err-declared_object c = λ w here k now of_here window stacked of_now.
    let i = c.args.i in
    let run = declared_object here i.declaration.now in
    let next : Object → Stand = λ o.
    by (zeroed here o i.init.now) (λ u. Runs (Fill o i.init.now) here (OnDone (Declared i.rest.now) ∷ k)) in
    stands-spent (by run next) c.in-Ok.is (c.spend.ensures now of_now) (λ after shown.
    stands-stop (run after) next (ap objects_of c.in-Err-declared_object.is)
    (c.declared_object.ensures c.spend.new.n here after of_here window shown))
