use Rattle.mean_effects.specs.Effects.{left_written, operation_gives}
use Rattle.mean_effects.specs.Laws.Giving.{done-then, stopped-then}
use Rattle.mean_effects.proofs.assigning.write_combined.Goals as goal

pub returns-in-Ok : goal.returns-in-Ok
returns-in-Ok c = λ here now of_here of_now.
    done-then (operation_gives here c.args.o now) (left_written here c.args.a) c.in-Ok.is
    (c.values_combined.ensures here now of_here of_now) (λ after shown. c.write_left.ensures here after of_here shown)

pub returns-in-Err : goal.returns-in-Err
returns-in-Err c = λ here now of_here of_now.
    stopped-then (operation_gives here c.args.o now) (left_written here c.args.a) c.in-Err.is
    (c.values_combined.ensures here now of_here of_now)
