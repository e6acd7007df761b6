use Rattle.std.proofs.Common.{refl}
use Rattle.block_meaning.specs.Memory.{object, write}
use Rattle.block_meaning.specs.Running.{gives}
use Rattle.mean_effects.specs.Laws.Giving.{done-then, stopped-then, gives-value}
use Rattle.mean_effects.proofs.assigning.write_left.Goals as goal

pub returns-in-Ok : goal.returns-in-Ok
returns-in-Ok c = λ here now of_here of_now.
    let a = c.args.a in
    let e = a.left.now in
    done-then (write here e.span (object e.ty a.at) c.args.v now) (λ _. gives c.args.v) c.in-Ok.is
    (c.write.ensures here now of_here of_now) (λ after shown. gives-value refl shown)

pub returns-in-Err : goal.returns-in-Err
returns-in-Err c = λ here now of_here of_now.
    let a = c.args.a in
    let e = a.left.now in
    stopped-then (write here e.span (object e.ty a.at) c.args.v now) (λ _. gives c.args.v) c.in-Err.is
    (c.write.ensures here now of_here of_now)
