use Rattle.std.proofs.Common.{subst}
use Rattle.block_meaning.specs.Memory.{object, read_scalar}
use Rattle.block_meaning.specs.Operators.{stepped}
use Rattle.mean_effects.specs.Effects.{step_written}
use Rattle.mean_effects.specs.Laws.Giving.{done-then, stopped-then}
use Rattle.mean_effects.specs.Shown.{Gives}
use Rattle.mean_effects.proofs.stepping.step_effect.Goals as goal

pub returns-in-Some : goal.returns-in-Some
returns-in-Some c = λ here now of_here of_now.
    let a = c.args in
    let e = a.e.now in
    done-then (read_scalar here e.span (object e.ty a.p) now) (λ v. step_written here a.s e a.p v (stepped here a.s e.ty v)) c.in-Ok.is
    (c.read_scalar.ensures here now of_here of_now) (λ after shown.
    subst (λ w. Gives c.write_stepped.new.n after c.write_stepped.result (step_written here a.s e a.p c.in-Ok.old w after))
    (c.in-Some.ensures here of_here) (c.write_stepped.ensures here after of_here shown))

pub returns-in-Err : goal.returns-in-Err
returns-in-Err c = λ here now of_here of_now.
    let a = c.args in
    let e = a.e.now in
    stopped-then (read_scalar here e.span (object e.ty a.p) now) (λ v. step_written here a.s e a.p v (stepped here a.s e.ty v)) c.in-Err.is
    (c.read_scalar.ensures here now of_here of_now)
