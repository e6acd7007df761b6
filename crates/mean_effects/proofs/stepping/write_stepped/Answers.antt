use Rattle.std.specs.Prelude.{if◌then◌else◌}
use Rattle.block_meaning.specs.Memory.{object, write}
use Rattle.block_meaning.specs.Operators.{gives_old}
use Rattle.block_meaning.specs.Running.{gives}
use Rattle.mean_effects.specs.Laws.Giving.{done-then, stopped-then, gives-value}
use Rattle.mean_effects.proofs.stepping.write_stepped.Goals as goal

pub returns-in-Ok : goal.returns-in-Ok
returns-in-Ok c = λ here now of_here of_now.
    let a = c.args in
    let e = a.o.0.now in
    done-then (write here e.span (object e.ty a.o.1) a.v.new now) (λ _. gives (if gives_old a.s then a.v.old else a.v.new)) c.in-Ok.is
    (c.write.ensures here now of_here of_now) (λ after shown. gives-value c.chosen.ensures shown)

pub returns-in-Err : goal.returns-in-Err
returns-in-Err c = λ here now of_here of_now.
    let a = c.args in
    let e = a.o.0.now in
    stopped-then (write here e.span (object e.ty a.o.1) a.v.new now) (λ _. gives (if gives_old a.s then a.v.old else a.v.new)) c.in-Err.is
    (c.write.ensures here now of_here of_now)
