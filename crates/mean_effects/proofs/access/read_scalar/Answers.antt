use Rattle.std.proofs.Common.{Ok, Err}
use Rattle.block_meaning.specs.Memory.{object}
use Rattle.mean_effects.specs.declared.now.Now.{Now}
use Rattle.mean_effects.specs.Laws.Reading.{gives-scalar}
use Rattle.mean_effects.specs.Shown.{IsNow}
use Rattle.mean_effects.proofs.access.read_scalar.Goals as goal

pub returns-in-Ok : goal.returns-in-Ok
returns-in-Ok c = λ here now of_here of_now.
    let n : Now = record { memory = c.read.new.self; work = c.args.n.now.work; calls = c.args.n.now.calls } in
    let shown : IsNow n now = record {
      memory = c.read.ensures.kept now.blocks of_now.memory;
      work = of_now.work;
      calls = of_now.calls;
    } in
    gives-scalar n here now c.args.span (object c.args.ty.now c.args.at) c.in-Some.a c.args.h.unit (Ok c.in-Ok.v)
    (c.in-Some.ensures.is here of_here) of_here.unit shown (λ b at. c.in-Ok.ensures.is now.blocks b of_now.memory at)

pub returns-in-Err : goal.returns-in-Err
returns-in-Err c = λ here now of_here of_now.
    let n : Now = record { memory = c.read.new.self; work = c.args.n.now.work; calls = c.args.n.now.calls } in
    let shown : IsNow n now = record {
      memory = c.read.ensures.kept now.blocks of_now.memory;
      work = of_now.work;
      calls = of_now.calls;
    } in
    gives-scalar n here now c.args.span (object c.args.ty.now c.args.at) c.in-Some.a c.args.h.unit (Err c.in-Err.why)
    (c.in-Some.ensures.is here of_here) of_here.unit shown (λ b at. c.in-Err.ensures.is now.blocks b of_now.memory at)
