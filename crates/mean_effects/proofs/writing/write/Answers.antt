use Rattle.mean_effects.specs.Laws.Storing.{gives-write}
use Rattle.mean_effects.specs.Objects.{object_of}
use Rattle.mean_effects.proofs.writing.write.Goals as goal

pub returns : goal.returns
returns c = λ here now of_here of_now.
    let a = c.args in
    gives-write a.n.now c.write.new.self here now a.span (object_of a.o) a.v c.in-Some.a a.h.unit c.write.result c.answered.result
    c.answered.ensures (c.in-Some.ensures.is here of_here) of_here.unit of_now
    (λ b at. c.write.ensures now.blocks b of_now.memory at)
