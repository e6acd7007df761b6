use Rattle.mean_effects.specs.Laws.Storing.{now-with, gives-judged}
use Rattle.mean_effects.proofs.copying.judged.Goals as goal

pub returns : goal.returns
returns c = λ here now of_here of_now.
    let a = c.args in
    gives-judged (record a.n.now { memory = c.judged.new.self }) here now a.span a.a a.h.unit c.judged.result c.answered.result
    c.answered.ensures of_here.unit (now-with of_now (c.judged.ensures.kept now.blocks of_now.memory))
    (λ b at. c.judged.ensures.is now.blocks b of_now.memory at)
