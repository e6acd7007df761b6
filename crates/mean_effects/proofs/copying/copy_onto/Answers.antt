use Rattle.block_meaning.specs.Memory.{judged}
use Rattle.mean_effects.specs.Answered.{copy_of, copied_apart}
use Rattle.mean_effects.specs.Laws.Giving.{done-then, stopped-then}
use Rattle.mean_effects.proofs.copying.copy_onto.Goals as goal

pub returns-in-Ok : goal.returns-in-Ok
returns-in-Ok c = λ here now of_here of_now.
    let a = c.args in
    done-then (judged here a.c.target_span a.to now) (λ _. copied_apart here (copy_of a.c) a.to) c.in-Ok.is
    (c.judged.ensures here now of_here of_now) (λ after shown. c.copy_apart.ensures here after of_here shown)

pub returns-in-Err : goal.returns-in-Err
returns-in-Err c = λ here now of_here of_now.
    let a = c.args in
    stopped-then (judged here a.c.target_span a.to now) (λ _. copied_apart here (copy_of a.c) a.to) c.in-Err.is
    (c.judged.ensures here now of_here of_now)
