use Rattle.mean_effects.specs.Answered.{copy_of}
use Rattle.mean_effects.specs.Laws.Storing.{gives-copied, gives-uncopied}
use Rattle.mean_effects.proofs.copying.copy_struct.Goals as goal

pub returns-in-Ok : goal.returns-in-Ok
returns-in-Ok c = λ here now of_here of_now.
    let a = c.args in
    gives-copied c.judged.new.n c.copy_onto.new.n here now (copy_of a.c) c.in-Some.from c.in-Some-access.to c.judged.result
    c.copy_onto.result tt (c.in-Some.ensures.is here of_here) (c.in-Some-access.ensures.is here of_here) c.in-Ok.is
    (c.judged.ensures here now of_here of_now) (λ after shown. c.copy_onto.ensures here after of_here shown)

pub returns-in-Err : goal.returns-in-Err
returns-in-Err c = λ here now of_here of_now.
    let a = c.args in
    gives-uncopied c.judged.new.n c.judged.new.n here now (copy_of a.c) c.in-Some.from c.in-Some-access.to c.judged.result c.in-Err.e
    (c.in-Some.ensures.is here of_here) (c.in-Some-access.ensures.is here of_here) c.in-Err.is (c.judged.ensures here now of_here of_now)
