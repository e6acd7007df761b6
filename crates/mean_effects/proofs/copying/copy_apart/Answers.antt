use Rattle.std.proofs.Common.{sym, ◌∙◌}
use Rattle.mean_effects.specs.Answered.{copy_of}
use Rattle.mean_effects.specs.Laws.Storing.{gives-overlap, gives-apart}
use Rattle.mean_effects.proofs.copying.copy_apart.Goals as goal

pub returns-then-overlap : goal.returns-then-overlap
returns-then-overlap c = λ here now of_here of_now.
    let a = c.args in
    gives-overlap a.n.now here now (copy_of a.c) a.to a.h.unit (sym c.overlap.ensures ∙ c.if-overlap.true) of_here.unit

pub returns-else-overlap : goal.returns-else-overlap
returns-else-overlap c = λ here now of_here of_now.
    let a = c.args in
    gives-apart c.move_cells.new.n here now (copy_of a.c) a.to c.move_cells.result (sym c.overlap.ensures ∙ c.if-overlap.false)
    (c.move_cells.ensures now of_now)
