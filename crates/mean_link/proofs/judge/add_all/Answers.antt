use Rattle.std.proofs.Common.{subst, []}
use Rattle.std.proofs.Common.{◌∷◌}
use Rattle.mean_link.specs.Laws.NameLaws.{Adds}
use Rattle.mean_link.proofs.Tables.{adds_one_turn, adds_none}
use Rattle.mean_link.proofs.judge.add_all.Goals as goal

pub loop-name-init : goal.loop-name-init
loop-name-init c = adds_none c.args.known.now

pub loop-name-preserved : goal.loop-name-preserved
loop-name-preserved c =
    adds_one_turn c.args.names.now c.loop-name.name-index c.name-item.result c.args.known.now c.loop-name.known c.add.new.self
    c.loop-name-test.true c.name-item.is c.loop-name.invariant (rw c.as_slice.ensures at c.in_ok-add.ensures)
