use Rattle.mean_link.specs.Names.{is_among, declared_by}
use Rattle.mean_link.proofs.Tables.{filter_turn}
use Rattle.mean_link.proofs.names.declared.Goals as goal

pub loop-part-preserved : goal.loop-part-preserved
loop-part-preserved c =
    filter_turn (is_among c.args.known.now) declared_by c.args.parts.now c.loop-part.part-index c.part-item.result c.loop-part.names
    c.push_part.new.names c.loop-part-test.true c.part-item.is c.loop-part.invariant c.in_ok-push_part.ensures
