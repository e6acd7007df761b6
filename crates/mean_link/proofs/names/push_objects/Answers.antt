use Rattle.mean_link.specs.Names.{is_among, name_of}
use Rattle.mean_link.proofs.Tables.{filter_map_turn}
use Rattle.mean_link.proofs.names.push_objects.Goals as goal

pub loop-d-preserved : goal.loop-d-preserved
loop-d-preserved c =
    filter_map_turn (is_among c.args.known.now) name_of c.args.decls.now c.loop-d.d-index c.d-item.result c.args.names.now c.loop-d.names
    c.push_known.new.names c.loop-d-test.true c.d-item.is c.loop-d.invariant c.in_ok-push_known.ensures
