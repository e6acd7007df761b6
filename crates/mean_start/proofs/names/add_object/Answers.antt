use Rattle.std.proofs.lemmas.Result.{on_ok_weaker}
use Rattle.block_meaning.specs.Linkage.{AnObject}
use Rattle.mean_start.proofs.Naming.{object_meant, object_named}
use Rattle.mean_start.proofs.names.add_object.Goals as goal

pub returns : goal.returns
returns c = on_ok_weaker c.add.result (λ added units found first knows.
    object_named c.add.new.names units found c.args.unit c.args.number c.as_slice.result.now c.args.g.now c.as_slice.ensures c.if-g.false
    (added units found (AnObject c.args.unit c.args.number)
    (object_meant units c.args.unit c.args.first c.in_ok-block.block c.args.number first c.in_ok-block.ensures) knows)) c.add.ensures
