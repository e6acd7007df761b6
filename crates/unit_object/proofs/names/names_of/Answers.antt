use Rattle.unit_object.proofs.NameLaws.{one_more}
use Rattle.unit_object.proofs.names.names_of.Goals as goal

pub loop-part-preserved : goal.loop-part-preserved
loop-part-preserved c =
    one_more c.args.parts.now c.loop-part.part-index c.part-item.result _ _ c.loop-part-test.true c.part-item.is c.loop-part.invariant
    c.in_ok-add_part.ensures
