use Rattle.std.proofs.Common.{◌∙◌}
use Rattle.mean_start.specs.Files.{extern_as}
use Rattle.mean_start.proofs.Agreeing.{map_further}
use Rattle.mean_start.proofs.linking.externs_of.Goals as goal

pub loop-e-preserved : goal.loop-e-preserved
loop-e-preserved c = λ unit structs.
    map_further (extern_as c.args.units.now unit) c.as_slice-e-items.result.now c.loop-e.e-index c.e-item.result c.loop-e.made.items
    c.push.new.self.items c.linked.result c.loop-e-test.true c.e-item.is (c.loop-e.invariant unit structs)
    (c.linked.ensures unit (c.as_slice.ensures ∙ structs) c.requires) c.in_ok-push.ensures.items
