use Rattle.std.proofs.Common.{sym, ◌∙◌, ap}
use Rattle.c_types.specs.Files.{number_among}
use Rattle.c_types.specs.Placed.{put, placed}
use Rattle.c_types.proofs.OrderLaws.{placed_last}
use Rattle.c_types.proofs.ordered.at_numbers.Goals as goal

pub loop-item-preserved : goal.loop-item-preserved
loop-item-preserved g c =
    ap (λ l. placed g.T.Named.name_of c.args.names.now l c.pop.new.self)
    (c.put.ensures ∙ ap (λ n. put c.loop-item.places.items n c.in-Some.item)
    (c.number-number.ensures ∙ ap (number_among c.args.names.now) c.name.ensures))
    ∙ sym (placed_last g.T.Named.name_of c.args.names.now c.loop-item.places.items c.pop.new.self c.in-Some.item)
    ∙ ap (placed g.T.Named.name_of c.args.names.now c.loop-item.places.items) (sym c.in-Some.ensures) ∙ c.loop-item.invariant
