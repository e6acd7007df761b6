use Rattle.std.proofs.Common.{◌≡◌, ◌+◌, ◌-◌, length, arith}
use Rattle.gen_unit.specs.Appended.{form, targets_of}
use Rattle.gen_unit.proofs.Turns.{stands_next}
use Rattle.gen_unit.proofs.items.push_items.Goals as goal

pub loop-item-preserved : goal.loop-item-preserved
loop-item-preserved c =
    let before = c.loop-item.out.words in
    let behind = c.push_item.new.out.words in
    let next : c.in_ok-place.place ≡ c.loop-item.place + (length behind.items - length before.items) =
    omega (arith, c.in_ok-place.ensures.is, c.len-before.ensures, c.len.ensures, before.ok.0, behind.ok.0) in
    stands_next (form c.args.frame.now c.args.labels.now.long) (targets_of c.args.labels.now) c.args.at c.args.items.now
    c.loop-item.item-index c.loop-item.place c.in_ok-place.place c.item-item.result c.args.out.now c.loop-item.out c.push_item.new.out
    c.loop-item-test.true c.item-item.is c.loop-item.invariant c.in_ok-push_item.ensures next c.in_ok-place.ensures.near
