use Rattle.std.proofs.Common.{take, ◌+◌, ℕ, List, Option}
use Rattle.std.specs.List.{position_from}
use Rattle.block_meaning.specs.Linkage.{Definition, or_definition, object_at, is_object_named, AnObject}
use Rattle.mean_start.specs.Known.{where_true}
use Rattle.mean_start.proofs.Naming.{knows_as, object_more}
use Rattle.mean_start.proofs.names.add_objects.Goals as goal

pub loop-number-preserved : goal.loop-number-preserved
loop-number-preserved c = λ units found first knows.
    let unit = c.args.unit in
    let gs = c.args.globals.now in
    let i = c.loop-number.number in
    let g = c.index-globals-number.result in
    let before : List ℕ → Option Definition = λ n. or_definition (found n) (object_at unit (position_from (is_object_named n) 0
    (take i gs))) in
    knows_as c.add_object.new.names units (λ n. or_definition (before n) (where_true (is_object_named n g) (AnObject unit i)))
    (λ n. or_definition (found n) (object_at unit (position_from (is_object_named n) 0 (take (i + 1) gs))))
    (λ n. object_more unit (is_object_named n) gs i g (found n) c.loop-number-test.true c.index-globals-number.is)
    (c.in_ok-add_object.ensures units before first (c.loop-number.invariant units found first knows))
