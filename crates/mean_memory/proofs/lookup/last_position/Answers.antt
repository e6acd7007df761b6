use Rattle.std.proofs.Common.{rules, refl, arith, ◌-◌, ◌<◌, length}
use Rattle.std.proofs.lemmas.Option.{slice_get_read}
use Rattle.mean_memory.proofs.lookup.last_position.Goals as goal

pub returns-then-slots-index : goal.returns-then-slots-index
returns-then-slots-index c =
    let within = c.loop-index.invariant.0 in
    let test = c.loop-index-test.true in
    let below : c.loop-index.index - 1 < length c.args.slots.now = omega arith in
    record {
      slot = c.index-slots-index.result;
      is = slice_get_read c.args.slots.now (length c.args.slots.now) (c.loop-index.index - 1) c.index-slots-index.result refl below
          c.index-slots-index.is;
      named = search rules;
    }
