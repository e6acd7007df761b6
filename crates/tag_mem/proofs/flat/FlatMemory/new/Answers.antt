use Rattle.std.proofs.Common.{ap, arith, length}
use Rattle.tag_mem.proofs.TagLists.{AreZeros, zeros_tag, zeros_have_tags}
use Rattle.tag_mem.proofs.flat.FlatMemory.new.Goals as goal

-- each region has its zeros when all were gone through
all_zero : (c : goal.After-loop-region) → AreZeros c.args.regions.items c.loop-region.tags.items
all_zero c = record {
  count =
      omega (
        arith,
        c.loop-region.invariant.count,
        c.loop-region-test.false,
        c.loop-region.auto.region-index-end,
        ap length c.deref-region-items.ensures.value,
      );
  zeros = λ k r t below. rw c.deref-region-items.ensures.value at
      (c.loop-region.invariant.zeros k r t (omega (arith, below, c.loop-region-test.false, ap length c.deref-region-items.ensures.value)));
}

pub invariant_of-result : goal.invariant_of-result
invariant_of-result c = record {
  placed = c.requires;
  tagged = zeros_have_tags c.args.regions.items c.loop-region.tags.items c.requires.whole (all_zero c);
}

pub returns-clause-tags : goal.returns-clause-tags
returns-clause-tags c granule = zeros_tag c.args.regions.items c.loop-region.tags.items granule (all_zero c.before)
