use Rattle.std.proofs.Common.{◌≡◌, ◌/◌, sym, subst, arith, eqb, false}
use Rattle.std.specs.List.{dedup}
use Rattle.std.specs.List.Sorted.{IsStrictlyIncreasing}
use Rattle.std.proofs.lemmas.List.Filters.{dedup_is}
use Rattle.std.proofs.lemmas.Map.Keys.{IsStrictlyIncreasing-dedup}
use Rattle.tag_pages.specs.declared.bounds.Bounds.{Bounds}
use Rattle.tag_pages.specs.Parts.{extents}
use Rattle.tag_pages.proofs.Mapped.{bounds_at, whole_at, holder_of}
use Rattle.tag_pages.proofs.Places.{number_kept}
use Rattle.tag_pages.proofs.numbers.numbers_of.Goals as goal

pub add_numbers-requires : goal.add_numbers-requires
add_numbers-requires c = record {
  whole =
      whole_at (extents c.args.regions.now) c.loop-region.region-index _ c.requires.whole
      (bounds_at c.args.regions.now c.loop-region.region-index _
      (omega (arith, c.loop-region-test.true, c.loop-region.auto.region-index-end)));
}

pub returns-clause-increasing : goal.returns-clause-increasing
returns-clause-increasing c =
    let kept = dedup_is eqb c.sort_unstable.new.self.items c.dedup.new.self.items c.dedup.ensures.filtered in
    subst IsStrictlyIncreasing (sym kept) (IsStrictlyIncreasing-dedup c.sort_unstable.new.self.items c.sort_unstable.ensures.sorted)

pub returns-clause-covers : goal.returns-clause-covers
returns-clause-covers c at mapped =
    let kept = dedup_is eqb c.sort_unstable.new.self.items c.dedup.new.self.items c.dedup.ensures.filtered in
    let holder = holder_of c.args.regions.now at mapped in
    let blank : Bounds = record { start = 0; bytes = 0; writable = false; executable = false } in
    number_kept c.loop-region.numbers.items c.sort_unstable.new.self.items c.dedup.new.self.items (at / 4096)
    c.sort_unstable.ensures.permutation kept
    (c.loop-region.invariant holder.place blank at
    (omega (arith, holder.in_range, c.loop-region-test.false, c.loop-region.auto.region-index-end)) (holder.holds blank))
