use Rattle.std.proofs.Common.{false, arith, get_or}
use Rattle.std.proofs.lemmas.List.Elements.{All-set}
use Rattle.tag_pages.specs.declared.bounds.Bounds.{Bounds}
use Rattle.tag_pages.specs.Parts.{extent, extents, IsPart}
use Rattle.tag_pages.proofs.Mapped.{bounds_at, whole_at}
use Rattle.tag_pages.proofs.table.enter_region.Goals as goal
use Rattle.tag_pages.proofs.table.enter_region.Goals.{then-entry-parts, else-entry-parts}

blank : Bounds
blank = record { start = 0; bytes = 0; writable = false; executable = false }

pub overflow_add-region : goal.overflow_add-region
unfolding blank
overflow_add-region c =
    let b : Bounds = get_or c.args.regions.now c.args.place blank in
    let whole =
    whole_at (extents c.args.regions.now) c.args.place (extent b) c.requires.laid_out.whole
    (bounds_at c.args.regions.now c.args.place blank c.requires.in_range) in
    omega (arith, whole.within, c.loop-done-test.true)

pub loop-done-preserved : goal.loop-done-preserved
loop-done-preserved c = elim c.if-entry-parts.branch [
  | then-entry-parts w ↦
      rw w.parts-is
      (All-set (IsPart (extents c.args.regions.now) c.args.numbers.now) c.loop-done.parts c.entry_of-entry.result c.part_of-part.result
      c.part_of-part.ensures.part.is_part c.loop-done.invariant)
  | else-entry-parts w ↦ rw w.parts-is c.loop-done.invariant
]
