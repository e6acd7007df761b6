use Rattle.std.proofs.Common.{ℕ, ◌/◌, false, arith, get_or, refl}
use Rattle.tag_mem.specs.Regions.{IsWhole}
use Rattle.mt_base.specs.Memory.{is_mapped}
use Rattle.tag_pages.specs.declared.bounds.Bounds.{Bounds}
use Rattle.tag_pages.specs.Parts.{extent, extents}
use Rattle.tag_pages.proofs.Mapped.{IsAt, IsBetween, between_parts, bounds_at, whole_at, mapped_at_region}
use Rattle.tag_pages.proofs.Places.{found, not_missed}
use Rattle.tag_pages.proofs.Parts.{Spans, is_part_at}
use Rattle.tag_pages.proofs.part.part_of.Goals as goal

blank : Bounds
blank = record { start = 0; bytes = 0; writable = false; executable = false }

pub overflow_add-region : goal.overflow_add-region
unfolding blank
overflow_add-region c =
    let b : Bounds = get_or c.args.regions.now c.args.place blank in
    let here = bounds_at c.args.regions.now c.args.place blank c.requires.in_range in
    let whole = whole_at (extents c.args.regions.now) c.args.place (extent b) c.requires.laid_out.whole here in
    let held = between_parts b.start b.bytes c.args.at (c.requires.holds blank) in
    omega (arith, whole.within, held.from, held.below)

-- the page of an address of a region has a number
pub unreachable-requires : goal.unreachable-requires
unreachable-requires c =
    let b : Bounds = get_or c.args.regions.now c.args.place blank in
    let here = bounds_at c.args.regions.now c.args.place blank c.requires.in_range in
    not_missed c.args.numbers.now (c.args.at / 4096) c.in-Err.field-0 c.requires.laid_out.increasing
    (c.requires.laid_out.covers c.args.at
    (mapped_at_region (extents c.args.regions.now) c.args.place (extent b) c.args.at here (c.requires.holds blank)))
    c.in-Err.ensures.position

pub returns-clause-part : goal.returns-clause-part
unfolding blank
returns-clause-part c =
    let b : Bounds = get_or c.args.regions.now c.args.place blank in
    let here = bounds_at c.args.regions.now c.args.place blank c.requires.in_range in
    let whole = whole_at (extents c.args.regions.now) c.args.place (extent b) c.requires.laid_out.whole here in
    let held = between_parts b.start b.bytes c.args.at (c.requires.holds blank) in
    let there = found c.args.numbers.now (c.args.at / 4096) c.in-Ok.page c.requires.laid_out.increasing c.in-Ok.ensures.position in
    is_part_at (extents c.args.regions.now) c.args.numbers.now c.args.place (extent b) c.args.at
    (record { first = c.max.result; last = c.min.result; page = c.in-Ok.page; writable = b.writable; executable = b.executable })
    c.requires.laid_out here
    (record {
      first_from = omega (arith, c.max.ensures);
      first_page = omega (arith, c.max.ensures);
      first_at = omega (arith, c.max.ensures, held.from);
      last_at = omega (arith, c.min.ensures, held.below);
      last_below = omega (arith, c.min.ensures, held.from, held.below);
      last_page = omega (arith, c.min.ensures);
      first_whole = omega (arith, c.max.ensures, whole.start_whole);
      last_whole = omega (arith, c.min.ensures, whole.start_whole, whole.bytes_whole, held.from, held.below);
    })
    there.0 there.1 refl refl
