use Rattle.std.proofs.Common.{◌≡◌, ◌<◌, ◌∙◌, ℕ, sym, ap, refl, arith, length, get_or}
use Rattle.std.proofs.Math.Path.{fun_ext}
use Rattle.mt_base.specs.Memory.{store_bytes}
use Rattle.tag_pages.specs.Pages.{byte_in_pages}
use Rattle.tag_pages.specs.Parts.{extents}
use Rattle.tag_pages.proofs.Filled.{
  byte_over,
  byte_over_zero,
  byte_over_last,
  byte_over_empty,
  IsCovered,
  covered_bytes,
  all_covered,
  last_of,
  front_of,
}
use Rattle.tag_pages.proofs.fill.fill.Goals as goal

pub loop-region-init : goal.loop-region-init
loop-region-init c = record {
  paged = c.requires.paged;
  covered = all_covered (extents c.args.bounds.now) c.args.regions.items c.requires.bounds;
  bytes = ap (byte_over c.args.regions.items) c.requires.zero ∙ fun_ext (λ at. byte_over_zero c.args.regions.items at);
  tags = refl;
}

-- each byte of a region is in one
pub scatter-requires-clause-mapped : goal.scatter-requires-clause-mapped
scatter-requires-clause-mapped c =
    rw c.deref.ensures.value
    (covered_bytes (extents c.args.bounds.now) c.in-Some.region
    (last_of (IsCovered (extents c.args.bounds.now)) c.pop.new.self.items c.loop-region.regions.items c.in-Some.region
    c.in-Some.ensures.items c.loop-region.invariant.covered))

pub loop-region-preserved : goal.loop-region-preserved
loop-region-preserved c =
    let held : ℕ → ℕ = byte_in_pages (extents c.args.bounds.now) c.args.numbers.now c.loop-region.pages in
    let small : (k : ℕ) → get_or c.in-Some.region.bytes.items k 0 < 256 = rw c.deref.ensures.value at c.scatter.ensures.in_range in
    record {
      paged = c.scatter.ensures.paged;
      covered =
          front_of (IsCovered (extents c.args.bounds.now)) c.pop.new.self.items c.loop-region.regions.items c.in-Some.region
          c.in-Some.ensures.items c.loop-region.invariant.covered;
      bytes =
          ap (byte_over c.pop.new.self.items)
          (c.scatter.ensures.bytes ∙ ap (store_bytes held c.in-Some.region.start) c.deref.ensures.value)
          ∙ sym (byte_over_last c.pop.new.self.items c.in-Some.region held small)
          ∙ ap (λ rs. byte_over rs held) (sym c.in-Some.ensures.items)
          ∙ c.loop-region.invariant.bytes;
      tags = c.scatter.ensures.tags ∙ c.loop-region.invariant.tags;
    }

pub returns-clause-bytes : goal.returns-clause-bytes
returns-clause-bytes c =
    sym (byte_over_empty c.loop-region.regions.items (byte_in_pages (extents c.args.bounds.now) c.args.numbers.now c.loop-region.pages)
    (omega (arith, c.loop-region.regions.ok.0, c.in_default.ensures.cases.0)))
    ∙ c.loop-region.invariant.bytes
