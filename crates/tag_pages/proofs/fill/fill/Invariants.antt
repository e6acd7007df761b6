use Rattle.std.proofs.Common.{◌≡◌, length}
use Rattle.std.specs.List.{All}
use Rattle.tag_mem.specs.Regions.{byte_in}
use Rattle.tag_pages.specs.Pages.{byte_in_pages, tag_in_pages}
use Rattle.tag_pages.specs.Parts.{extents}
use Rattle.tag_pages.proofs.Filled.{byte_over, IsCovered}
use Rattle.tag_pages.proofs.fill.fill.Given as goal

-- with the regions that are left, the pages hold what all hold
pub record IsFilled (l : goal.Live-loop-region) : Type 0 where
  pub paged : length l.pages ≡ length l.numbers
  pub covered : All (IsCovered (extents l.bounds)) l.regions.items
  pub bytes : byte_over l.regions.items (byte_in_pages (extents l.bounds) l.numbers l.pages) ≡ byte_in l.initial.regions.items
  pub tags : tag_in_pages (extents l.bounds) l.numbers l.pages ≡ tag_in_pages (extents l.bounds) l.numbers l.initial.pages

abbrev pub invariant-loop-region : goal.invariant-loop-region
invariant-loop-region l = IsFilled l

abbrev pub decreases-loop-region : goal.decreases-loop-region
decreases-loop-region l = length l.regions.items
