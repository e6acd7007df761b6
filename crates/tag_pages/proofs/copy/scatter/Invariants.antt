use Rattle.std.proofs.Common.{length, take, ◌-◌, ◌≡◌, ◌≤◌}
use Rattle.mt_base.specs.Memory.{store_bytes}
use Rattle.tag_pages.specs.Pages.{byte_in_pages, tag_in_pages}
use Rattle.tag_pages.specs.Parts.{extents}
use Rattle.tag_pages.proofs.copy.scatter.Given as goal

-- the bytes up to here were written
pub record IsScattered (l : goal.Live-loop-done) : Type 0 where
  pub in_range : l.done ≤ length l.bytes
  pub paged : length l.pages ≡ length l.numbers
  pub written : byte_in_pages (extents l.regions) l.numbers l.pages
      ≡ store_bytes (byte_in_pages (extents l.regions) l.numbers l.initial.pages) l.at (take l.done l.bytes)
  pub tags : tag_in_pages (extents l.regions) l.numbers l.pages ≡ tag_in_pages (extents l.regions) l.numbers l.initial.pages

abbrev pub invariant-loop-done : goal.invariant-loop-done
invariant-loop-done l = IsScattered l

abbrev pub decreases-loop-done : goal.decreases-loop-done
decreases-loop-done l = length l.bytes - l.done
