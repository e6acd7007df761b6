use Rattle.std.proofs.Common.{length, ◌-◌, ◌≡◌, ℕ, ◌+◌, ◌<◌, ◌≤◌, get_or}
use Rattle.tag_pages.specs.Pages.{byte_in_pages}
use Rattle.tag_pages.specs.Parts.{extents}
use Rattle.tag_pages.proofs.copy.gather.Given as goal

-- the bytes up to here were read
pub record IsGathered (l : goal.Live-loop-done) : Type 0 where
  pub in_range : l.done ≤ length l.out
  pub gathered : (k : ℕ) → k < l.done → get_or l.out k 0 ≡ byte_in_pages (extents l.regions) l.numbers l.pages (l.at + k)

abbrev pub invariant-loop-done : goal.invariant-loop-done
invariant-loop-done l = IsGathered l

abbrev pub decreases-loop-done : goal.decreases-loop-done
decreases-loop-done l = length l.initial.out - l.done
