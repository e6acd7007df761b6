use Rattle.std.proofs.Common.{◌≡◌, ℕ, ◌<◌, false, get_or}
use Rattle.mt_base.specs.Memory.{is_in_extent}
use Rattle.tag_pages.specs.declared.bounds.Bounds.{Bounds}
use Rattle.tag_pages.specs.Parts.{extent}
use Rattle.tag_pages.proofs.part.find_part.Given as goal

abbrev pub invariant-loop-place : goal.invariant-loop-place
invariant-loop-place l = (k : ℕ) (d : Bounds) → k < l.place → is_in_extent (extent (get_or l.regions k d)) l.at ≡ false
