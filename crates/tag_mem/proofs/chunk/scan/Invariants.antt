use Rattle.std.proofs.Common.{◌≡◌, ℕ, ◌<◌, false, get_or}
use Rattle.mt_base.specs.Memory.{is_in_extent}
use Rattle.tag_mem.specs.declared.region.Region.{Region}
use Rattle.tag_mem.specs.Regions.{extent_of}
use Rattle.tag_mem.proofs.chunk.scan.Given as goal

abbrev pub invariant-loop-place : goal.invariant-loop-place
invariant-loop-place l = (k : ℕ) (d : Region) → k < l.place → is_in_extent (extent_of (get_or l.regions k d)) l.at ≡ false
