use Rattle.std.proofs.Common.{◌≡◌, take}
use Rattle.tag_mem.specs.Regions.{extents_of}
use Rattle.tag_pages.specs.Parts.{extents}
use Rattle.tag_pages.proofs.bounds.bounds_of.Given as goal

abbrev pub invariant-loop-region : goal.invariant-loop-region
invariant-loop-region l = extents l.bounds.items ≡ extents_of (take l.region-index l.regions)
