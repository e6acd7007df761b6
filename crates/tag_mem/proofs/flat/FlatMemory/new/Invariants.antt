use Rattle.std.proofs.Common.{◌≡◌, ℕ, ◌<◌, ◌/◌, length, replicate, get_or}
use Rattle.std.specs.Global.{Vec}
use Rattle.tag_mem.specs.declared.region.Region.{Region}
use Rattle.tag_mem.proofs.flat.FlatMemory.new.Given as goal

-- the regions up to here have a tag 0 for each granule
pub record AreZero (l : goal.Live-loop-region) : Type 0 where
  pub count : length l.tags.items ≡ l.region-index
  pub zeros : (k : ℕ) (r : Region) (t : Vec ℕ) → k < l.region-index →
      (get_or l.tags.items k t).items ≡ replicate (length (get_or l.region-items k r).bytes.items / 16) 0

abbrev pub invariant-loop-region : goal.invariant-loop-region
invariant-loop-region l = AreZero l
