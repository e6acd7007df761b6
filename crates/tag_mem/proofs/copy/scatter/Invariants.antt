use Rattle.std.proofs.Common.{length, take, ◌-◌, ◌≡◌, ◌≤◌}
use Rattle.mt_base.specs.Memory.{store_bytes}
use Rattle.tag_mem.specs.Regions.{extents_of, byte_in}
use Rattle.tag_mem.proofs.copy.scatter.Given as goal

-- the bytes up to here were written
pub record IsScattered (l : goal.Live-loop-done) : Type 0 where
  pub in_range : l.done ≤ length l.bytes
  pub extents : extents_of l.regions ≡ extents_of l.initial.regions
  pub written : byte_in l.regions ≡ store_bytes (byte_in l.initial.regions) l.at (take l.done l.bytes)

abbrev pub invariant-loop-done : goal.invariant-loop-done
invariant-loop-done l = IsScattered l

abbrev pub decreases-loop-done : goal.decreases-loop-done
decreases-loop-done l = length l.bytes - l.done
