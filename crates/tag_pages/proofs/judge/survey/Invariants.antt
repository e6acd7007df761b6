use Rattle.std.proofs.Common.{◌-◌, ◌≡◌, ◌≤◌, not, true}
use Rattle.mt_base.specs.Memory.{is_mapped, is_protected, every_byte, some_byte}
use Rattle.tag_pages.specs.Parts.{extents}
use Rattle.tag_pages.proofs.judge.survey.Given as goal

-- the bytes up to here are in regions, and whether these are writable
pub record IsSurveyed (l : goal.Live-loop-done) : Type 0 where
  pub in_range : l.done ≤ l.count
  pub mapped : every_byte (is_mapped (extents l.regions)) l.at l.done ≡ true
  pub writable : not l.writable ≡ some_byte (is_protected (extents l.regions)) l.at l.done

abbrev pub invariant-loop-done : goal.invariant-loop-done
invariant-loop-done l = IsSurveyed l

abbrev pub decreases-loop-done : goal.decreases-loop-done
decreases-loop-done l = l.count - l.done
