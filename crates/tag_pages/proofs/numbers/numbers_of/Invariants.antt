use Rattle.std.proofs.Common.{◌≡◌, ◌<◌, ◌/◌, ℕ, true, get_or}
use Rattle.mt_base.specs.Memory.{is_in_extent}
use Rattle.tag_pages.specs.declared.bounds.Bounds.{Bounds}
use Rattle.tag_pages.specs.Parts.{extent, has_number}
use Rattle.tag_pages.proofs.numbers.numbers_of.Given as goal

-- each page of the regions up to here has its number
abbrev pub invariant-loop-region : goal.invariant-loop-region
invariant-loop-region l = (k : ℕ) (d : Bounds) (at : ℕ) → k < l.region-index → is_in_extent (extent (get_or l.regions k d)) at ≡ true →
    has_number l.numbers.items (at / 4096) ≡ true
