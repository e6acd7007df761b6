-- Cells that were copied from one slot to another.
use Rattle.std.specs.Prelude.{◌≡◌, ℕ, List, slice_get, slice_set, Some}
use Rattle.block_meaning.specs.Blocks.{cells_in, with_cells_in}
use Rattle.mean_memory.specs.declared.copying.Part.{Part}
use Rattle.mean_memory.specs.declared.slot.Slot.{Slot}
use Rattle.mean_memory.specs.Shown.{block_in}

-- from the slot at one index to that at another
pub record IsCopied (old new : List Slot) (source target : ℕ) (part : Part) : Type 0 where
  pub from : Slot
  pub to : Slot
  pub after : Slot
  pub from_is : slice_get old source ≡ Some from
  pub to_is : slice_get old target ≡ Some to
  pub is : new ≡ slice_set old target after
  pub number : after.number ≡ to.number
  pub block : block_in after ≡ with_cells_in part.target (cells_in (block_in from) part.source part.bytes) (block_in to)
