-- The blocks that the slots of a memory stand for.
use Rattle.std.specs.Prelude.{◌≡◌, ℕ, ◌-◌, Bool, false, true, nat_eq, List, [], ◌∷◌, length, slice_get, Option, Some, None, Result, Ok, Err}
use Rattle.std.specs.Prelude.{if◌then◌else◌}
use Rattle.block_meaning.specs.declared.access.Access.{Access}
use Rattle.block_meaning.specs.declared.cell.Cell.{Cell}
use Rattle.block_meaning.specs.declared.reason.Reason.{Reason}
use Rattle.block_meaning.specs.declared.value.Value.{Value}
use Rattle.block_meaning.specs.Access.{ReadResult, ReadsAs, UndefinedBy, is_null_block}
use Rattle.block_meaning.specs.Blocks.{Block, block_of, ended, with_block, with_cells_in, stored}
use Rattle.block_meaning.specs.Meaning.{is_of_call}
use Rattle.mean_memory.specs.Owners.{InOrder}
use Rattle.mean_memory.specs.declared.slot.Slot.{Slot}

-- the block of a slot
abbrev pub block_in : Slot → Block
block_in s = block_of s.kind s.cells.items

abbrev pub slot_with : List Slot → ℕ → Option Slot
slot_with [] n = None
slot_with (s ∷ ss) n = (if nat_eq s.number n then Some s else slot_with ss n)

-- a block whose life has ended
pub record IsDead (b : Block) : Type 0 where
  pub dead : b.live ≡ false
  pub no_cells : b.cells ≡ []
  pub no_null : is_null_block b.kind ≡ false

-- a slot, or none, for a block
abbrev pub IsShown : Option Slot → Option Block → Type 0
IsShown None None = Unit {0}
IsShown None (Some b) = IsDead b
IsShown (Some s) None = ⊥
IsShown (Some s) (Some b) = b ≡ block_in s

-- no two have one number
abbrev pub Apart : List Slot → Type 0
Apart [] = Unit {0}
Apart (s ∷ ss) = (slot_with ss s.number ≡ None) × Apart ss

-- the slots have the numbers of the blocks that are alive
pub record Holds (slots : List Slot) (next : ℕ) (blocks : List Block) : Type 0 where
  pub count : next ≡ length blocks
  pub each : (n : ℕ) → IsShown (slot_with slots n) (slice_get blocks n)
  pub apart : Apart slots
  pub in_order : InOrder slots

-- a slot of a number stands at an index
pub record StandsAt (slots : List Slot) (number index : ℕ) : Type 0 where
  pub slot : Slot
  pub is : slice_get slots index ≡ Some slot
  pub named : slot.number ≡ number

abbrev pub IsPosition : List Slot → ℕ → Option ℕ → Type 0
IsPosition slots number None = slot_with slots number ≡ None
IsPosition slots number (Some index) = StandsAt slots number index

-- the latest slot is a local's that has a number
pub record IsLatestLocal (slots : List Slot) (number : ℕ) : Type 0 where
  pub slot : Slot
  pub is : slice_get slots (length slots - 1) ≡ Some slot
  pub named : slot.number ≡ number
  pub no_null : is_null_block slot.kind ≡ false

-- it is a call's
pub record IsLatestOf (slots : List Slot) (call : ℕ) : Type 0 where
  pub slot : Slot
  pub is : slice_get slots (length slots - 1) ≡ Some slot
  pub of_call : is_of_call call slot.kind ≡ true

-- the blocks after one of a number ended, or none
abbrev pub ended_if : Bool → ℕ → List Block → List Block
ended_if ends number blocks = (if ends then with_block number ended blocks else blocks)

-- what a read gives
abbrev pub read_as : Result Value Reason → ReadResult
read_as (Ok v) = ReadsAs v
read_as (Err why) = UndefinedBy why

-- the blocks after a write, by the reason against it
abbrev pub written_or_kept : Access → List Cell → List Block → Option Reason → List Block
written_or_kept a cells blocks None = stored a.at cells blocks
written_or_kept a cells blocks (Some why) = blocks

-- likewise the block
abbrev pub written_block : Access → List Cell → Block → Option Reason → Block
written_block a cells b None = with_cells_in a.at.offset cells b
written_block a cells b (Some why) = b
