-- The bytes of memory are the cells of the live blocks (this project's own).
use Rattle.std.specs.Prelude.{◌≡◌, ℕ, ◌+◌, ◌/◌, ◌%◌, ◌^◌, slice_get, Some}
use Rattle.a64_code.specs.State.{State}
use Rattle.block_meaning.specs.declared.cell.Cell.{Cell}
use Rattle.block_meaning.specs.declared.cell.Cell.TheVariants.{Nothing, Byte, Part}
use Rattle.block_meaning.specs.declared.value.Pointer.{Pointer}
use Rattle.block_meaning.specs.Blocks.{Block, pointer}
use Rattle.block_meaning.specs.Running.{State as MeaningState}
use Rattle.code_relation.specs.Numbers.{IsNumber}
use Rattle.code_relation.specs.Sites.{Given, Lives, site_of}

-- a byte is the k-th of a pointer's number, the lowest being the first
pub record IsByteOf (g : Given) (now : MeaningState) (p : Pointer) (k byte : ℕ) : Type 0 where
  pub number : ℕ
  pub is : IsNumber g now p number
  pub byte_is : byte ≡ number / 256 ^ k % 256

-- a byte of memory is a cell; of a cell that was never written nothing is said
abbrev pub IsCell : Given → MeaningState → Cell → ℕ → Type 0
IsCell g now Nothing byte = Unit {0}
IsCell g now (Byte b) byte = byte ≡ b
IsCell g now (Part k block offset) byte = IsByteOf g now (pointer block offset) k byte

pub record HasCells (g : Given) (now : MeaningState) (s : State) : Type 0 where
  pub cell : (number : ℕ) (b : Block) (offset : ℕ) (c : Cell) → Lives now number b → slice_get b.cells offset ≡ Some c →
      IsCell g now c (s.byte ((site_of g now number b).start + offset))
