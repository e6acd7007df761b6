-- Memory as blocks that have no addresses: each object, text and function is one (after ISO C11 6.2.4 and 6.2.6; cells are this
-- project's own).
use Rattle.std.specs.Prelude.{ℕ, Bool, true, false, ◌+◌, ◌%◌, ◌^◌, List, [], ◌++◌, take, drop, length, replicate, slice_get, slice_set}
use Rattle.std.specs.Prelude.{Option, Some, None}
use Rattle.block_meaning.specs.declared.cell.Cell.{Cell}
use Rattle.block_meaning.specs.declared.cell.Cell.TheVariants.{Nothing}
use Rattle.block_meaning.specs.declared.kind.Kind.{Kind}
use Rattle.block_meaning.specs.declared.kind.Kind.TheVariants.{NullBlock}
use Rattle.block_meaning.specs.declared.value.Pointer.{Pointer}

pub record Block : Type 0 where
  pub kind : Kind
  -- in bytes
  pub size : ℕ
  pub live : Bool
  -- as many as the size; a dead block has none
  pub cells : List Cell

-- an offset is below 2^64
abbrev pub pointer : ℕ → ℕ → Pointer
pointer block offset = record { block = block; offset = offset }

-- the null block comes first
abbrev pub null : Pointer
null = pointer 0 0

-- some bytes on, modulo 2^64
abbrev pub moved : Pointer → ℕ → Pointer
moved p bytes = pointer p.block ((p.offset + bytes) % 2 ^ 64)

abbrev pub null_block : Block
null_block = record { kind = NullBlock; size = 0; live = true; cells = [] }

-- a block that is alive and holds these cells
abbrev pub block_of : Kind → List Cell → Block
block_of kind cells = record { kind = kind; size = length cells; live = true; cells = cells }

-- a fresh local of so many bytes
abbrev pub fresh : Kind → ℕ → Block
fresh kind bytes = block_of kind (replicate bytes Nothing)

abbrev pub ended : Block → Block
ended b = record b { live = false; cells = [] }

abbrev pub changed : (Block → Block) → Option Block → ℕ → List Block → List Block
changed f None number blocks = blocks
changed f (Some b) number blocks = slice_set blocks number (f b)

-- one block is another
abbrev pub with_block : ℕ → (Block → Block) → List Block → List Block
with_block number f blocks = changed f (slice_get blocks number) number blocks

-- ---- cells

abbrev pub cells_in : Block → ℕ → ℕ → List Cell
cells_in b offset bytes = take bytes (drop offset b.cells)

-- some cells with others from an offset on
abbrev pub with_cells : ℕ → List Cell → List Cell → List Cell
with_cells offset new cells = take offset cells ++ new ++ drop (offset + length new) cells

abbrev pub with_cells_in : ℕ → List Cell → Block → Block
with_cells_in offset new b = record b { cells = with_cells offset new b.cells }

abbrev pub cells_at_block : Option Block → ℕ → ℕ → List Cell
cells_at_block None offset bytes = []
cells_at_block (Some b) offset bytes = cells_in b offset bytes

-- so many cells from a place on
abbrev pub cells_at : List Block → Pointer → ℕ → List Cell
cells_at blocks p bytes = cells_at_block (slice_get blocks p.block) p.offset bytes

-- the blocks with these cells from a place on
abbrev pub stored : Pointer → List Cell → List Block → List Block
stored p cells = with_block p.block (with_cells_in p.offset cells)
