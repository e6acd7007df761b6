-- What a comparison of pointers has to know of a block: its end, where it is alive.
use Rattle.std.specs.Prelude.{ℕ, Bool, List, slice_get, Option, Some, None, if◌then◌else◌}
use Rattle.block_meaning.specs.Blocks.{Block}

abbrev pub end_where : Bool → ℕ → Option ℕ
end_where alive size = (if alive then Some size else None)

abbrev pub end_of_block : Option Block → Option ℕ
end_of_block None = None
end_of_block (Some b) = end_where b.live b.size

-- the size of the block of a number, where it is alive
abbrev pub end_in : List Block → ℕ → Option ℕ
end_in blocks number = end_of_block (slice_get blocks number)
