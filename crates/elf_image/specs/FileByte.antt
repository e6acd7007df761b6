-- The byte at a place of a file that is laid out in pieces.
use Rattle.std.specs.Prelude.{ℕ, ◌-◌, List, [], ◌∷◌, length, slice_index, if◌then◌else◌}
use Rattle.mt_base.specs.Memory.{is_between}
use Rattle.elf_base.specs.Layout.{Piece}

-- the byte at a place of the pieces, and zero where none of them stands
abbrev pub byte_among : List Piece → ℕ → ℕ
byte_among [] i = 0
byte_among (p ∷ ps) i = if is_between p.place (length p.bytes) i then slice_index p.bytes (i - p.place) else byte_among ps i
