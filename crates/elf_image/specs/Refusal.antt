-- The numbers of the refusals, and the places in them.
use Rattle.std.specs.Prelude.{ℕ}
use Rattle.elf_image.specs.declared.refusal.ImageRefusal.{ImageRefusal}
use Rattle.elf_image.specs.declared.refusal.ImageRefusal.TheVariants.{NotElf, NotThisMachine, Truncated, BadSegment, BadDynamic, NoMemory}

-- the number of each refusal; want of memory, which says nothing of the bytes, has none
abbrev pub number_of : ImageRefusal → ℕ
number_of NotElf = 30
number_of NotThisMachine = 31
number_of (Truncated at) = 32
number_of (BadSegment index) = 33
number_of (BadDynamic index) = 34
number_of NoMemory = 0

-- the place of each: a number of bytes, of a program header or of a dynamic entry
abbrev pub place_of : ImageRefusal → ℕ
place_of (Truncated at) = at
place_of (BadSegment index) = index
place_of (BadDynamic index) = index
place_of _ = 0
