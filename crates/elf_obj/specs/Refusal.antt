-- The numbers of the refusals, and the places in them.
use Rattle.std.specs.Prelude.{ℕ}
use Rattle.elf_obj.specs.declared.refusal.ObjectRefusal.{ObjectRefusal}
use Rattle.elf_obj.specs.declared.refusal.ObjectRefusal.TheVariants.{NotElf, NotThisMachine, Truncated, BadSection, BadSymbol}
use Rattle.elf_obj.specs.declared.refusal.ObjectRefusal.TheVariants.{BadRelocation, NoMemory}

-- the number of each refusal; want of memory, which says nothing of the bytes, has none
abbrev pub number_of : ObjectRefusal → ℕ
number_of NotElf = 24
number_of NotThisMachine = 25
number_of (Truncated at) = 26
number_of (BadSection index) = 27
number_of (BadSymbol index) = 28
number_of (BadRelocation index) = 29
number_of NoMemory = 0

-- the place of each: a number of bytes, of a section, a symbol or a relocation
abbrev pub place_of : ObjectRefusal → ℕ
place_of (Truncated at) = at
place_of (BadSection index) = index
place_of (BadSymbol index) = index
place_of (BadRelocation index) = index
place_of _ = 0
