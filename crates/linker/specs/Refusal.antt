-- The numbers of the refusals (this project's own).
use Rattle.std.specs.Prelude.{ℕ}
use Rattle.linker.specs.declared.refusal.LinkRefusal.{LinkRefusal}
use Rattle.linker.specs.declared.refusal.LinkRefusal.TheVariants.{TooManyObjects, Duplicate, NoMain, Undefined, ImageTooLarge, NoMemory}

-- the number of each; want of memory, which says nothing of the objects, has none
abbrev pub number_of : LinkRefusal → ℕ
number_of (TooManyObjects count) = 41
number_of (Duplicate name) = 39
number_of NoMain = 40
number_of (Undefined name) = 38
number_of (ImageTooLarge bytes) = 42
number_of NoMemory = 0
