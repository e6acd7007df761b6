-- The numbers of the refusals, and the places in them.
use Rattle.std.specs.Prelude.{ℕ}
use Rattle.memtag_desc.specs.declared.refusal.DescRefusal.{DescRefusal}
use Rattle.memtag_desc.specs.declared.refusal.DescRefusal.TheVariants.{Cut, LongForm, TooFar, NoMemory}

-- the number of each refusal; want of memory, which says nothing of the bytes, has none
abbrev pub number_of : DescRefusal → ℕ
number_of (Cut at) = 35
number_of (LongForm at) = 36
number_of (TooFar at) = 37
number_of NoMemory = 0

-- the place of each: a byte, or how many bytes there are
abbrev pub place_of : DescRefusal → ℕ
place_of (Cut at) = at
place_of (LongForm at) = at
place_of (TooFar at) = at
place_of NoMemory = 0
