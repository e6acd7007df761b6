-- The refusals of a start, with the number and the place that are told of each (this project's own).
use Rattle.std.specs.Prelude.{ℕ}
use Rattle.memtag_desc.specs.declared.refusal.DescRefusal.{DescRefusal}
use Rattle.memtag_desc.specs.declared.refusal.DescRefusal.TheVariants as desc
use Rattle.memtag_desc.specs.Refusal.{number_of as descriptors_number, place_of as descriptors_place}
use Rattle.tag_startup.specs.declared.refusal.StartRefusal.{StartRefusal}
use Rattle.tag_startup.specs.declared.refusal.StartRefusal.TheVariants.{Descriptors, Outside, NoMemory}

-- the number of each; want of memory, which says nothing of the image, has none of them
abbrev pub number_of : StartRefusal → ℕ
number_of (Descriptors refusal) = descriptors_number refusal
number_of (Outside index) = 43
number_of NoMemory = 0

-- the place of each
abbrev pub place_of : StartRefusal → ℕ
place_of (Descriptors refusal) = descriptors_place refusal
place_of (Outside index) = index
place_of NoMemory = 0

-- a refusal of the descriptors
abbrev pub of_descriptors : DescRefusal → StartRefusal
of_descriptors desc.NoMemory = NoMemory
of_descriptors refusal = Descriptors refusal
