-- Why a file has no text, with the number and the place that are told of it.
use Rattle.std.specs.Prelude.{◌≡◌, ℕ, List, Some}
use Rattle.elf_image.specs.declared.memtag.MemtagInfo.{MemtagInfo}
use Rattle.elf_image.specs.declared.refusal.ImageRefusal.{ImageRefusal}
use Rattle.elf_image.specs.declared.refusal.ImageRefusal.TheVariants as image
use Rattle.elf_image.specs.MemtagEntries.{Entries, MemtagFault}
use Rattle.elf_image.specs.Refusal.{number_of as file_number, place_of as file_place}
use Rattle.memtag_desc.specs.declared.refusal.DescRefusal.{DescRefusal}
use Rattle.memtag_desc.specs.declared.refusal.DescRefusal.TheVariants as desc
use Rattle.memtag_desc.specs.Faults.{HasFault}
use Rattle.memtag_desc.specs.Refusal.{number_of as descriptors_number, place_of as descriptors_place}
use Rattle.memtag_dump.specs.declared.refusal.DumpRefusal.{DumpRefusal}
use Rattle.memtag_dump.specs.declared.refusal.DumpRefusal.TheVariants.{File, Descriptors, NoMemory}

-- a refusal of the file, or of the descriptors
abbrev pub of_file : ImageRefusal → DumpRefusal
of_file image.NoMemory = NoMemory
of_file refusal = File refusal

abbrev pub of_descriptors : DescRefusal → DumpRefusal
of_descriptors desc.NoMemory = NoMemory
of_descriptors refusal = Descriptors refusal

-- the first fault of the file, or the first one of the descriptors that it has
pub data HasNoText (file : List ℕ) : DumpRefusal → Type 0 where
  bad_file : (fault : ImageRefusal) → MemtagFault file fault → HasNoText file (File fault)
  bad_descriptors : (info : MemtagInfo) (bytes : List ℕ) (fault : DescRefusal) → Entries file info → info.descriptors ≡ Some bytes
      → HasFault bytes fault → HasNoText file (Descriptors fault)

-- the number of each refusal; want of memory, which says nothing of the file, has none
abbrev pub number_of : DumpRefusal → ℕ
number_of (File refusal) = file_number refusal
number_of (Descriptors refusal) = descriptors_number refusal
number_of NoMemory = 0

-- the place of each
abbrev pub place_of : DumpRefusal → ℕ
place_of (File refusal) = file_place refusal
place_of (Descriptors refusal) = descriptors_place refusal
place_of NoMemory = 0
