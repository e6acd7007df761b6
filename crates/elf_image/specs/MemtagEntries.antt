-- What an ELF file of any producer says of memory tagging in its dynamic segment (Memtag ABI), and what is wrong with other files.
use Rattle.std.specs.Prelude.{◌≡◌, ℕ, ◌+◌, ◌-◌, ◌*◌, ◌<◌, ◌≤◌, ◌==◌, nat_le, ◌&&◌, Bool, if◌then◌else◌, min, List, [], length, take, drop}
use Rattle.std.specs.Prelude.{Option, Some, None, option_map, find, IsSome}
use Rattle.elf_base.specs.Index.{told_index}
use Rattle.elf_base.specs.declared.segment.Phdr.{Phdr}
use Rattle.elf_image.specs.declared.memtag.Found.{Found}
use Rattle.elf_image.specs.declared.memtag.MemtagInfo.{MemtagInfo}
use Rattle.elf_image.specs.declared.refusal.ImageRefusal.{ImageRefusal}
use Rattle.elf_image.specs.declared.refusal.ImageRefusal.TheVariants.{NotElf, NotThisMachine, Truncated, BadSegment, BadDynamic}
use Rattle.elf_image.specs.MemtagFile.{BeginsElf, header_of, HasHeader, HasSegments, segments_of, is_dynamic, HasDynamic, entries_of}
use Rattle.elf_image.specs.MemtagFile.{first_of}

-- the tags AARCH64_MEMTAG_MODE, MEMTAG_HEAP, MEMTAG_STACK, MEMTAG_GLOBALS and MEMTAG_GLOBALSSZ
abbrev pub mode_tag : ℕ
mode_tag = 0x70000009

abbrev pub heap_tag : ℕ
heap_tag = 0x7000000b

abbrev pub stack_tag : ℕ
stack_tag = 0x7000000c

abbrev pub globals_tag : ℕ
globals_tag = 0x7000000d

abbrev pub size_tag : ℕ
size_tag = 0x7000000f

-- ---- the descriptors

-- a PT_LOAD that has so many bytes from an address on, all of them in the file, which has `total` bytes
abbrev pub holds : ℕ → ℕ → ℕ → Phdr → Bool
holds total address size p =
    (p.kind == 1) && nat_le p.vaddr address && nat_le (address - p.vaddr + size) p.filesz
    && nat_le (p.offset + (address - p.vaddr) + size) total

-- the bytes from an address of a segment on
abbrev pub bytes_in : List ℕ → ℕ → ℕ → Phdr → List ℕ
bytes_in file address size p = take size (drop (p.offset + (address - p.vaddr)) file)

-- so many bytes from an address on, as the first segment has them that holds them; no bytes are there without one
abbrev pub loaded_bytes : List ℕ → ℕ → ℕ → Option (List ℕ)
loaded_bytes file address size =
    if size == 0 then Some [] else option_map (bytes_in file address size) (find (holds (length file) address size) (segments_of file))

-- the descriptors are what MEMTAG_GLOBALS and MEMTAG_GLOBALSSZ give, where both are there
abbrev pub AreDescriptors : List ℕ → Option Found → Option Found → Option (List ℕ) → Type 0
AreDescriptors file (Some globals) (Some size) found = (found ≡ loaded_bytes file globals.value size.value) × IsSome found
AreDescriptors file (Some globals) None found = found ≡ None
AreDescriptors file None size found = found ≡ None

-- ---- what the file says

abbrev pub value_of : Option Found → Option ℕ
value_of found = option_map (λ f. f.value) found

-- each number is that of the first entry of its tag
pub record Entries (file : List ℕ) (info : MemtagInfo) : Type 0 where
  pub segment : Phdr
  pub dynamic : HasDynamic file segment
  pub mode : info.mode ≡ value_of (first_of mode_tag (entries_of file segment))
  pub heap : info.heap ≡ value_of (first_of heap_tag (entries_of file segment))
  pub stack : info.stack ≡ value_of (first_of stack_tag (entries_of file segment))
  pub descriptors : AreDescriptors file (first_of globals_tag (entries_of file segment))
      (first_of size_tag (entries_of file segment)) info.descriptors

-- ---- what is wrong with it

-- the first that is wrong, in the order of the constructors
pub data MemtagFault (file : List ℕ) : ImageRefusal → Type 0 where
  not_elf : ¬ BeginsElf file → MemtagFault file NotElf
  no_header : BeginsElf file → length file < 64 → MemtagFault file (Truncated (length file))
  other_machine : BeginsElf file → 64 ≤ length file → ¬ ((header_of file).machine ≡ 183) → MemtagFault file NotThisMachine
  other_headers : HasHeader file → ¬ ((header_of file).phentsize ≡ 56) → MemtagFault file (BadSegment 0)
  headers_cut : HasHeader file → (header_of file).phentsize ≡ 56
      → length file < (header_of file).phoff + 56 * (header_of file).phnum → MemtagFault file (Truncated (length file))
  no_dynamic : HasSegments file → find is_dynamic (segments_of file) ≡ None → MemtagFault file (BadSegment (header_of file).phnum)
  dynamic_cut : (segment : Phdr) → HasSegments file → find is_dynamic (segments_of file) ≡ Some segment
      → length file < segment.offset + segment.filesz → MemtagFault file (Truncated (length file))
  no_descriptors : (segment : Phdr) (globals size : Found) → HasDynamic file segment
      → first_of globals_tag (entries_of file segment) ≡ Some globals → first_of size_tag (entries_of file segment) ≡ Some size
      → loaded_bytes file globals.value size.value ≡ None → MemtagFault file (BadDynamic (told_index globals.index))
