-- Which ELF files of any producer have a dynamic segment for AArch64, and which entries it has (ELF64; ELF for the Arm 64-bit
-- architecture).
use Rattle.std.specs.Prelude.{◌≡◌, ℕ, suc, pos, ◌+◌, ◌*◌, ◌/◌, ◌≤◌, ◌==◌, Bool, if◌then◌else◌, List, [], ◌∷◌, length, take, Option, Some}
use Rattle.std.specs.Prelude.{None, find}
use Rattle.std.specs.Ordering.{int_eq}
use Rattle.elf_base.specs.declared.header.Ehdr.{Ehdr}
use Rattle.elf_base.specs.declared.segment.Phdr.{Phdr}
use Rattle.elf_base.specs.declared.dynamic.Dyn.{Dyn}
use Rattle.elf_base.specs.Standing.{ehdr_at, phdrs_at, dyns_at}
use Rattle.elf_image.specs.declared.memtag.Found.{Found}

-- ---- the headers

-- the first six bytes of a file: ELF, 64 bits, little-endian
abbrev pub ident : List ℕ
ident = 0x7f ∷ 0x45 ∷ 0x4c ∷ 0x46 ∷ 2 ∷ 1 ∷ []

-- as many of them as there are begin the file
abbrev pub BeginsElf : List ℕ → Type 0
BeginsElf file = take 6 file ≡ take (length file) ident

abbrev pub header_of : List ℕ → Ehdr
header_of file = ehdr_at 0 file

-- a whole header, for EM_AARCH64
pub record HasHeader (file : List ℕ) : Type 0 where
  pub begins : BeginsElf file
  pub whole : 64 ≤ length file
  pub machine : (header_of file).machine ≡ 183

-- program headers of 56 bytes, which are all there
pub record HasSegments (file : List ℕ) : Type 0 where
  pub header : HasHeader file
  pub bytes : (header_of file).phentsize ≡ 56
  pub within : (header_of file).phoff + 56 * (header_of file).phnum ≤ length file

abbrev pub segments_of : List ℕ → List Phdr
segments_of file = phdrs_at (header_of file).phnum (header_of file).phoff file

-- ---- the dynamic segment

-- PT_DYNAMIC
abbrev pub is_dynamic : Phdr → Bool
is_dynamic p = p.kind == 2

-- the first dynamic segment, whose bytes are all there
pub record HasDynamic (file : List ℕ) (segment : Phdr) : Type 0 where
  pub segments : HasSegments file
  pub first : find is_dynamic (segments_of file) ≡ Some segment
  pub within : segment.offset + segment.filesz ≤ length file

abbrev pub has_tag : ℕ → Dyn → Bool
has_tag tag e = int_eq e.tag (pos tag)

-- the entries before the first NULL, or all where none is NULL
abbrev pub before_null : List Dyn → List Dyn
before_null [] = []
before_null (e ∷ es) = if has_tag 0 e then [] else e ∷ before_null es

-- the entries of a dynamic segment: bytes behind the last whole one count for nothing
abbrev pub entries_of : List ℕ → Phdr → List Dyn
entries_of file segment = before_null (dyns_at (segment.filesz / 16) segment.offset file)

-- the first entry of a tag, by its index and its value
abbrev pub first_from : ℕ → ℕ → List Dyn → Option Found
first_from index tag [] = None
first_from index tag (e ∷ es) = if has_tag tag e then Some (record { index = index; value = e.value }) else first_from (suc index) tag es

abbrev pub first_of : ℕ → List Dyn → Option Found
first_of tag es = first_from 0 tag es
