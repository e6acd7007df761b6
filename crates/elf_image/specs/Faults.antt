-- What is wrong with bytes that are the file of no image: the first of these conditions that fails, and its place (this project's own).
use Rattle.std.specs.Prelude.{◌≡◌, ℕ, zero, suc, ◌+◌, ◌/◌, ◌%◌, Bool, true, ◌&&◌, ◌||◌, ◌==◌, nat_le, if◌then◌else◌}
use Rattle.std.specs.Prelude.{Option, Some, None, List, [], ◌∷◌, ◌++◌, length}
use Rattle.std.specs.Ordering.{int_eq}
use Rattle.elf_base.specs.declared.header.Ehdr.{Ehdr}
use Rattle.elf_base.specs.declared.segment.Phdr.{Phdr}
use Rattle.elf_base.specs.declared.dynamic.Dyn.{Dyn}
use Rattle.elf_base.specs.Place.{number_at}
use Rattle.mt_base.specs.Granules.{round16}
use Rattle.elf_base.specs.Conditions.{Condition, condition, first_fault}
use Rattle.elf_base.specs.Zeros.{is_zero_between}
use Rattle.elf_base.specs.Records.{identification}
use Rattle.elf_image.specs.declared.heads.Heads.{Heads}
use Rattle.elf_image.specs.declared.refusal.ImageRefusal.{ImageRefusal}
use Rattle.elf_image.specs.declared.refusal.ImageRefusal.TheVariants.{NotElf, NotThisMachine, Truncated, BadSegment, BadDynamic}
use Rattle.elf_image.specs.Heads.{heads_at, entry_at, reloc_bytes_at, descriptor_bytes_at}
use Rattle.elf_image.specs.Places.{symbols_place, relocs_place, round_page, memory_limit}
use Rattle.elf_image.specs.Records.{header_with, read_only_with, code_with, writable_with, dynamic_at, table_entries, mode_entries}
use Rattle.elf_image.specs.Records.{described_entries, last_entries, relative}

-- ---- tests

-- the bytes that are there are those that are wanted
unfoldable pub agrees : List ℕ → List ℕ → Bool
agrees [] wanted = true
agrees (b ∷ bytes) [] = true
agrees (b ∷ bytes) (w ∷ wanted) = b == w && agrees bytes wanted

-- the type of file and the machine of two headers are equal
abbrev pub same_machine : Ehdr → Ehdr → Bool
same_machine h g = h.kind == g.kind && h.machine == g.machine

-- the fields of two records are equal
unfoldable pub same_header : Ehdr → Ehdr → Bool
same_header h g =
    agrees h.ident g.ident && h.kind == g.kind && h.machine == g.machine && h.version == g.version && h.entry == g.entry
    && h.phoff == g.phoff && h.shoff == g.shoff && h.flags == g.flags && h.ehsize == g.ehsize && h.phentsize == g.phentsize
    && h.phnum == g.phnum && h.shentsize == g.shentsize && h.shnum == g.shnum && h.shstrndx == g.shstrndx

unfoldable pub same_segment : Phdr → Phdr → Bool
same_segment p q =
    p.kind == q.kind && p.flags == q.flags && p.offset == q.offset && p.vaddr == q.vaddr && p.paddr == q.paddr
    && p.filesz == q.filesz && p.memsz == q.memsz && p.align == q.align

unfoldable pub same_entry : Dyn → Dyn → Bool
same_entry d e = int_eq d.tag e.tag && d.value == e.value

-- so many Rela records from a place on are relative
unfoldable pub are_relative : ℕ → ℕ → List ℕ → Bool
are_relative zero at file = true
are_relative (suc count) at file = number_at 8 (at + 8) file == relative && are_relative count (at + 24) file

-- the bytes that a program header names are there
abbrev pub reaches : List ℕ → Phdr → Bool
reaches file p = nat_le (p.offset + p.filesz) (length file)

-- ---- segments

-- the part that is only read begins the file; the symbol and the string table in it, and the gap behind them, are zero
abbrev pub is_read_only : List ℕ → Heads → Bool
is_read_only file h =
    same_segment h.read_only (read_only_with h.read_only.filesz) && nat_le relocs_place h.read_only.filesz
    && is_zero_between file symbols_place relocs_place

-- the code has whole words and begins the next page; the gap before it is zero
abbrev pub is_code : List ℕ → Heads → Bool
is_code file h =
    same_segment h.code (code_with h.code.offset h.code.filesz) && round_page h.read_only.filesz == h.code.offset
    && h.code.filesz % 4 == 0 && is_zero_between file h.read_only.filesz h.code.offset

-- The writable part begins the next page, and the gap before it is zero. It has room for the 11 dynamic entries, its bytes in
-- the file and the zero bytes are whole granules, and the image's memory, which it ends, is within 256 MiB.
abbrev pub is_writable : List ℕ → Heads → Bool
is_writable file h =
    same_segment h.writable (writable_with h.writable.offset h.writable.filesz h.writable.memsz)
    && round_page (h.code.offset + h.code.filesz) == h.writable.offset
    && nat_le 176 h.writable.filesz && h.writable.filesz % 16 == 0 && nat_le h.writable.filesz h.writable.memsz
    && h.writable.memsz % 16 == 0 && nat_le (h.writable.offset + h.writable.memsz) memory_limit
    && is_zero_between file (h.code.offset + h.code.filesz) h.writable.offset

-- the dynamic entries, of which there are 11 or 13, begin the writable part
abbrev pub is_dynamic : Heads → Bool
is_dynamic h =
    same_segment h.dynamic (dynamic_at h.writable.offset h.dynamic.filesz) && (h.dynamic.filesz == 176 || h.dynamic.filesz == 208)
    && nat_le h.dynamic.filesz h.writable.filesz

-- ---- sizes that dynamic entries say

-- Whole relocations, within the first part. Where there are no descriptors, they decide where the read-only data begins.
abbrev pub is_reloc_size : Heads → ℕ → Bool
is_reloc_size h relocs =
    relocs % 24 == 0
    && (if h.dynamic.filesz == 208 then nat_le (relocs_place + relocs) h.read_only.filesz else
    nat_le (round16 (relocs_place + relocs)) h.read_only.filesz)

-- some descriptors, behind which the read-only data begins within the first part
abbrev pub is_descriptor_size : Heads → ℕ → ℕ → Bool
is_descriptor_size h relocs descriptors =
    nat_le 1 descriptors && nat_le (round16 (relocs_place + relocs + descriptors)) h.read_only.filesz

-- ---- the conditions in order

-- there is no fault, and this is the fault
abbrev pub no_fault : Option ImageRefusal
no_fault = None

abbrev pub fault_is : ImageRefusal → Option ImageRefusal
fault_is e = Some e

-- it is an ELF file of 64 bits for this machine, with a header and four program headers
abbrev pub opening : List ℕ → Heads → List (Condition ImageRefusal)
opening file h =
    condition (agrees file identification) NotElf
    ∷ condition (nat_le 64 (length file)) (Truncated (length file))
    ∷ condition (same_machine h.header (header_with h.header.entry)) NotThisMachine
    ∷ condition (nat_le (h.header.phoff + 224) (length file)) (Truncated (length file))
    ∷ []

-- the bytes that each program header names are there
abbrev pub contents : List ℕ → Heads → List (Condition ImageRefusal)
contents file h =
    condition (reaches file h.read_only) (Truncated (length file))
    ∷ condition (reaches file h.code) (Truncated (length file))
    ∷ condition (reaches file h.writable) (Truncated (length file))
    ∷ condition (reaches file h.dynamic) (Truncated (length file))
    ∷ []

-- the rest of the header, the program headers with what is fixed in their segments, and the end of the file
abbrev pub segments : List ℕ → Heads → List (Condition ImageRefusal)
segments file h =
    condition (same_header h.header (header_with h.header.entry)) (BadSegment 0)
    ∷ condition (is_read_only file h) (BadSegment 0)
    ∷ condition (is_code file h) (BadSegment 1)
    ∷ condition (is_writable file h) (BadSegment 2)
    ∷ condition (is_dynamic h) (BadSegment 3)
    ∷ condition (nat_le (length file) (h.writable.offset + h.writable.filesz)) (BadSegment 4)
    ∷ []

-- the dynamic entries from a number on are these
abbrev pub asks : List ℕ → Heads → ℕ → List Dyn → List (Condition ImageRefusal)
asks file h i [] = []
asks file h i (d ∷ ds) = condition (same_entry (entry_at file h i) d) (BadDynamic i) ∷ asks file h (i + 1) ds

-- the size that RELASZ says, and then the relocations, of which one that is not relative counts to RELA
abbrev pub reloc_asks : List ℕ → Heads → List (Condition ImageRefusal)
reloc_asks file h =
    condition (is_reloc_size h (reloc_bytes_at file h)) (BadDynamic 5)
    ∷ condition (are_relative (reloc_bytes_at file h / 24) relocs_place file) (BadDynamic 4)
    ∷ []

-- the entries up to RELASZ
abbrev pub table_asks : List ℕ → Heads → List (Condition ImageRefusal)
table_asks file h = asks file h 0 (table_entries (reloc_bytes_at file h)) ++ reloc_asks file h

-- those up to MEMTAG_STACK
abbrev pub mode_asks : List ℕ → Heads → List (Condition ImageRefusal)
mode_asks file h = asks file h 6 mode_entries

-- the size that MEMTAG_GLOBALSSZ says
abbrev pub size_asks : List ℕ → Heads → List (Condition ImageRefusal)
size_asks file h = condition (is_descriptor_size h (reloc_bytes_at file h) (descriptor_bytes_at file h)) (BadDynamic 11) ∷ []

-- those of the descriptors, where there are 13 entries, and the last one
abbrev pub described_asks : List ℕ → Heads → List (Condition ImageRefusal)
described_asks file h =
    asks file h 10 (described_entries (relocs_place + reloc_bytes_at file h) (descriptor_bytes_at file h))
    ++ (size_asks file h ++ asks file h 12 last_entries)

abbrev pub last_asks : List ℕ → Heads → List (Condition ImageRefusal)
last_asks file h = if h.dynamic.filesz == 208 then described_asks file h else asks file h 10 last_entries

-- the gap between the descriptors and the read-only data, whose place the entries say
abbrev pub gap_asks : List ℕ → Heads → List (Condition ImageRefusal)
gap_asks file h =
    condition (is_zero_between file (relocs_place + reloc_bytes_at file h + descriptor_bytes_at file h)
    (round16 (relocs_place + reloc_bytes_at file h + descriptor_bytes_at file h))) (BadSegment 0)
    ∷ []

-- all behind the headers
abbrev pub after_opening : List ℕ → Heads → List (Condition ImageRefusal)
after_opening file h = contents file h ++ (segments file h ++
    (table_asks file h ++ (mode_asks file h ++ (last_asks file h ++ gap_asks file h))))

abbrev pub conditions : List ℕ → Heads → List (Condition ImageRefusal)
conditions file h = opening file h ++ after_opening file h

-- the fault of a file: the first condition that fails
unfoldable pub fault_of : List ℕ → Option ImageRefusal
fault_of file = first_fault (conditions file (heads_at file))

abbrev pub ImageFault : List ℕ → ImageRefusal → Type 0
ImageFault file fault = fault_of file ≡ Some fault
