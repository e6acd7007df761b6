-- Entries, segments and starts of files for which the definitions are computed.
use Rattle.std.specs.Prelude.{◌≡◌, ℕ, pos, false, true, List, [], ◌∷◌, Some, None, refl}
use Rattle.elf_base.specs.declared.segment.Phdr.{Phdr}
use Rattle.elf_base.specs.declared.dynamic.Dyn.{Dyn}
use Rattle.elf_image.specs.declared.memtag.Found.{Found}
use Rattle.elf_image.specs.MemtagFile.{BeginsElf, before_null, first_of}
use Rattle.elf_base.specs.Index.{told_index}
use Rattle.elf_image.specs.MemtagEntries.{mode_tag, heap_tag, globals_tag, holds, value_of}

-- MEMTAG_MODE twice, NULL, and MEMTAG_HEAP behind it
abbrev some_entries : List Dyn
some_entries =
    record { tag = pos 5; value = 8 } ∷ record { tag = pos 0x70000009; value = 1 } ∷ record { tag = pos 0x70000009; value = 2 }
    ∷ record { tag = pos 0; value = 0 } ∷ record { tag = pos 0x7000000b; value = 3 } ∷ []

first_mode : first_of mode_tag (before_null some_entries) ≡ Some (record { index = 1; value = 1 })
first_mode = refl

mode_value : value_of (first_of mode_tag (before_null some_entries)) ≡ Some 1
mode_value = refl

no_heap : first_of heap_tag (before_null some_entries) ≡ None
no_heap = refl

heap_behind : first_of heap_tag some_entries ≡ Some (record { index = 4; value = 3 })
heap_behind = refl

-- a segment of a kind that has so many bytes from 0x10000 on, which begin at byte 208 of the file
abbrev segment : ℕ → ℕ → Phdr
segment kind filesz = record {
  kind = kind;
  flags = 4;
  offset = 208;
  vaddr = 0x10000;
  paddr = 0x10000;
  filesz = filesz;
  memsz = filesz;
  align = 1;
}

whole : holds 213 0x10000 5 (segment 1 5) ≡ true
whole = refl

behind : holds 213 0x10003 2 (segment 1 5) ≡ true
behind = refl

no_load : holds 213 0x10000 5 (segment 4 5) ≡ false
no_load = refl

below : holds 213 0xffff 1 (segment 1 5) ≡ false
below = refl

past_segment : holds 213 0x10001 5 (segment 1 5) ≡ false
past_segment = refl

past_file : holds 212 0x10000 5 (segment 1 18446744073709551615) ≡ false
past_file = refl

-- a start of three bytes and one of seven begin an ELF file, one of 32 bits does not
three_bytes : BeginsElf (0x7f ∷ 0x45 ∷ 0x4c ∷ [])
three_bytes = refl

seven_bytes : BeginsElf (0x7f ∷ 0x45 ∷ 0x4c ∷ 0x46 ∷ 2 ∷ 1 ∷ 9 ∷ [])
seven_bytes = refl

not_of_32_bits : ¬ BeginsElf (0x7f ∷ 0x45 ∷ 0x4c ∷ 0x46 ∷ 1 ∷ [])
not_of_32_bits e = cc

large_index : told_index 4294967296 ≡ 4294967295
large_index = refl
