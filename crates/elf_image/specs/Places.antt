-- Where each part of an image lies. A byte's place in the file is its address in the image (this project's own).
use Rattle.std.specs.Prelude.{◌≡◌, ℕ, ◌+◌, ◌*◌, ◌/◌, ◌%◌, ◌≤◌, List, [], ◌∷◌, length}
use Rattle.mt_base.specs.Granules.{round16}
use Rattle.elf_image.specs.Image.{Image}

-- the least multiple of the page size, 4,096, that is at least x
abbrev pub round_page : ℕ → ℕ
round_page x = (x + 4095) / 4096 * 4096

-- the symbol table, of one symbol; the string table, of one byte; and the relocations, whose place is the next multiple of 16
abbrev pub symbols_place : ℕ
symbols_place = 0x120

abbrev pub strings_place : ℕ
strings_place = 0x138

abbrev pub relocs_place : ℕ
relocs_place = 0x140

-- the descriptors stand behind the relocations, which have 24 bytes each
unfoldable pub descriptors_place : Image → ℕ
descriptors_place p = relocs_place + 24 * length p.relocs

unfoldable pub rodata_place : Image → ℕ
rodata_place p = round16 (descriptors_place p + length p.descriptors)

unfoldable pub rodata_end : Image → ℕ
rodata_end p = rodata_place p + length p.rodata

-- code begins a page
unfoldable pub code_place : Image → ℕ
code_place p = round_page (rodata_end p)

unfoldable pub code_end : Image → ℕ
code_end p = code_place p + 4 * length p.words

-- the dynamic entries begin a page, with which the writable part begins
unfoldable pub dynamic_place : Image → ℕ
dynamic_place p = round_page (code_end p)

-- how many dynamic entries there are: eleven, and two more where there are descriptors
abbrev pub dynamic_count : List ℕ → ℕ
dynamic_count [] = 11
dynamic_count (_ ∷ _) = 13

unfoldable pub dynamic_end : Image → ℕ
dynamic_end p = dynamic_place p + 16 * dynamic_count p.descriptors

unfoldable pub filled_place : Image → ℕ
filled_place p = round16 (dynamic_end p)

-- where the file ends, and the zero bytes begin in memory
unfoldable pub file_end : Image → ℕ
file_end p = filled_place p + length p.filled

unfoldable pub memory_end : Image → ℕ
memory_end p = file_end p + p.zero_bytes

-- an image has at most 256 MiB of memory
abbrev pub memory_limit : ℕ
memory_limit = 268435456

-- the parts of which there is a file: whole granules, within the limit
pub record IsValid (p : Image) : Type 0 where
  pub filled : length p.filled % 16 ≡ 0
  pub zero_bytes : p.zero_bytes % 16 ≡ 0
  pub memory : memory_end p ≤ memory_limit
