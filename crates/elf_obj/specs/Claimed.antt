-- What bytes say of the parts of an object, if they are its file: each number where the header and the section headers name it.
use Rattle.std.specs.Prelude.{ℕ, zero, suc, ◌+◌, ◌-◌, ◌*◌, ◌/◌, ◌%◌, ◌==◌, nat_lt, List, [], ◌∷◌, take, drop, if◌then◌else◌}
use Rattle.std.specs.Int.{w64, cast_signed}
use Rattle.elf_base.specs.Place.{number_at}
use Rattle.elf_obj.specs.declared.parts.Symbol.{Symbol}
use Rattle.elf_obj.specs.declared.parts.Reloc.{Reloc}
use Rattle.elf_obj.specs.declared.parts.Home.{Home}
use Rattle.elf_obj.specs.declared.parts.Home.TheVariants.{Undef, Text, Rodata, Init, Zero}
use Rattle.elf_obj.specs.Object.{Object}

-- where the section headers begin, by the file's header
unfoldable pub headers_at : List ℕ → ℕ
headers_at file = number_at 8 40 file

-- where the content of a section begins, and how long it is, by the section's header
unfoldable pub offset_of : List ℕ → ℕ → ℕ
offset_of file k = number_at 8 (headers_at file + 64 * k + 24) file

unfoldable pub size_of : List ℕ → ℕ → ℕ
size_of file k = number_at 8 (headers_at file + 64 * k + 32) file

-- the content of a section
unfoldable pub content_of : List ℕ → ℕ → List ℕ
content_of file k = take (size_of file k) (drop (offset_of file k) file)

-- so many elements from a place on, each as wide as that
abbrev pub each_from : {A : Type 0} → (ℕ → A) → ℕ → ℕ → ℕ → List A
each_from read width zero at = []
each_from read width (suc count) at = read at ∷ each_from read width count (at + width)

-- so many words from a place on
abbrev pub words_at : ℕ → ℕ → List ℕ → List ℕ
words_at count at file = each_from (λ place. number_at 4 place file) 4 count at

-- the bytes up to the first zero byte, and those behind it
abbrev pub name_first : List ℕ → List ℕ
name_first [] = []
name_first (b ∷ bs) = if b == 0 then [] else b ∷ name_first bs

abbrev pub after_name : List ℕ → List ℕ
after_name [] = []
after_name (b ∷ bs) = if b == 0 then bs else after_name bs

-- so many names, each with a zero byte behind it
abbrev pub names_in : ℕ → List ℕ → List (List ℕ)
names_in zero bs = []
names_in (suc count) bs = name_first bs ∷ names_in count (after_name bs)

-- the section of a number
abbrev pub home_of : ℕ → Home
home_of n = if n == 1 then Text else (if n == 2 then Rodata else (if n == 3 then Init else (if n == 4 then Zero else Undef)))

-- the symbol of a name that stands at a place
abbrev pub symbol_at : List ℕ → ℕ → List ℕ → Symbol
symbol_at name at file = record {
  name = name;
  home = home_of (number_at 2 (at + 6) file);
  value = number_at 8 (at + 8) file;
  size = number_at 8 (at + 16) file;
  local = nat_lt (number_at 1 (at + 4) file) 16;
  function = number_at 1 (at + 4) file % 16 == 2;
}

-- symbols of these names from a place on
abbrev pub symbols_at : List (List ℕ) → ℕ → List ℕ → List Symbol
symbols_at [] at file = []
symbols_at (name ∷ names) at file = symbol_at name at file ∷ symbols_at names (at + 24) file

abbrev pub reloc_at : ℕ → List ℕ → Reloc
reloc_at at file = record {
  offset = number_at 8 at file;
  kind = number_at 8 (at + 8) file % 4294967296;
  symbol = number_at 8 (at + 8) file / 4294967296 - 1;
  addend = cast_signed w64 (number_at 8 (at + 16) file);
}

abbrev pub relocs_at : ℕ → ℕ → List ℕ → List Reloc
relocs_at count at file = each_from (λ place. reloc_at place file) 24 count at

-- the number of a tagged symbol
abbrev pub tag_at : ℕ → List ℕ → ℕ
tag_at at file = number_at 8 (at + 8) file / 4294967296 - 1

abbrev pub tags_at : ℕ → ℕ → List ℕ → List ℕ
tags_at count at file = each_from (λ place. tag_at place file) 24 count at

-- the names in .strtab, behind its first byte, one for each symbol but the first
unfoldable pub names_of : List ℕ → List (List ℕ)
names_of file = names_in (size_of file 5 / 24 - 1) (drop 1 (content_of file 6))

-- the object that the bytes claim to be
abbrev pub claimed : List ℕ → Object
claimed file = record {
  words = words_at (size_of file 1 / 4) (offset_of file 1) file;
  rodata = content_of file 2;
  init_bytes = content_of file 3;
  zero_bytes = size_of file 4;
  symbols = symbols_at (names_of file) (offset_of file 5 + 24) file;
  text_relocs = relocs_at (size_of file 8 / 24) (offset_of file 8) file;
  init_relocs = relocs_at (size_of file 9 / 24) (offset_of file 9) file;
  tagged = tags_at (size_of file 11 / 24) (offset_of file 11) file;
}
