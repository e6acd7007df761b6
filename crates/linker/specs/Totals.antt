-- The places of an image by the sizes of its parts and the number of its descriptor bytes, before it is there.
use Rattle.std.specs.Prelude.{◌≡◌, ℕ, zero, suc, ◌+◌, ◌*◌, ◌<◌, ◌^◌, List}
use Rattle.mt_base.specs.Granules.{round16}
use Rattle.elf_image.specs.Places.{round_page}
use Rattle.elf_obj.specs.Object.{Object}
use Rattle.linker.specs.declared.lengths.Lengths.{Lengths}
use Rattle.linker.specs.declared.totals.Totals.{Totals}
use Rattle.linker.specs.Sections.{word_counts, rodata_sizes, init_sizes, zero_sizes}
use Rattle.linker.specs.Relocations.{relocation_count}
use Rattle.linker.specs.Code.{code_words}
use Rattle.linker.specs.Data.{rodata_size, filled_size, zero_size}

-- how long the sections of each kind are
pub record AreLengths (objects : List Object) (l : Lengths) : Type 0 where
  pub words : l.words.items ≡ word_counts objects
  pub rodata : l.rodata.items ≡ rodata_sizes objects
  pub init : l.init.items ≡ init_sizes objects
  pub zero : l.zero.items ≡ zero_sizes objects

-- the sizes of the parts of the image of objects
unfoldable pub totals_of : List Object → Totals
totals_of objects = record {
  relocs = relocation_count objects;
  rodata = rodata_size objects;
  words = code_words objects;
  filled = filled_size objects;
  zeros = zero_size objects;
}

-- numbers of which sums are far below 2 ^ 128
pub record AreSmall (t : Totals) : Type 0 where
  pub relocs : t.relocs < 2 ^ 100
  pub rodata : t.rodata < 2 ^ 100
  pub words : t.words < 2 ^ 100
  pub filled : t.filled < 2 ^ 100
  pub zeros : t.zeros < 2 ^ 100

-- how many dynamic all_numbered an image with so many descriptor bytes has
abbrev pub entry_count : ℕ → ℕ
entry_count zero = 11
entry_count (suc n) = 13

-- where the parts begin, and where the memory ends
unfoldable pub rodata_by : Totals → ℕ → ℕ
rodata_by t count = round16 (0x140 + 24 * t.relocs + count)

unfoldable pub code_by : Totals → ℕ → ℕ
code_by t count = round_page (rodata_by t count + t.rodata)

unfoldable pub filled_by : Totals → ℕ → ℕ
filled_by t count = round16 (round_page (code_by t count + 4 * t.words) + 16 * entry_count count)

unfoldable pub end_by : Totals → ℕ → ℕ
end_by t count = filled_by t count + t.filled

unfoldable pub memory_by : Totals → ℕ → ℕ
memory_by t count = end_by t count + t.zeros
