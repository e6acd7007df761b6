-- Where the tagged objects of an image lie, from the start of its filled data on: this does not hang on the length of the descriptors.
use Rattle.std.specs.Prelude.{◌≡◌, ℕ, ◌+◌, ◌%◌, ◌<◌, ◌≤◌, Bool, true, false, List, [], ◌∷◌, ◌++◌, map, filter_map, length, slice_get}
use Rattle.std.specs.Prelude.{slice_index, if◌then◌else◌, IsPermutation}
use Rattle.std.specs.Option.{option_map}
use Rattle.elf_obj.specs.declared.parts.Home.{Home}
use Rattle.elf_obj.specs.declared.parts.Home.TheVariants.{Undef, Text, Rodata, Init, Zero}
use Rattle.elf_obj.specs.declared.parts.Symbol.{Symbol}
use Rattle.elf_obj.specs.Object.{Object}
use Rattle.memtag_desc.specs.declared.interval.Interval.{Interval}
use Rattle.linker.specs.declared.bases.Bases.{Bases}
use Rattle.linker.specs.declared.spans.Span.{Span}
use Rattle.linker.specs.Sections.{starts, init_sizes, zero_sizes}
use Rattle.linker.specs.Got.{got_bytes}
use Rattle.linker.specs.Data.{filled_size, zero_size}
use Rattle.linker.specs.Tagged.{tagged_from}

-- the interval of a span where the filled data begins at a place
abbrev pub at_place : ℕ → Span → Interval
at_place filled s = record { start = filled + s.start; bytes = s.bytes }

abbrev pub is_init : Home → Bool
is_init Undef = false
is_init Text = false
is_init Rodata = false
is_init Init = true
is_init Zero = false

-- the span of a symbol, where the filled bytes and the zero bytes of its object begin at these places
abbrev pub span_of : ℕ → ℕ → Symbol → Span
span_of inits zeros s = record { start = (if is_init s.home then inits else zeros) + s.value; bytes = s.size }

abbrev pub object_spans : ℕ → ℕ → Object → List Span
object_spans inits zeros o = filter_map (λ n. option_map (span_of inits zeros) (slice_get o.symbols n)) o.tagged

-- where they begin in the object of a number: the zero bytes of the image follow its filled data
abbrev pub init_at : List Object → ℕ → ℕ
init_at objects k = slice_index (starts 16 (got_bytes objects) (init_sizes objects)) k

abbrev pub zero_at : List Object → ℕ → ℕ
zero_at objects k = filled_size objects + slice_index (starts 16 0 (zero_sizes objects)) k

-- those of objects that are counted from a number, in the order of the objects and of the symbols
abbrev pub spans_from : List Object → ℕ → List Object → List Span
spans_from objects k [] = []
spans_from objects k (o ∷ os) = object_spans (init_at objects k) (zero_at objects k) o ++ spans_from objects (k + 1) os

-- spans of whole granules, none empty, each behind the one before, from a place on and up to an end
abbrev pub AreApart : ℕ → ℕ → List Span → Type 0
AreApart from end [] = Unit {0}
AreApart from end (s ∷ ss) =
    (s.start % 16 ≡ 0) × (s.bytes % 16 ≡ 0) × (0 < s.bytes) × (from ≤ s.start) × (s.start + s.bytes ≤ end)
    × AreApart (s.start + s.bytes) end ss

-- those of all tagged objects, in the order of their places
pub record AreSpans (objects : List Object) (spans : List Span) : Type 0 where
  pub all : (bases : Bases) → bases.zeros ≡ bases.filled + filled_size objects
      → IsPermutation (tagged_from objects bases 0 objects) (map (at_place bases.filled) spans)
  pub apart : AreApart 0 (filled_size objects + zero_size objects) spans

-- some bytes of this length have a property
pub record HasLength (P : List ℕ → Type 0) (n : ℕ) : Type 0 where
  pub bytes : List ℕ
  pub is : P bytes
  pub len : length bytes ≡ n
