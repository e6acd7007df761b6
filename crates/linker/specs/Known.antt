-- What the stages of the linker say of each other.
use Rattle.std.specs.Prelude.{◌≡◌, ◌⊎◌, ℕ, Bool, not, ◌&&◌, List, map}
use Rattle.std.specs.Prelude.{◌<◌, ◌^◌, Option, Some, None, slice_get, slice_index}
use Rattle.std.specs.Borrow.{Bor}
use Rattle.std.specs.List.{All, find, list_any}
use Rattle.std.specs.Option.{option_map}
use Rattle.std.specs.Str.{bytes_eq}
use Rattle.indexmap.specs.IndexMap.{IndexMap, get_by}
use Rattle.indexmap.specs.IndexSet.{IndexSet}
use Rattle.elf_obj.specs.declared.parts.ObjectParts.{ObjectParts}
use Rattle.elf_obj.specs.declared.parts.Symbol.{Symbol}
use Rattle.elf_obj.specs.Object.{Object, object_of}
use Rattle.linker.specs.declared.names.Numbers.{Numbers}
use Rattle.linker.specs.declared.refusal.LinkRefusal.{LinkRefusal}
use Rattle.linker.specs.declared.refusal.LinkRefusal.TheVariants.{NoMemory}
use Rattle.linker.specs.declared.bases.Bases.{Bases}
use Rattle.linker.specs.declared.layout.Starts.{Starts}
use Rattle.linker.specs.declared.layout.Layout.{Layout}
use Rattle.linker.specs.Names.{NumberedSymbol, numbered, is_defined, is_global, defines, main_name}
use Rattle.linker.specs.Got.{firsts, got_bytes}
use Rattle.linker.specs.Sections.{starts, word_counts, rodata_sizes, init_sizes, zero_sizes}
use Rattle.linker.specs.Addresses.{symbol_address}
use Rattle.linker.specs.LinkFault.{LinkFault}

-- the objects that the parts make
abbrev pub objects_of : List ObjectParts → List Object
objects_of parts = map object_of parts

-- a refusal has its cause in the objects, or memory ran out
abbrev pub Refuses : List Object → LinkRefusal → Type 0
Refuses objects refusal = (refusal ≡ NoMemory) ⊎ LinkFault objects refusal

-- ---- names

-- its two numbers
abbrev pub numbers_of : NumberedSymbol → Numbers
numbers_of e = record { object = e.object; number = e.number }

-- the map has the names that these symbols define for all objects, each with the first that does
abbrev pub Knows : {S : Type 0} → IndexMap (Bor (List ℕ)) Numbers S → List NumberedSymbol → Type 0
Knows m seen = (name : List ℕ) → get_by (λ k. bytes_eq name k.now) m ≡ option_map numbers_of (find (defines name) seen)

-- one of these symbols defines the name that this one defines, all for all objects
abbrev pub is_known : List NumberedSymbol → Symbol → Bool
is_known seen s = is_global s && list_any (defines s.name) seen

-- the symbol is not defined, and none of these defines its name for all objects
abbrev pub is_unknown : List NumberedSymbol → Symbol → Bool
is_unknown seen s = not (is_defined s.home) && not (list_any (defines s.name) seen)

-- the symbol is a function `main` for all objects
abbrev pub is_main : Symbol → Bool
is_main s = s.function && (is_global s && bytes_eq s.name main_name)

-- ---- the global offset table

-- the set has the symbols that these uses name, each once and in their order
abbrev pub HasWords : {S : Type 0} → IndexSet Numbers S → List NumberedSymbol → Type 0
HasWords s uses = s.keys ≡ map numbers_of (firsts uses)

-- ---- addresses

-- the places within the parts of an image at which the objects' sections begin
pub record AreStarts (objects : List Object) (starts_of : Starts) : Type 0 where
  pub text : starts_of.text.items ≡ starts 4 2 (word_counts objects)
  pub rodata : starts_of.rodata.items ≡ starts 16 0 (rodata_sizes objects)
  pub init : starts_of.init.items ≡ starts 16 (got_bytes objects) (init_sizes objects)
  pub zero : starts_of.zero.items ≡ starts 16 0 (zero_sizes objects)

-- those of the data are low, whatever the objects are
pub record AreLow (s : Starts) : Type 0 where
  pub init : All (λ n. n < 2 ^ 80) s.init.items
  pub zero : All (λ n. n < 2 ^ 80) s.zero.items

-- all of them are near the start of the image, which is within 256 MiB
pub record AreNear (l : Layout) : Type 0 where
  pub rodata : l.bases.rodata < 2 ^ 32
  pub code : l.bases.code < 2 ^ 32
  pub filled : l.bases.filled < 2 ^ 32
  pub zeros : l.bases.zeros < 2 ^ 32
  pub texts : (k : ℕ) → slice_index l.starts.text.items k < 2 ^ 32
  pub rodatas : (k : ℕ) → slice_index l.starts.rodata.items k < 2 ^ 32
  pub inits : (k : ℕ) → slice_index l.starts.init.items k < 2 ^ 32
  pub zeroes : (k : ℕ) → slice_index l.starts.zero.items k < 2 ^ 32

-- the address of the symbol of some numbers in these objects, and 0 where there is none
abbrev pub number_address_in : List Object → Bases → Numbers → Option Object → ℕ
number_address_in objects bases n None = 0
number_address_in objects bases n (Some o) =
    elim (slice_get o.symbols n.number) as (λ _. ℕ) [ None ↦ 0 | Some s ↦ symbol_address objects bases (numbered n.object n.number s) ]

unfoldable pub number_address : List Object → Bases → Numbers → ℕ
number_address objects bases n = number_address_in objects bases n (slice_get objects n.object)

-- its size, likewise
abbrev pub number_size_in : Numbers → Option Object → ℕ
number_size_in n None = 0
number_size_in n (Some o) = elim (slice_get o.symbols n.number) as (λ _. ℕ) [ None ↦ 0 | Some s ↦ s.size ]

unfoldable pub number_size : List Object → Numbers → ℕ
number_size objects n = number_size_in n (slice_get objects n.object)
