-- What is known before the parts of an image are made.
use Rattle.std.specs.Prelude.{◌≡◌, ℕ, ◌<◌, ◌+◌, ◌-◌, ◌*◌, ◌^◌, ◌&&◌, nat_le, nat_lt, false, List, [], length, map, slice_set, slice_index}
use Rattle.std.specs.Prelude.{if◌then◌else◌}
use Rattle.byteorder.specs.Endian.{little_bytes}
use Rattle.elf_obj.specs.declared.parts.Reloc.{Reloc}
use Rattle.elf_obj.specs.declared.parts.Home.TheVariants.{Undef}
use Rattle.elf_obj.specs.Object.{Object}
use Rattle.linker.specs.declared.bases.Bases.{Bases}
use Rattle.linker.specs.declared.relocate.Link.{Link}
use Rattle.linker.specs.Names.{NumberedSymbol, numbered, all_numbered, target}
use Rattle.linker.specs.Got.{got}
use Rattle.linker.specs.Fields.{relocated}
use Rattle.linker.specs.Code.{site}
use Rattle.linker.specs.Data.{place_content, target_size}
use Rattle.linker.specs.Known.{objects_of, numbers_of, Knows, AreStarts, AreNear}

-- the names of the objects, the words of their table, and where their sections lie, near the start of the image
pub record IsReady (l : Link) : Type 0 where
  pub names : Knows l.names (all_numbered (objects_of l.objects.now))
  pub words : l.table.keys ≡ map numbers_of (got (objects_of l.objects.now))
  pub few : length l.table.keys < 2 ^ 50
  pub starts : AreStarts (objects_of l.objects.now) l.layout.starts
  pub near : AreNear l.layout

-- the word at the place of a relocation was relocated, where an instruction begins there
pub record Relocates (objects : List Object) (bases : Bases) (k : ℕ) (o : Object) (r : Reloc) (words before after : List ℕ) : Type 0 where
  pub here : (i : ℕ) → i < length words → r.offset ≡ 4 * i
      → after ≡ slice_set before i (relocated (site objects bases k o r) (slice_index words i))
  pub nowhere : ((i : ℕ) → i < length words → r.offset ≡ 4 * i → ⊥) → after ≡ before

-- what a symbol past the end reads as
abbrev pub blank_symbol : NumberedSymbol
blank_symbol = numbered 0 0 (record { name = []; home = Undef; value = 0; size = 0; local = false; function = false })

-- what the place of a relocation of the object of a number holds in the file
abbrev pub content_of : List Object → ℕ → Object → Reloc → ℕ
content_of objects k o r = place_content (target_size (target objects k o.symbols r.symbol)) r.addend

-- a byte of a list by its place, where the first so many bytes of a number of eight stand from a place on
abbrev pub with_bytes : ℕ → ℕ → ℕ → ℕ → ℕ → ℕ
with_bytes place value n i byte =
    if nat_le place i && nat_lt i (place + n) then slice_index (little_bytes 8 value) (i - place) else byte
