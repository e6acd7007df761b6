-- What start-up finds of the memory that it makes, and what it does to it.
use Rattle.std.specs.Prelude.{◌≡◌, ◌≤◌, ◌<◌, ℕ, ◌+◌, ◌*◌, ◌%◌, ◌^◌, if◌then◌else◌, List, [], ◌∷◌}
use Rattle.mt_base.specs.Memory.{Span, Extent, store}
use Rattle.tag_mem.specs.declared.access.Access.TheVariants.{Done}
use Rattle.tag_mem.specs.declared.access.TagMemory.{Ghosts}
use Rattle.tag_mem.specs.Answers.{read_answer, write_answer, set_tag_answer}
use Rattle.elf_image.specs.Image.{Image}
use Rattle.elf_image.specs.declared.parts.RelativeReloc.{RelativeReloc}
use Rattle.memtag_desc.specs.declared.interval.Interval.{Interval}
use Rattle.tag_startup.specs.Parts.{load_address, file_byte, loaded_regions, loaded_guard}
use Rattle.tag_startup.specs.Tags.{has_granule, tag_after}
use Rattle.mte_machine.specs.Machine.{state_of}
use Rattle.mte_machine.specs.declared.machine.Machine.{Machine}
use Rattle.a64_code.specs.Outside.{Outside}
use Rattle.tag_startup.specs.Loaded.{loaded}
use Rattle.tag_startup.specs.Relocated.{Before}
use Rattle.tag_startup.specs.Starts.{Starts}

-- the memory shows the bytes of an image's file, no tags, and the regions and the guard of an image with a stack of so many bytes
pub record IsMapped {M : Type 0} (shown : Ghosts M) (memory : M) (image : Image) (stack : ℕ) : Type 0 where
  pub byte : shown.byte memory ≡ file_byte image stack
  pub tags : (granule : ℕ) → shown.tags memory granule ≡ 0
  pub regions : shown.regions memory ≡ loaded_regions image stack
  pub guard : shown.guard memory ≡ loaded_guard stack

-- ---- tags

-- the tags are other ones, and all else is as before
pub record IsTagged {M : Type 0} (shown : Ghosts M) (old new : M) (to : ℕ → ℕ) : Type 0 where
  pub tags : shown.tags new ≡ to
  pub byte : shown.byte new ≡ shown.byte old
  pub regions : shown.regions new ≡ shown.regions old
  pub guard : shown.guard new ≡ shown.guard old

-- the granules of an object can get a tag
pub record CanBeTagged (regions : List Extent) (guard : Span) (i : Interval) : Type 0 where
  pub start_whole : i.start % 16 ≡ 0
  pub bytes_whole : i.bytes % 16 ≡ 0
  pub low : i.start + i.bytes ≤ 2 ^ 32
  pub each : (n : ℕ) → 16 * n < i.bytes → set_tag_answer regions guard (load_address + i.start + 16 * n) ≡ Done

-- the tags with this one at the granules of an object
abbrev pub with_object : (ℕ → ℕ) → Interval → ℕ → ℕ → ℕ
with_object tags i tag granule = if has_granule i granule then tag else tags granule

-- those with the tags of several objects, put in order: the first of them this one, each next one the tag after it
unfoldable pub with_objects : (ℕ → ℕ) → ℕ → List Interval → ℕ → ℕ
with_objects tags tag [] = tags
with_objects tags tag (i ∷ intervals) = with_objects (with_object tags i tag) (tag_after tag) intervals

-- ---- bytes

-- the bytes are other ones, and all else is as before
pub record IsStored {M : Type 0} (shown : Ghosts M) (old new : M) (to : ℕ → ℕ) : Type 0 where
  pub byte : shown.byte new ≡ to
  pub tags : shown.tags new ≡ shown.tags old
  pub regions : shown.regions new ≡ shown.regions old
  pub guard : shown.guard new ≡ shown.guard old

-- the 8 bytes of a relocation's place can be read and written
pub record CanBeRelocated (regions : List Extent) (guard : Span) (r : RelativeReloc) : Type 0 where
  pub low : r.place ≤ 2 ^ 32
  pub read : read_answer regions guard (load_address + r.place) 8 ≡ Done
  pub write : write_answer regions guard (load_address + r.place) 8 ≡ Done

-- the bytes with several pointers, put in order, each at the place of its relocation
unfoldable pub stored : (ℕ → ℕ) → List RelativeReloc → List ℕ → ℕ → ℕ
stored byte [] pointers = byte
stored byte (r ∷ relocs) [] = byte
stored byte (r ∷ relocs) (p ∷ pointers) = stored (store 8 byte (load_address + r.place) p) relocs pointers

-- what the memory shows before relocations
abbrev pub before : {M : Type 0} → Ghosts M → M → Before
before shown memory = record { byte = shown.byte memory; tag = shown.tags memory; regions = shown.regions memory }

-- ---- the machine

-- The machine is at the start of an image that starts: its state, over any outside, is the first one.
pub record IsStarted {M : Type 0} (shown : Ghosts M) (machine : Machine M) (image : Image) (choices : List ℕ) (stack : ℕ) : Type 0 where
  pub starts : Starts image
  pub state : (w : Outside) → state_of shown machine w ≡ loaded image starts.intervals choices stack w
