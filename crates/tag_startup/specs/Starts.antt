-- Which images start, and what is wrong with the others: the first condition that fails (this project's own).
use Rattle.std.specs.Prelude.{◌≡◌, ℕ, ◌+◌, ◌%◌, Bool, not, ◌&&◌, ◌==◌, nat_le, List, length, Option, Some, None}
use Rattle.std.specs.List.{position}
use Rattle.std.specs.Option.{option_map}
use Rattle.elf_image.specs.Image.{Image}
use Rattle.elf_image.specs.Places.{dynamic_place, memory_end}
use Rattle.elf_image.specs.declared.parts.RelativeReloc.{RelativeReloc}
use Rattle.memtag_desc.specs.declared.interval.Interval.{Interval}
use Rattle.memtag_desc.specs.declared.refusal.DescRefusal.{DescRefusal}
use Rattle.memtag_desc.specs.Descriptors.{Describes, end_of}
use Rattle.memtag_desc.specs.Faults.{HasFault}
use Rattle.tag_startup.specs.declared.refusal.StartRefusal.{StartRefusal}
use Rattle.tag_startup.specs.declared.refusal.StartRefusal.TheVariants.{Descriptors, Outside}

-- an object that is not within the part of the image from one address to another
abbrev pub is_outside : ℕ → ℕ → Interval → Bool
is_outside start end i = not (nat_le start i.start && nat_le (end_of i) end)

-- a relocation whose place is no multiple of 8, or whose 8 bytes are not within that part
abbrev pub is_misplaced : ℕ → ℕ → RelativeReloc → Bool
is_misplaced start end r = not (r.place % 8 == 0 && (nat_le start r.place && nat_le (r.place + 8) end))

-- the index in a list of so many, or else the one in a second list, where it counts on
abbrev pub counted_on : ℕ → Option ℕ → Option ℕ → Option ℕ
counted_on count None second = option_map (λ k. count + k) second
counted_on count (Some k) second = Some k

-- the first object that is not within the writable part, or else the first relocation that is misplaced there
unfoldable pub first_outside : Image → List Interval → Option ℕ
first_outside image intervals =
    counted_on (length intervals) (position (is_outside (dynamic_place image) (memory_end image)) intervals)
    (position (is_misplaced (dynamic_place image) (memory_end image)) image.relocs)

-- The descriptors of the image describe these objects, and all of them and all places of relocations are in its writable part.
pub record AreObjects (image : Image) (intervals : List Interval) : Type 0 where
  pub described : Describes intervals image.descriptors
  pub inside : first_outside image intervals ≡ None

-- the image starts: it has objects
pub record Starts (image : Image) : Type 0 where
  pub intervals : List Interval
  pub objects : AreObjects image intervals

-- what is wrong with an image that does not start
pub data StartFault (image : Image) : StartRefusal → Type 0 where
  descriptors : (fault : DescRefusal) → HasFault image.descriptors fault → StartFault image (Descriptors fault)
  outside : (intervals : List Interval) (index : ℕ) → Describes intervals image.descriptors → first_outside image intervals ≡ Some index
      → StartFault image (Outside index)
