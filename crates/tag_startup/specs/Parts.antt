-- Where the parts of an image and its stack are in memory, and the bytes of its file there (this project's own).
use Rattle.std.specs.Prelude.{◌≡◌, ◌≤◌, ℕ, ◌+◌, ◌-◌, ◌%◌, Bool, true, false, if◌then◌else◌, List, [], ◌∷◌}
use Rattle.mt_base.specs.Granules.{round16}
use Rattle.mt_base.specs.Memory.{Span, Extent, is_mapped}
use Rattle.elf_image.specs.Image.{Image}
use Rattle.elf_image.specs.Places.{rodata_end, code_place, code_end, dynamic_place, memory_end}
use Rattle.elf_image.specs.Pieces.{pieces}
use Rattle.elf_image.specs.FileByte.{byte_among}

-- where an image is loaded, and where the stack ends, below which it grows
abbrev pub load_address : ℕ
load_address = 0x10000000

abbrev pub stack_end : ℕ
stack_end = 0x40000000

-- the guard below the stack has so many bytes
abbrev pub guard_bytes : ℕ
guard_bytes = 524288

-- a size of the stack, in bytes: whole kilobytes up to 64 MiB
pub record IsStack (bytes : ℕ) : Type 0 where
  pub whole : bytes % 1024 ≡ 0
  pub least : 1024 ≤ bytes
  pub most : bytes ≤ 67108864

-- a part of the image from one place to another, in whole granules
abbrev pub part : ℕ → ℕ → Bool → Bool → Extent
part start end writable executable = record {
  start = load_address + start;
  bytes = round16 (end - start);
  writable = writable;
  executable = executable;
}

abbrev pub stack_region : ℕ → Extent
stack_region stack = record { start = stack_end - stack; bytes = stack; writable = true; executable = false }

-- the three parts of the image, which are read-only, executable and writable, and the stack
unfoldable pub loaded_regions : Image → ℕ → List Extent
loaded_regions image stack =
    part 0 (rodata_end image) false false
    ∷ part (code_place image) (code_end image) false true
    ∷ part (dynamic_place image) (memory_end image) true false
    ∷ stack_region stack
    ∷ []

abbrev pub loaded_guard : ℕ → Span
loaded_guard stack = record { start = stack_end - stack - guard_bytes; bytes = guard_bytes }

-- The bytes of memory before any relocation: those of the image's file behind the load address. They are zero behind the file's
-- end, where the zero bytes and the stack are, and where no region is.
unfoldable pub file_byte : Image → ℕ → ℕ → ℕ
file_byte image stack at = if is_mapped (loaded_regions image stack) at then byte_among (pieces image) (at - load_address) else 0
