-- The state that tells what no step of the code changes, and where the blocks of the files lie in it (this project's own).
use Rattle.std.specs.Prelude.{◌≡◌, ℕ, ◌+◌, ◌-◌, ◌*◌, ◌%◌, ◌^◌, ◌<◌, ◌≤◌, Bool, true, false, slice_get, Some}
use Rattle.std.specs.List.{All, AllPairs, Contains}
use Rattle.mt_base.specs.Granules.{granule_of}
use Rattle.mt_base.specs.Memory.{Extent, is_between}
use Rattle.tag_mem.specs.Regions.{AreApart, IsApartFrom}
use Rattle.a64_code.specs.State.{State}
use Rattle.a64_laws.specs.Laws.Effects.InRange.{IsInRange}
use Rattle.block_meaning.specs.Access.{is_text}
use Rattle.block_meaning.specs.Blocks.{Block}
use Rattle.block_meaning.specs.Opening.{opening}
use Rattle.block_meaning.specs.Running.{Program}
use Rattle.code_relation.specs.Calls.{stack_end, guard_bytes}
use Rattle.code_relation.specs.Sites.{Given, units_of, is_object, is_of_file}

-- ---- regions

-- a size of the stack, in bytes: whole kilobytes up to 64 MiB
pub record IsStack (bytes : ℕ) : Type 0 where
  pub whole : bytes % 1024 ≡ 0
  pub least : 1024 ≤ bytes
  pub most : bytes ≤ 67108864

-- some region is the stack, and may be written
pub record HasStack (bytes : ℕ) (s : State) : Type 0 where
  pub region : Extent
  pub there : Contains s.regions region
  pub end : region.start + region.bytes ≡ stack_end
  pub bytes_is : region.bytes ≡ bytes
  pub writable : region.writable ≡ true

-- Regions and guard do not overlap; the stack is one of the regions, and the guard is right below it.
pub record IsLoaded (p : Program) (s : State) : Type 0 where
  pub in_range : IsInRange s
  pub apart : AllPairs AreApart s.regions
  pub guard_apart : All (IsApartFrom s.guard) s.regions
  pub stack_size : IsStack p.stack
  pub stack : HasStack p.stack s
  pub guard_bytes_is : s.guard.bytes ≡ guard_bytes
  pub guard_end : s.guard.start + guard_bytes + p.stack ≡ stack_end

-- an address of the stack, and a granule of it
abbrev pub on_stack : Given → ℕ → Bool
on_stack g a = is_between (stack_end - g.program.stack) g.program.stack a

abbrev pub is_stack_granule : Given → ℕ → Bool
is_stack_granule g granule = on_stack g (granule * 16)

-- ---- the blocks of the files

-- there is one of this number before the call of `main`
pub record IsFileBlock (g : Given) (number : ℕ) (b : Block) : Type 0 where
  pub is : slice_get (opening (units_of g)) number ≡ Some b
  pub of_file : is_of_file b.kind ≡ true

abbrev pub start_of : Given → ℕ → ℕ
start_of g number = (g.starts number).start

-- an address is one of the bytes of such a block
abbrev pub file_byte : Given → ℕ → Block → ℕ → Bool
file_byte g number b a = is_between (start_of g number) b.size a

-- one region holds all bytes of the block
pub record LiesIn (g : Given) (number : ℕ) (b : Block) (r : Extent) : Type 0 where
  pub there : Contains g.loaded.regions r
  pub from : r.start ≤ start_of g number
  pub to : start_of g number + b.size ≤ r.start + r.bytes

-- it lies in a region that may be written, or in one that may not
pub record LiesWhere (writable : Bool) (g : Given) (number : ℕ) (b : Block) : Type 0 where
  pub region : Extent
  pub within : LiesIn g number b region
  pub right : region.writable ≡ writable

-- Where the blocks of the files lie.
pub record FilesLie (g : Given) : Type 0 where
  pub above : (number : ℕ) (b : Block) → IsFileBlock g number b → 0 < start_of g number
  pub below : (number : ℕ) (b : Block) → IsFileBlock g number b → start_of g number + b.size ≤ 2 ^ 56
  -- outside the stack: where it starts, for one without bytes, and each of its bytes
  pub start_outside : (number : ℕ) (b : Block) → IsFileBlock g number b → on_stack g (start_of g number) ≡ false
  pub outside : (number : ℕ) (b : Block) (a : ℕ) → IsFileBlock g number b → file_byte g number b a ≡ true → on_stack g a ≡ false
  pub objects_whole : (number : ℕ) (b : Block) → IsFileBlock g number b → is_object b.kind ≡ true → start_of g number % 16 ≡ 0
  pub texts_whole : (number : ℕ) (b : Block) → IsFileBlock g number b → is_text b.kind ≡ true → start_of g number % 16 ≡ 0
  pub objects_writable : (number : ℕ) (b : Block) → IsFileBlock g number b → is_object b.kind ≡ true → LiesWhere true g number b
  pub texts_constant : (number : ℕ) (b : Block) → IsFileBlock g number b → is_text b.kind ≡ true → LiesWhere false g number b
  pub tags : (number : ℕ) (b : Block) → IsFileBlock g number b → (g.starts number).tag < 16
  -- texts and functions have tag 0
  pub untagged : (number : ℕ) (b : Block) → IsFileBlock g number b → is_object b.kind ≡ false → (g.starts number).tag ≡ 0

-- no file-scope object has a byte at an address, or in a granule
abbrev pub NoObjectAt : Given → ℕ → Type 0
NoObjectAt g a = (number : ℕ) (b : Block) → IsFileBlock g number b → is_object b.kind ≡ true → file_byte g number b a ≡ false

abbrev pub NoObjectIn : Given → ℕ → Type 0
NoObjectIn g granule = (a : ℕ) → granule_of a ≡ granule → NoObjectAt g a
