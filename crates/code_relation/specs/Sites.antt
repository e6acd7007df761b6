-- Where each block of the meaning lies in the memory of the machine, and the tag of its pointers (this project's own).
use Rattle.std.specs.Prelude.{◌≡◌, ℕ, ◌+◌, ◌%◌, Bool, true, false, List, take, length, slice_get, slice_index, Option, Some, None}
use Rattle.std.specs.Prelude.{if◌then◌else◌}
use Rattle.mt_base.specs.Memory.{is_between}
use Rattle.mt_base.specs.Tags.{base, slot_tag}
use Rattle.c_type_base.specs.declared.typed.Typed.{Typed}
use Rattle.frame_layout.specs.declared.frame.Slot.{Slot}
use Rattle.frame_layout.specs.WellFormed.{is_tagged_slot}
use Rattle.a64_code.specs.State.{State}
use Rattle.block_meaning.specs.declared.kind.Kind.{Kind}
use Rattle.block_meaning.specs.declared.kind.Kind.TheVariants.{NullBlock, Global, Text, Code, Local}
use Rattle.block_meaning.specs.Blocks.{Block}
use Rattle.block_meaning.specs.Running.{Call, Program, State as MeaningState}
use Rattle.code_relation.specs.Calls.{frame_of, drawn_by, lowest}

-- where a block starts, and the tag of its pointers
pub record Site : Type 0 where
  pub start : ℕ
  pub tag : ℕ

abbrev pub site : ℕ → ℕ → Site
site start tag = record { start = start; tag = tag }

-- what stays the same through a run
pub record Given : Type 0 where
  pub program : Program
  -- a state of the machine that tells what no step of the code changes
  pub loaded : State
  -- where the file-scope objects, the texts and the functions lie, by the numbers of their blocks
  pub starts : ℕ → Site
  -- how many choices were drawn before the call of `main`
  pub first : ℕ

abbrev pub units_of : Given → List Typed
units_of g = g.program.units

-- ---- choices

-- The choice that a call drew, where it drew one: counted from the first by the calls before it that drew one, round the list.
abbrev pub choice_of : Given → List Call → Call → ℕ
choice_of g calls c =
    slice_index g.loaded.choices ((g.first + drawn_by (units_of g) (take c.number calls)) % length g.loaded.choices)

-- the base tag of its frame
abbrev pub base_of : Given → List Call → Call → ℕ
base_of g calls c = base (choice_of g calls c)

-- ---- sites

-- that of the null block
abbrev pub nowhere : Site
nowhere = site 0 0

-- a slot of a call's frame
abbrev pub site_of_slot : Given → List Call → Call → Option Slot → Site
site_of_slot g calls c None = nowhere
site_of_slot g calls c (Some s) = site (lowest c + s.start) (if is_tagged_slot s then slot_tag (choice_of g calls c) s.index else 0)

abbrev pub slot_in : Given → Call → ℕ → Option Slot
slot_in g c k = slice_get (frame_of (units_of g) c.function).slots k

abbrev pub site_of_local : Given → List Call → Option Call → ℕ → Site
site_of_local g calls None k = nowhere
site_of_local g calls (Some c) k = site_of_slot g calls c (slot_in g c k)

-- by what a block is, and its number
abbrev pub site_by : Given → List Call → Kind → ℕ → Site
site_by g calls NullBlock number = nowhere
site_by g calls (Local call k) number = site_of_local g calls (slice_get calls call) k
site_by g calls (Global unit k) number = g.starts number
site_by g calls (Text unit k) number = g.starts number
site_by g calls (Code unit k) number = g.starts number

-- Of a block of this number. A block keeps it after its end.
abbrev pub site_of : Given → MeaningState → ℕ → Block → Site
site_of g now number b = site_by g now.calls b.kind number

-- ---- kinds of blocks

abbrev pub is_object : Kind → Bool
is_object (Global unit k) = true
is_object _ = false

-- it lives for the whole run, and is not the null block
abbrev pub is_of_file : Kind → Bool
is_of_file NullBlock = false
is_of_file (Local call k) = false
is_of_file _ = true

abbrev pub is_tagged_by : Option Slot → Bool
is_tagged_by None = false
is_tagged_by (Some s) = is_tagged_slot s

abbrev pub is_tagged_local : Given → Option Call → ℕ → Bool
is_tagged_local g None k = false
is_tagged_local g (Some c) k = is_tagged_by (slot_in g c k)

-- File-scope objects are tagged, and so are the locals whose slots are.
abbrev pub is_tagged_block : Given → List Call → Kind → Bool
is_tagged_block g calls (Global unit k) = true
is_tagged_block g calls (Local call k) = is_tagged_local g (slice_get calls call) k
is_tagged_block g calls _ = false

-- ---- bytes of blocks

-- the block of this number is there and alive
pub record Lives (now : MeaningState) (number : ℕ) (b : Block) : Type 0 where
  pub is : slice_get now.blocks number ≡ Some b
  pub live : b.live ≡ true

-- an address is one of its bytes'
abbrev pub has_byte : Given → MeaningState → ℕ → Block → ℕ → Bool
has_byte g now number b a = is_between (site_of g now number b).start b.size a
