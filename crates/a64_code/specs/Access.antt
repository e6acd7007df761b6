-- Accesses to memory and how they are judged: in the order of alignment, guard, regions with their rights, and tags
-- (`Mem[]`, `MemTag[]` and `AArch64.CheckTag` of the Arm ARM, with synchronous tag checks; the guard and the order are this
-- project's own). An address has to be a multiple of its unit, as where SCTLR_ELx.A is set; whether SP is a multiple of 16
-- is not judged, as where SCTLR_ELx.SA is clear; and no tag lets an access through unchecked, as where TCR_ELx.TCMA is
-- clear.
use Rattle.std.specs.Prelude.{ℕ, ◌+◌, ◌-◌, ◌*◌, ◌%◌, Bool, true, false, not, ◌&&◌, ◌==◌, if◌then◌else◌, Option, Some, None}
use Rattle.mt_base.specs.Granules.{granule_of}
use Rattle.mt_base.specs.Memory.{is_in_span, is_mapped, is_protected, every_byte, some_byte}
use Rattle.mt_base.specs.Pointers.{tag_of, address_of}
use Rattle.a64_code.specs.declared.end.MachineEnd.{MachineEnd}
use Rattle.a64_code.specs.declared.end.MachineEnd.TheVariants.{TagFault, MemoryFault, AlignFault, StackFault}
use Rattle.a64_code.specs.State.{State}

pub record Access : Type 0 where
  -- base plus offset, with its tag; the access is to the address in it, bits 55 to 0
  pub pointer : ℕ
  -- what the address has to be a multiple of
  pub unit : ℕ
  -- the bytes that are touched: so many, from an address on
  pub start : ℕ
  pub bytes : ℕ
  -- whether it writes
  pub writes : Bool
  -- whether the pointer's tag has to be that of the granules touched
  pub checked : Bool

-- a load or a store of 1, 2, 4 or 8 bytes, at a multiple of as many
abbrev pub single : ℕ → ℕ → Bool → Bool → Access
single bytes pointer writes checked = record {
  pointer = pointer;
  unit = bytes;
  start = address_of pointer;
  bytes = bytes;
  writes = writes;
  checked = checked;
}

-- a load or a store of a pair of 8 bytes each, at a multiple of 8
abbrev pub pair : ℕ → Bool → Bool → Access
pair pointer writes checked = record {
  pointer = pointer;
  unit = 8;
  start = address_of pointer;
  bytes = 16;
  writes = writes;
  checked = checked;
}

-- a store of tags to so many granules, at a multiple of 16
abbrev pub tag_store : ℕ → ℕ → Access
tag_store granules pointer = record {
  pointer = pointer;
  unit = 16;
  start = address_of pointer;
  bytes = 16 * granules;
  writes = true;
  checked = false;
}

-- a load of the tag of the granule that the address is in, anywhere in it
abbrev pub tag_load : ℕ → Access
tag_load pointer = record {
  pointer = pointer;
  unit = 1;
  start = granule_of (address_of pointer) * 16;
  bytes = 16;
  writes = false;
  checked = false;
}

-- the fault of a pointer at a granule, where their tags differ
abbrev pub tag_fault_at : State → ℕ → ℕ → Option MachineEnd
tag_fault_at s pointer granule =
    if tag_of pointer == s.tag granule then None
    else Some (TagFault (address_of pointer) (tag_of pointer) (s.tag granule))

-- the first of two faults
abbrev pub first_fault : Option MachineEnd → Option MachineEnd → Option MachineEnd
first_fault None second = second
first_fault (Some end) second = Some end

-- The granules touched are that of the first byte and that of the last one: at most 16 bytes are checked.
unfoldable pub tag_end : State → ℕ → ℕ → ℕ → Option MachineEnd
tag_end s pointer start bytes =
    first_fault (tag_fault_at s pointer (granule_of start)) (tag_fault_at s pointer (granule_of (start + bytes - 1)))

-- how an access ends the run, where it does
unfoldable pub access_end : State → Access → Option MachineEnd
access_end s a =
    if not (address_of a.pointer % a.unit == 0) then Some (AlignFault (address_of a.pointer))
    else if some_byte (is_in_span s.guard) a.start a.bytes then Some StackFault
    else if not (every_byte (is_mapped s.regions) a.start a.bytes) then Some (MemoryFault (address_of a.pointer))
    else if a.writes && some_byte (is_protected s.regions) a.start a.bytes then Some (MemoryFault (address_of a.pointer))
    else if a.checked then tag_end s a.pointer a.start a.bytes
    else None
