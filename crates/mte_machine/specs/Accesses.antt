-- What an access to the machine's memory answers and leaves, where it is judged as a64_code's Access says.
use Rattle.std.specs.Prelude.{◌≡◌, ℕ, Bool, if◌then◌else◌, Option, Some, None, Result, Ok, Err}
use Rattle.mt_base.specs.Pointers.{address_of}
use Rattle.tag_mem.specs.declared.access.Access.{Access as Answer}
use Rattle.tag_mem.specs.declared.access.Access.TheVariants.{Done, Unmapped, Guard, Protected}
use Rattle.tag_mem.specs.declared.access.TagMemory.{Ghosts}
use Rattle.a64_code.specs.Access.{Access, tag_end}
use Rattle.a64_code.specs.State.{State}
use Rattle.a64_code.specs.Stepped.{Stepped, Leads, Ends}
use Rattle.a64_code.specs.declared.end.MachineEnd.{MachineEnd}
use Rattle.a64_code.specs.declared.end.MachineEnd.TheVariants.{MemoryFault, StackFault}

-- the state with what this memory shows in place of its bytes, tags, regions and guard
abbrev pub with_memory : {M : Type 0} → Ghosts M → M → State → State
with_memory shown memory s = record s {
  byte = shown.byte memory;
  tag = shown.tags memory;
  regions = shown.regions memory;
  guard = shown.guard memory;
}

-- an access that reads gives this, unless something ends the run
abbrev pub gives : {A : Type 0} → Option MachineEnd → A → Result A MachineEnd
gives None value = Ok value
gives (Some end) value = Err end

-- it fails so, unless something else ends the run first
abbrev pub fails : {A : Type 0} → Option MachineEnd → MachineEnd → Result A MachineEnd
fails None end = Err end
fails (Some first) end = Err first

-- An access that writes does this to the old state: it is done and leaves the state that it leads to, or it is refused
-- with what ends the run and leaves the old state.
abbrev pub Performs : Stepped → State → Result (Unit {0}) MachineEnd → State → Type 0
Performs (Leads next) old answer new = (answer ≡ Ok tt) × (new ≡ next)
Performs (Ends end) old answer new = (answer ≡ Err end) × (new ≡ old)

-- an access to so many bytes at the pointer's address, which has to be a multiple of the unit
abbrev pub touching : ℕ → ℕ → ℕ → Bool → Bool → Access
touching pointer unit bytes writes checked = record {
  pointer = pointer;
  unit = unit;
  start = address_of pointer;
  bytes = bytes;
  writes = writes;
  checked = checked;
}

-- how what a memory answers to a call ends the run, where the pointer's address is this
abbrev pub end_of_answer : Answer → ℕ → Option MachineEnd
end_of_answer Done at = None
end_of_answer Unmapped at = Some (MemoryFault at)
end_of_answer Guard at = Some StackFault
end_of_answer Protected at = Some (MemoryFault at)

-- how the tags of an access end the run, where it is checked and all else about it is in order
abbrev pub end_of_tags : Bool → State → ℕ → ℕ → Option MachineEnd
end_of_tags checked s pointer bytes = if checked then tag_end s pointer (address_of pointer) bytes else None

-- one granule, or two
abbrev pub granules : Bool → ℕ
granules two = if two then 2 else 1
