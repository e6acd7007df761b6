-- The shapes of what an instruction does, once it has read its registers. Each is an access to memory that may end the run,
-- what changes in the state, and the instruction that comes next (this project's own).
use Rattle.std.specs.Prelude.{ℕ, ◌+◌, ◌*◌, Bool, true, if◌then◌else◌}
use Rattle.mt_base.specs.Wrapping.{wrapping_add}
use Rattle.mt_base.specs.Memory.{store}
use Rattle.mt_base.specs.Pointers.{address_of}
use Rattle.a64_alu.specs.declared.flags.Flags.{Flags}
use Rattle.a64_code.specs.declared.instr.Reg.{Reg}
use Rattle.a64_code.specs.State.{State, with_general, with_operand, with_flags, with_bytes, with_tags, tagged, with_choice_drawn, at_pc}
use Rattle.a64_code.specs.State.{advanced}
use Rattle.a64_code.specs.Stepped.{Stepped, Leads, unless}
use Rattle.a64_code.specs.Access.{Access, single, pair, tag_store, access_end}
use Rattle.a64_code.specs.Services.{service}

-- a number for a register, in a field that takes the number 31 for the stack pointer or in one that does not
pub record Result : Type 0 where
  pub takes_sp : Bool
  pub register : Reg
  pub value : ℕ

abbrev pub with_result : Result → State → State
with_result r s = with_operand r.takes_sp r.register r.value s

pub data Shape : Type 0 where
  -- nothing changes, and the next instruction follows
  GoesOn : Shape
  -- a result goes into its register; or the flags are set as well; or a choice is drawn
  Puts : Result → Shape
  PutsWithFlags : Flags → Result → Shape
  PutsAndDraws : Result → Shape
  -- the instruction at an address follows where the branch is taken; or it follows, and X30 has the address behind this one
  Branches : Bool → ℕ → Shape
  BranchesWithLink : ℕ → Shape
  -- an access is made, and a result goes into its register, or two do, one after the other
  Loads : Access → Result → Shape
  LoadsPair : Access → Result → Result → Shape
  -- by bytes, pointer and whether its tag is judged: a number is stored, or two of 8 bytes
  Stores : ℕ → ℕ → Bool → ℕ → Shape
  StoresPair : ℕ → Bool → ℕ → ℕ → Shape
  -- so many granules from a pointer on get a tag; or zeros for bytes, too
  StoresTags : ℕ → ℕ → ℕ → Shape
  Clears : ℕ → ℕ → ℕ → Shape
  -- a service is asked for
  Serves : ℕ → Shape

-- the register X30, in which BL leaves the address to return to
abbrev pub link_register : Reg
link_register = record { 0 = 30 }

-- what an instruction of a shape does
abbrev pub done : Shape → State → Stepped
done GoesOn s = Leads (advanced s)
done (Puts r) s = Leads (advanced (with_result r s))
done (PutsWithFlags flags r) s = Leads (advanced (with_result r (with_flags flags s)))
done (PutsAndDraws r) s = Leads (advanced (with_result r (with_choice_drawn s)))
done (Branches taken address) s = if taken then Leads (at_pc address s) else Leads (advanced s)
done (BranchesWithLink address) s = Leads (at_pc address (with_general link_register (wrapping_add 64 s.pc 4) s))
done (Loads access r) s = unless (access_end s access) (advanced (with_result r s))
done (LoadsPair access first second) s = unless (access_end s access) (advanced (with_result second (with_result first s)))
done (Stores bytes pointer checked value) s =
    unless (access_end s (single bytes pointer true checked)) (advanced (with_bytes (store bytes s.byte (address_of pointer) value) s))
done (StoresPair pointer checked first second) s =
    unless (access_end s (pair pointer true checked))
    (advanced (with_bytes (store 8 (store 8 s.byte (address_of pointer) first) (address_of pointer + 8) second) s))
done (StoresTags granules pointer tag) s =
    unless (access_end s (tag_store granules pointer)) (advanced (with_tags (tagged granules s.tag (address_of pointer) tag) s))
done (Clears granules pointer tag) s =
    unless (access_end s (tag_store granules pointer))
    (advanced
    (with_bytes (store (16 * granules) s.byte (address_of pointer) 0) (with_tags (tagged granules s.tag (address_of pointer) tag) s)))
done (Serves number) s = service number s
