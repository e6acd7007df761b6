-- Where the machine stands when the meaning is over: its next step is that of the end (this project's own).
use Rattle.std.specs.Prelude.{◌≡◌, ℕ, ◌+◌, ◌*◌, ◌%◌, ◌^◌, ◌<◌, Bool, true, false}
use Rattle.std.specs.Prelude.{◌&&◌, nat_eq, List, [], ◌∷◌, map, slice_get, Option, Some, None}
use Rattle.std.specs.Prelude.{if◌then◌else◌}
use Rattle.mt_base.specs.Wrapping.{wrapping_add}
use Rattle.a64_code.specs.declared.instr.Instr.{Instr}
use Rattle.a64_code.specs.declared.instr.Reg.{Reg}
use Rattle.a64_code.specs.declared.end.MachineEnd.{MachineEnd}
use Rattle.a64_code.specs.declared.end.MachineEnd.TheVariants as machine
use Rattle.a64_code.specs.State.{State}
use Rattle.a64_code.specs.Step.{fetched, step}
use Rattle.a64_code.specs.Stepped.{Ends}
use Rattle.a64_laws.specs.Forms.{Load, load_size, load_instr, Store, store_size, store_instr}
use Rattle.frame_layout.specs.Neighbours.{Neighbour, tag_there}
use Rattle.block_meaning.specs.declared.access.Access.{Access}
use Rattle.block_meaning.specs.declared.kind.Kind.{Kind}
use Rattle.block_meaning.specs.declared.kind.Kind.TheVariants.{Local}
use Rattle.block_meaning.specs.declared.reason.Reason.{Reason}
use Rattle.block_meaning.specs.declared.reason.Reason.TheVariants.{Dead, Outside}
use Rattle.block_meaning.specs.Blocks.{Block}
use Rattle.block_meaning.specs.Running.{Call, Context, Stop, Divide, Deep, More, IsUndefined, Stuck, Undefined, State as MeaningState}
use Rattle.code_relation.specs.Calls.{frame_of}
use Rattle.code_relation.specs.Injects.{Injects}
use Rattle.code_relation.specs.Numbers.{IsNumber}
use Rattle.code_relation.specs.Sites.{Given, units_of, site_of, choice_of}

-- ---- the access of the next step

-- an instruction loads or stores so many bytes at a number, and its base is not SP
pub data AccessesAt (s : State) (size number : ℕ) : Instr → Type 0 where
  loads : (l : Load) (imm12 : ℕ) (rn rt : Reg) → rn.0 < 31 → load_size l ≡ size →
      wrapping_add 64 (s.register rn.0) (imm12 * load_size l) ≡ number →
      AccessesAt s size number (load_instr l imm12 rn rt)
  stores : (w : Store) (imm12 : ℕ) (rn rt : Reg) → rn.0 < 31 → store_size w ≡ size →
      wrapping_add 64 (s.register rn.0) (imm12 * store_size w) ≡ number → AccessesAt s size number (store_instr w imm12 rn rt)

-- the next step is such an access, at the number of a pointer
pub record NextAccesses (g : Given) (now : MeaningState) (a : Access) (s : State) : Type 0 where
  pub instr : Instr
  pub instr_is : fetched s ≡ Some instr
  pub number : ℕ
  pub number_is : IsNumber g now a.at number
  pub accesses : AccessesAt s a.size number instr

-- ---- a neighbour

-- the locals of a call that are live
abbrev pub local_of_call : ℕ → Kind → List ℕ → List ℕ
local_of_call call (Local c k) more = (if nat_eq c call then k ∷ more else more)
local_of_call call _ more = more

abbrev pub live_locals : ℕ → List Block → List ℕ
live_locals call [] = []
live_locals call (b ∷ bs) = (if b.live then local_of_call call b.kind (live_locals call bs) else live_locals call bs)

-- Where an access to a local leaves it for a neighbour, the next step ends with the fault that says so: the tag of the block's pointers,
-- the tag of memory there, and the block's start plus the offset, read as a signed number.
pub record IsCaught (g : Given) (now : MeaningState) (a : Access) (s : State) : Type 0 where
  pub fault : (b : Block) (call k : ℕ) (c : Call) → slice_get now.blocks a.at.block ≡ Some b → b.kind ≡ Local call k →
      slice_get now.calls call ≡ Some c →
      (n : Neighbour (frame_of (units_of g) c.function)
      (record { live = live_locals call now.blocks; number = k; offset = a.at.offset; size = a.size })) →
      step s ≡ Ends (machine.TagFault (((site_of g now a.at.block b).start + a.at.offset) % 2 ^ 64) (site_of g now a.at.block b).tag
      (tag_there (choice_of g now.calls c) n))

-- ---- undefined steps

abbrev pub is_dead_or_outside : Reason → Bool
is_dead_or_outside Dead = true
is_dead_or_outside Outside = true
is_dead_or_outside _ = false

abbrev pub is_outside : Reason → Bool
is_outside Outside = true
is_outside _ = false

-- a scalar access that is undefined because the block is dead, or because not all bytes are in it
pub record ReachesAccess (g : Given) (u : Undefined) (a : Access) (now : MeaningState) (s : State) : Type 0 where
  -- the state of the meaning at that access, with the calls that are open there
  pub here : Context
  pub open_is : here.open_calls ≡ u.open_calls
  pub injects : Injects g here now s
  pub next : NextAccesses g now a s
  pub caught : is_outside u.why ≡ true → IsCaught g now a s

-- of any other undefined step no more is said than the output
abbrev pub Reached : Given → Undefined → MeaningState → State → Option Access → Type 0
Reached g u now s None = Unit {0}
Reached g u now s (Some a) = (a.scalar && is_dead_or_outside u.why) ≡ true → ReachesAccess g u a now s

-- ---- ends

-- the next step ends the run, with the same input left
pub record EndsBy (s : State) (end : MachineEnd) (now : MeaningState) : Type 0 where
  pub ends : step s ≡ Ends end
  pub input : s.outside.answers ≡ map Some now.input

abbrev pub Over : Given → Stop → MeaningState → State → Type 0
Over g Divide now s = EndsBy s machine.Divide now
Over g Deep now s = EndsBy s machine.StackFault now
Over g (IsUndefined u) now s = Reached g u now s u.access
Over g More now s = ⊥
Over g Stuck now s = ⊥
