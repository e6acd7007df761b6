-- Symbolic code where it stands: what each item does there, in however many instructions (this project's own). What is said of code is
-- said of each way in which it may stand.
use Rattle.std.specs.Prelude.{◌≡◌, ◌≢◌, ℕ, suc, ◌+◌, ◌*◌, ◌/◌, ◌^◌, ◌<◌, ◌≤◌, List, [], slice_get, Option, Some, None}
use Rattle.a64_code.specs.declared.instr.Instr.{Instr}
use Rattle.a64_code.specs.declared.instr.Reg.{Reg}
use Rattle.a64_code.specs.State.{State, general, at_pc}
use Rattle.a64_code.specs.Step.{fetched}
use Rattle.a64_laws.specs.Laws.Effects.InRange.{IsInRange}
use Rattle.block_meaning.specs.declared.value.Pointer.{Pointer}
use Rattle.block_meaning.specs.declared.value.Value.{Value}
use Rattle.block_meaning.specs.Blocks.{pointer}
use Rattle.block_meaning.specs.Expressions.{Site, call_effect}
use Rattle.block_meaning.specs.Linkage.{object_block, text_block, extern_block, extern_at, function_of, function_named}
use Rattle.block_meaning.specs.Meaning.{calls_at}
use Rattle.block_meaning.specs.Running.{Function, Context, unit_then, State as MeaningState}
use Rattle.c_type_base.specs.declared.ty.Ty.{Ty}
use Rattle.c_type_base.specs.declared.typed.ExternInfo.{ExternInfo}
use Rattle.c_type_base.specs.declared.expr.Callee.{Callee}
use Rattle.c_type_base.specs.declared.expr.Callee.TheVariants as callee
use Rattle.code_runs.specs.Within.{StepsWithin}
use Rattle.frame_layout.specs.declared.frame.Frame.{Frame}
use Rattle.frame_layout.specs.declared.frame.Slot.{Slot}
use Rattle.frame_layout.specs.WellFormed.{tagged_slots}
use Rattle.sym_code.specs.declared.item.SymItem.{SymItem}
use Rattle.sym_code.specs.declared.item.SymItem.TheVariants as item
use Rattle.tag_plan.specs.Effects.{IsFrame, TagsSlots, LeavesSlots, Puts, granules}
use Rattle.tag_plan.specs.Lists.{listed, between}
use Rattle.code_relation.specs.Calls.{frame_of}
use Rattle.code_relation.specs.Follows.{Code, Follows, IsIn, Called, call_item, types_of}
use Rattle.code_relation.specs.Injects.{Injects}
use Rattle.code_relation.specs.Numbers.{IsNumber}
use Rattle.code_relation.specs.Sites.{Given, units_of}
use Rattle.code_relation.specs.Tags.{IsAsLoaded}

-- where the items of a list stand
pub record Place : Type 0 where
  -- the address of the one at a position; that of the position behind the last is where the code goes on
  pub at : ℕ → ℕ
  -- the address of a label
  pub label : ℕ → ℕ
  -- how many steps the one at a position takes that enters or leaves a scope
  pub scope_steps : ℕ → State → ℕ

-- where one item stands, and the one behind it, and how many steps it takes where it enters or leaves a scope
pub record Spot : Type 0 where
  pub from : ℕ
  pub to : ℕ
  pub label : ℕ → ℕ
  pub steps : State → ℕ

abbrev pub spot_at : Place → ℕ → Spot
spot_at p k = record { from = p.at k; to = p.at (suc k); label = p.label; steps = p.scope_steps k }

-- PC is at an address, and the code is as it was loaded
pub record IsAt (c : Code) (at : ℕ) (s : State) : Type 0 where
  pub pc : s.pc ≡ at
  pub as_loaded : IsAsLoaded c.given s
  pub in_range : IsInRange s

-- ---- instructions and jumps

-- an instruction stands there, at an address of 56 bits, and its effect is the next step
pub record HasInstr (c : Code) (at : ℕ) (instr : Instr) : Type 0 where
  pub below : at < 2 ^ 56
  pub inside : (s : State) → IsAt c at s → c.Inside s
  pub is : (s : State) → IsAt c at s → fetched s ≡ Some instr

-- one step or two lead to an address, and change nothing else
pub record GoesTo (c : Code) (to : ℕ) (s : State) : Type 0 where
  pub steps : ℕ
  pub least : 1 ≤ steps
  pub most : steps ≤ 2
  pub led : StepsWithin c.Inside steps s (at_pc to s)

-- a jump that is taken where a register is zero, to an address, and else goes on to another
pub record JumpsOnZero (c : Code) (from taken passed : ℕ) (r : Reg) : Type 0 where
  pub on_zero : (s : State) → IsAt c from s → general s r ≡ 0 → GoesTo c taken s
  pub on_other : (s : State) → IsAt c from s → general s r ≢ 0 → GoesTo c passed s

-- ---- addresses

-- one to three steps put the number of a pointer into a register, and change nothing else
pub record PutsPointer (c : Code) (to : ℕ) (r : Reg) (p : Pointer) (now : MeaningState) (s : State) : Type 0 where
  pub steps : ℕ
  pub least : 1 ≤ steps
  pub most : steps ≤ 3
  pub state : State
  pub led : StepsWithin c.Inside steps s state
  pub pc : state.pc ≡ to
  pub number : ℕ
  pub number_is : IsNumber c.given now p number
  pub puts : Puts r number s state

-- in a function, from each pair of states that are related, of a block that may hang on the context
pub record PutsAddress (c : Code) (f : Function) (from to : ℕ) (r : Reg) (block : Context → Option ℕ) : Type 0 where
  pub puts : (here : Context) (now : MeaningState) (s : State) (number : ℕ) → Injects c.given here now s → IsIn f here → s.pc ≡ from →
      block here ≡ Some number → PutsPointer c to r (pointer number 0) now s

-- ---- scopes

-- so many steps lead to a state of which something holds
pub record TakesSteps (c : Code) (to steps : ℕ) (leaves : State → State → Type 0) (s : State) : Type 0 where
  pub state : State
  pub led : StepsWithin c.Inside steps s state
  pub pc : state.pc ≡ to
  pub left : leaves s state

-- the steps that the entry of some slots takes at most, and the leaving
abbrev pub most_to_enter : List Slot → ℕ
most_to_enter ss = 4 * granules ss + 24

abbrev pub most_to_leave : List Slot → ℕ
most_to_leave ss = 3 * granules ss / 4 + 24

-- in a frame of so many bytes at SP, at most so many steps do this, and the spot tells how many
pub record ChangesScope (c : Code) (spot : Spot) (bytes most : ℕ) (leaves : State → State → Type 0) : Type 0 where
  pub few : (s : State) → spot.steps s ≤ most
  pub takes : (s : State) → IsAt c spot.from s → IsFrame bytes s → TakesSteps c spot.to (spot.steps s) leaves s

-- ---- calls

-- the types of the parameters of what a function's code calls
abbrev pub types_of_extern : Option ExternInfo → List Ty
types_of_extern None = []
types_of_extern (Some e) = e.params

abbrev pub parameters_of : Given → Function → Callee → List Ty
parameters_of g f (callee.Function n) = types_of (function_named (units_of g) (function_of f.unit n))
parameters_of g f (callee.Extern n) = types_of_extern (extern_at (units_of g) f.unit n)
parameters_of g f _ = []

-- the unit of a call, and then what it means, whatever stands round it
abbrev pub call_from : Given → Function → Callee → Site → List Value → Called
call_from g f to_call around vs = record {
  run = λ here. unit_then (call_effect (record around { here = here }) to_call vs);
  parameters = parameters_of g f to_call;
  arguments = vs;
}

-- from each pair of states that are related, with any arguments
pub record Calls (c : Code) (f : Function) (from to : ℕ) (to_call : Callee) : Type 0 where
  pub follows : (bound : ℕ) (around : Site) (vs : List Value) → around.calls ≡ calls_at bound →
      Follows c (call_item c.given (call_from c.given f to_call around vs) (record { function = f; from = from; to = to }))

-- ---- all items

abbrev pub Acts : Code → Function → Spot → SymItem → Type 0
Acts c f spot (item.Plain instr) = HasInstr c spot.from instr × (spot.to ≡ spot.from + 4)
Acts c f spot (item.Label n) = (spot.label n ≡ spot.from) × (spot.to ≡ spot.from)
Acts c f spot (item.Jump n) = (s : State) → IsAt c spot.from s → GoesTo c (spot.label n) s
Acts c f spot (item.JumpIfZero r n) = JumpsOnZero c spot.from (spot.label n) spot.to r
Acts c f spot (item.JumpIfNotZero r n) = JumpsOnZero c spot.from spot.to (spot.label n) r
Acts c f spot (item.SlotAddress n r) = PutsAddress c f spot.from spot.to r (λ here. here.local n)
Acts c f spot (item.GlobalAddress n r) =
    PutsAddress c f spot.from spot.to r (λ here. Some (object_block (units_of c.given) f.unit n))
Acts c f spot (item.ExternAddress n r) = PutsAddress c f spot.from spot.to r (λ here. extern_block (units_of c.given) f.unit n)
Acts c f spot (item.TextAddress n r) = PutsAddress c f spot.from spot.to r (λ here. Some (text_block (units_of c.given) f.unit n))
Acts c f spot (item.CallFunction n) = Calls c f spot.from spot.to (callee.Function n)
Acts c f spot (item.CallExtern n) = Calls c f spot.from spot.to (callee.Extern n)
-- the function ends here, and what comes then is no part of the code of a tree
Acts c f spot item.Leave = Unit {0}
Acts c f spot (item.EnterScope slots) =
    let frame : Frame = frame_of (units_of c.given) f in
    ChangesScope c spot frame.bytes (most_to_enter (listed frame.slots slots.0)) (TagsSlots (listed frame.slots slots.0))
Acts c f spot (item.LeaveScope first last) =
    let frame : Frame = frame_of (units_of c.given) f in
    ChangesScope c spot frame.bytes (most_to_leave (tagged_slots (between frame.slots first last)))
    (LeavesSlots (tagged_slots (between frame.slots first last)))

-- the items of a function's code stand there
pub record StandsAt (c : Code) (f : Function) (p : Place) (items : List SymItem) : Type 0 where
  pub acts : (k : ℕ) (i : SymItem) → slice_get items k ≡ Some i → Acts c f (spot_at p k) i
