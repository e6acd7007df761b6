-- What a list of instructions may touch, by a test of the list. It tells stores of numbers and of tags at SP, and refuses all others (this
-- project's own).
use Rattle.std.specs.Prelude.{ℕ, ◌+◌, ◌*◌, ◌/◌, Bool, true, not, ◌&&◌, ◌||◌, nat_lt, nat_le, if◌then◌else◌, List, [], ◌∷◌}
use Rattle.mt_base.specs.Granules.{granule_of}
use Rattle.mt_base.specs.Memory.{is_between}
use Rattle.a64_code.specs.declared.instr.Instr.{Instr}
use Rattle.a64_code.specs.declared.instr.Instr.TheVariants.{Stg, St2g, Stzg, Stz2g}
use Rattle.a64_code.specs.State.{State}
use Rattle.a64_code.specs.Services.{service_register}
use Rattle.a64_code.specs.Shape.{Result, Shape, GoesOn, Puts, PutsWithFlags, PutsAndDraws, Branches, BranchesWithLink, Loads, LoadsPair}
use Rattle.a64_code.specs.Shape.{Stores, StoresPair, StoresTags, Clears, Serves, link_register}
use Rattle.a64_code.specs.Effect.{shape}
use Rattle.a64_code.specs.Laws.Reach.{Reach}

pub record Touch : Type 0 where
  -- X0 to X30 by number, SP and the flags
  pub registers : ℕ → Bool
  pub sp : Bool
  pub flags : Bool
  -- where SP is not touched, so many bytes from it on, and whether the tags of their granules, too
  pub frame : ℕ
  pub tags : Bool
  -- whether a choice may be drawn, and something asked of the outside
  pub draws : Bool
  pub asks : Bool

-- ---- the test

abbrev pub result_within : Touch → Result → Bool
result_within touch r = if nat_lt r.register.0 31 then touch.registers r.register.0 else if r.takes_sp then touch.sp else true

-- a store at so many bytes behind SP
abbrev pub store_within : Touch → ℕ → ℕ → Bool → Bool
store_within touch count offset checked = (not checked && not touch.sp) && nat_le (offset + count) touch.frame

-- a store of the tags of so many granules
abbrev pub tags_within : Touch → ℕ → ℕ → Bool
tags_within touch count offset = (touch.tags && not touch.sp) && nat_le (offset + 16 * count) touch.frame

-- what an instruction of a shape touches, where SP is 0
abbrev pub shape_within : Touch → Shape → Bool
shape_within touch GoesOn = true
shape_within touch (Puts r) = result_within touch r
shape_within touch (PutsWithFlags flags r) = touch.flags && result_within touch r
shape_within touch (PutsAndDraws r) = touch.draws && result_within touch r
shape_within touch (Branches taken address) = true
shape_within touch (BranchesWithLink address) = touch.registers link_register.0
shape_within touch (Loads access r) = result_within touch r
shape_within touch (LoadsPair access first second) = result_within touch first && result_within touch second
shape_within touch (Stores count pointer checked value) = store_within touch count pointer checked
shape_within touch (StoresPair pointer checked first second) = store_within touch 16 pointer checked
shape_within touch (StoresTags count pointer tag) = tags_within touch count pointer
shape_within touch (Clears count pointer tag) = tags_within touch count pointer
shape_within touch (Serves number) = touch.asks && touch.registers service_register.0

-- a store of tags has SP for its base; of other stores the shape tells it
abbrev pub tags_at_sp : Instr → Bool
tags_at_sp (Stg simm9 rn rt) = not (nat_lt rn.0 31)
tags_at_sp (St2g simm9 rn rt) = not (nat_lt rn.0 31)
tags_at_sp (Stzg simm9 rn rt) = not (nat_lt rn.0 31)
tags_at_sp (Stz2g simm9 rn rt) = not (nat_lt rn.0 31)
tags_at_sp _ = true

abbrev pub instr_within : Touch → Instr → State → Bool
instr_within touch instr s = tags_at_sp instr && shape_within touch (shape instr (record s { sp = 0 }))

-- of each instruction; the answer is the same in every state
abbrev pub touches_only : Touch → List Instr → State → Bool
touches_only touch [] s = true
touches_only touch (instr ∷ instrs) s = instr_within touch instr s && touches_only touch instrs s

-- ---- what it tells

-- what may change, where SP is this; numbers from 31 on name no register
abbrev pub reach_from : Touch → ℕ → Reach
reach_from touch sp = record {
  registers = λ n. touch.registers n || not (nat_lt n 31);
  sp = touch.sp;
  flags = touch.flags;
  bytes = λ a. not touch.sp && is_between sp touch.frame a;
  tags = λ g. (touch.tags && not touch.sp) && is_between (granule_of sp) ((touch.frame + 15) / 16) g;
  draws = touch.draws;
  asks = touch.asks;
  branches = true;
}
