-- What an instruction leaves as it was: all that is not within its reach (this project's own).
use Rattle.std.specs.Prelude.{◌≡◌, ℕ, ◌+◌, ◌%◌, ◌^◌, true, false}
use Rattle.mt_base.specs.Granules.{granule_of}
use Rattle.mt_base.specs.Memory.{is_protected}
use Rattle.a64_code.specs.State.{State}
use Rattle.a64_code.specs.Stepped.{Stepped, Leads, Ends}
use Rattle.a64_code.specs.Laws.Reach.{Reach}

-- all but PC that is not within reach is the same in both states
pub record Keeps (r : Reach) (s t : State) : Type 0 where
  pub registers : (n : ℕ) → r.registers n ≡ false → t.register n ≡ s.register n
  pub sp : r.sp ≡ false → t.sp ≡ s.sp
  pub flags : r.flags ≡ false → t.flags ≡ s.flags
  pub bytes : (at : ℕ) → r.bytes at ≡ false → t.byte at ≡ s.byte at
  pub tags : (granule : ℕ) → r.tags granule ≡ false → t.tag granule ≡ s.tag granule
  pub regions : t.regions ≡ s.regions
  pub guard : t.guard ≡ s.guard
  pub choices : t.choices ≡ s.choices
  pub drawn : r.draws ≡ false → t.drawn ≡ s.drawn
  pub outside : r.asks ≡ false → t.outside ≡ s.outside

-- no byte of a region that is not writable is within reach, and no tag of a granule with such a byte
pub record SparesProtected (r : Reach) (s : State) : Type 0 where
  pub bytes : (at : ℕ) → is_protected s.regions at ≡ true → r.bytes at ≡ false
  pub tags : (at : ℕ) → is_protected s.regions at ≡ true → r.tags (granule_of at) ≡ false

-- Where the reach is that of an instruction: it goes on to the next one unless it is a branch, and reaches nothing that is
-- not writable.
pub record Leaves (r : Reach) (s t : State) : Type 0 where
  pub keeps : Keeps r s t
  pub pc : r.branches ≡ false → t.pc ≡ (s.pc + 4) % 2 ^ 64
  pub protected : SparesProtected r s

-- it holds of the state that an instruction or a step leads to, where it leads to one
abbrev pub OnLeads : Stepped → (State → Type 0) → Type 0
OnLeads (Leads t) P = P t
OnLeads (Ends end) P = Unit {0}
