-- The steps of the entry and of the exit of a function without tagged slots (this project's own).
use Rattle.std.specs.Prelude.{◌≡◌, ℕ, ◌+◌, ◌-◌, ◌*◌, ◌/◌, ◌%◌, ◌^◌, ◌<◌, ◌≤◌, Bool, true, false, ◌||◌, List, [], ◌∷◌, ◌++◌}
use Rattle.std.specs.Prelude.{length, refl}
use Rattle.std.specs.List.{list_any}
use Rattle.std.proofs.Common.{arith, ap, subst, ◌∙◌, inl, inr, length-append}
use Rattle.std.proofs.lemmas.Bool.{cases_lt, lt-ltb, le-ltb}
use Rattle.mt_base.specs.Memory.{store, bytes_of}
use Rattle.mt_base.specs.Laws.Memory.{store_bytes_below, store_bytes_above, length-bytes_of}
use Rattle.a64_code.specs.declared.instr.Instr.{Instr}
use Rattle.a64_code.specs.declared.instr.Instr.TheVariants.{Stp, Ldp, Ret}
use Rattle.a64_code.specs.State.{State}
use Rattle.a64_laws.specs.Forms.{stack_pointer, puts_sp, puts_bytes}
use Rattle.a64_laws.specs.Frames.{frame_pointer, link_register, HasPair}
use Rattle.a64_laws.specs.Laws.Effects.Open.{IsOpen}
use Rattle.a64_laws.specs.Laws.Frames.{HasPair-stored}
use Rattle.a64_laws.specs.Laws.OpenMemory.{IsOpen-kept}
use Rattle.a64_laws.specs.Laws.Pairs.{pair_stored}
use Rattle.a64_laws.specs.Laws.Results.{sp_lowered, sp_raised}
use Rattle.a64_laws.specs.Laws.Runs.{Runs-one, Runs-two}
use Rattle.a64_laws.specs.Runs.{Runs}
use Rattle.code_runs.specs.Within.{StepsWithin}
use Rattle.code_runs.specs.Laws.Within.{StepsWithin-add}
use Rattle.code_relation.specs.Follows.{Code}
use Rattle.code_relation.specs.Items.{IsAt, HasInstr}
use Rattle.frame_layout.specs.declared.frame.Frame.{Frame}
use Rattle.frame_layout.specs.declared.frame.Slot.{Slot}
use Rattle.frame_layout.specs.WellFormed.{is_tagged_slot, tagged_slots}
use Rattle.gen_unit.specs.Functions.{lower, entry, exit}
use Rattle.tag_plan.specs.Lists.{offset_from}
use Rattle.unit_follows.specs.Laws.Entering.{IsEntered}
use Rattle.unit_follows.specs.Laws.Jumps.{StepsWithin-instr}
use Rattle.unit_follows.specs.Laws.Standing.{Standing, Standing-as, Standing-front, Standing-back, HasInstr-first, Comes, Comes-Runs}
use Rattle.unit_follows.specs.Laws.Standing.{AreQuiet}

-- all but PC, SP and flags is the same
pub record SameButSp (s t : State) : Type 0 where
  pub register : t.register ≡ s.register
  pub byte : t.byte ≡ s.byte
  pub tag : t.tag ≡ s.tag
  pub regions : t.regions ≡ s.regions
  pub guard : t.guard ≡ s.guard
  pub choices : t.choices ≡ s.choices
  pub drawn : t.drawn ≡ s.drawn
  pub outside : t.outside ≡ s.outside

-- ---- SP down

pub record Lowered (bytes : ℕ) (s : State) : Type 0 where
  pub to : State
  pub steps : ℕ
  pub few : steps ≤ 2
  pub some : 1 ≤ steps
  pub runs : Runs (lower bytes) steps s to
  pub sp : to.sp + bytes ≡ s.sp
  pub same : SameButSp s to

pub lowered : (bytes : ℕ) (s : State) → bytes ≤ s.sp → bytes < 2 ^ 24 → s.sp < 2 ^ 56 → s.pc + 8 < 2 ^ 64 → Lowered bytes s
unfolding puts_sp
lowered bytes s within small below fits = elim (cases_lt bytes 4096) [
  | inl few ↦ record {
    to = puts_sp (s.sp - bytes) s;
    steps = 1;
    few = omega arith;
    some = omega arith;
    runs =
        rw (lt-ltb bytes 4096 few) (Runs-one (sp_lowered 0 bytes bytes s (omega arith) within (omega (arith, below)) (omega (arith, small)))
        refl (omega (arith, fits)));
    sp = omega (arith, within);
    same = record { register = refl; byte = refl; tag = refl; regions = refl; guard = refl; choices = refl; drawn = refl; outside = refl };
  }
  | inr many ↦ record {
    to = puts_sp (s.sp - bytes / 4096 * 4096 - bytes % 4096) (puts_sp (s.sp - bytes / 4096 * 4096) s);
    steps = 2;
    few = omega arith;
    some = omega arith;
    runs = rw (le-ltb bytes 4096 many) (Runs-two
        (sp_lowered 1 (bytes / 4096) (bytes / 4096 * 4096) s (omega arith) (omega (arith, within)) (omega (arith, below)) (omega
        (arith, small)))
        refl
        (sp_lowered 0 (bytes % 4096) (bytes % 4096) (puts_sp (s.sp - bytes / 4096 * 4096) s) (omega arith) (omega (arith, within))
        (omega (arith, below)) (omega (arith, small))) refl fits);
    sp = omega (arith, within);
    same = record { register = refl; byte = refl; tag = refl; regions = refl; guard = refl; choices = refl; drawn = refl; outside = refl };
  }
]

lower_quiet : (bytes : ℕ) → AreQuiet (lower bytes)
lower_quiet bytes = elim (cases_lt bytes 4096) [
  | inl few ↦ rw (lt-ltb bytes 4096 few) (λ u a. refl, tt)
  | inr many ↦ rw (le-ltb bytes 4096 many) (λ u a. refl, (λ u a. refl, tt))
]

-- ---- SP up

pub record Raised (bytes : ℕ) (s : State) : Type 0 where
  pub to : State
  pub steps : ℕ
  pub few : steps ≤ 2
  pub some : 1 ≤ steps
  pub runs : Runs (offset_from stack_pointer bytes stack_pointer) steps s to
  pub sp : to.sp ≡ s.sp + bytes
  pub same : SameButSp s to

pub raised : (bytes : ℕ) (s : State) → bytes < 2 ^ 24 → s.sp + bytes < 2 ^ 56 → s.pc + 8 < 2 ^ 64 → Raised bytes s
unfolding puts_sp
raised bytes s small below fits = elim (cases_lt bytes 4096) [
  | inl few ↦ record {
    to = puts_sp (s.sp + bytes) s;
    steps = 1;
    few = omega arith;
    some = omega arith;
    runs =
        rw (lt-ltb bytes 4096 few) (Runs-one (sp_raised 0 bytes bytes s (omega arith) (omega (arith, below))) refl (omega (arith, fits)));
    sp = refl;
    same = record { register = refl; byte = refl; tag = refl; regions = refl; guard = refl; choices = refl; drawn = refl; outside = refl };
  }
  | inr many ↦ record {
    to = puts_sp (s.sp + bytes / 4096 * 4096 + bytes % 4096) (puts_sp (s.sp + bytes / 4096 * 4096) s);
    steps = 2;
    few = omega arith;
    some = omega arith;
    runs = rw (le-ltb bytes 4096 many) (Runs-two
        (sp_raised 1 (bytes / 4096) (bytes / 4096 * 4096) s (omega arith) (omega (arith, below))) refl
        (sp_raised 0 (bytes % 4096) (bytes % 4096) (puts_sp (s.sp + bytes / 4096 * 4096) s) (omega arith) (omega
        (arith, below))) refl fits);
    sp = omega arith;
    same = record { register = refl; byte = refl; tag = refl; regions = refl; guard = refl; choices = refl; drawn = refl; outside = refl };
  }
]

pub raise_quiet : (bytes : ℕ) → AreQuiet (offset_from stack_pointer bytes stack_pointer)
raise_quiet bytes = elim (cases_lt bytes 4096) [
  | inl few ↦ rw (lt-ltb bytes 4096 few) (λ u a. refl, tt)
  | inr many ↦ rw (le-ltb bytes 4096 many) (λ u a. refl, (λ u a. refl, tt))
]

-- ---- no tagged slot

pub none_tagged : (ss : List Slot) → list_any is_tagged_slot ss ≡ false → tagged_slots ss ≡ []
none_tagged [] none = refl
none_tagged (s ∷ ss) none = by_first (is_tagged_slot s) refl none (none_tagged ss)
  where
    by_first : (b : Bool) → is_tagged_slot s ≡ b → (b || list_any is_tagged_slot ss) ≡ false →
        (list_any is_tagged_slot ss ≡ false → tagged_slots ss ≡ []) → tagged_slots (s ∷ ss) ≡ []
    by_first true is none rest = absurd (cc)
    by_first false is none rest = rw is (rest none)

pub entry-safe : (f : Frame) → list_any is_tagged_slot f.slots ≡ false →
    entry f ≡ lower f.bytes ++ Stp 0 link_register stack_pointer frame_pointer ∷ []
entry-safe f none = rw (none_tagged f.slots none) refl

pub exit-safe : (f : Frame) → list_any is_tagged_slot f.slots ≡ false →
    exit f ≡ (Ldp 0 link_register stack_pointer frame_pointer ∷ offset_from stack_pointer f.bytes stack_pointer) ++ Ret ∷ []
exit-safe f none = rw (none_tagged f.slots none) refl

-- ---- the entry

pub record EntryDone (c : Code) (at : ℕ) (f : Frame) (s : State) : Type 0 where
  pub to : State
  pub steps : ℕ
  pub least : 2 ≤ steps
  pub most : steps ≤ 3
  pub led : StepsWithin c.Inside steps s to
  pub pc : to.pc ≡ at + 4 * length (entry f)
  pub entered : IsEntered f.bytes s to
  pub pair : HasPair to.byte to.sp (s.register 29) (s.register 30)
  pub register : to.register ≡ s.register
  pub outside : to.outside ≡ s.outside

-- a frame fits below SP
pub record HasSpace (f : Frame) (s : State) : Type 0 where
  pub safe : list_any is_tagged_slot f.slots ≡ false
  pub within : f.bytes ≤ s.sp
  pub small : f.bytes < 2 ^ 24
  pub some : 16 ≤ f.bytes
  pub below : s.sp < 2 ^ 56
  pub sp_whole : s.sp % 16 ≡ 0
  pub whole : f.bytes % 16 ≡ 0

-- where STP is about to store the pair
pub record AtPair (c : Code) (at : ℕ) (f : Frame) (s : State) : Type 0 where
  pub low : Lowered f.bytes s
  pub comes : Comes c (at + 4 * length (lower f.bytes)) low.steps s low.to
  pub has : HasInstr c (at + 4 * length (lower f.bytes)) (Stp 0 link_register stack_pointer frame_pointer)

pub at_pair : {c : Code} {at : ℕ} {s : State} (f : Frame) → Standing c at (entry f) → IsAt c at s → HasSpace f s → AtPair c at f s
at_pair {c} {at} {s} f enters is_at space = record {
  low = low;
  comes = Comes-Runs (Standing-front (lower f.bytes) pair stands) (lower_quiet f.bytes) is_at low.runs;
  has = HasInstr-first (Standing-back (lower f.bytes) pair stands);
}
  where
    pair : List Instr
    pair = Stp 0 link_register stack_pointer frame_pointer ∷ []

    stands : Standing c at (lower f.bytes ++ pair)
    stands = Standing-as (entry-safe f space.safe) enters

    low : Lowered f.bytes s
    low = lowered f.bytes s space.within space.small space.below
        (omega (arith, is_at.pc, stands.below, length-append (lower f.bytes) pair))

-- the pair is there, in the frame that was made
record StoredPair (bytes at first second : ℕ) (s u : State) : Type 0 where
  entered : IsEntered bytes s (puts_bytes (store 8 (store 8 u.byte at first) (at + 8) second) u)
  pair : let t = puts_bytes (store 8 (store 8 u.byte at first) (at + 8) second) u in HasPair t.byte t.sp first second
  register : (puts_bytes (store 8 (store 8 u.byte at first) (at + 8) second) u).register ≡ s.register
  outside : (puts_bytes (store 8 (store 8 u.byte at first) (at + 8) second) u).outside ≡ s.outside

stored_pair : {s u : State} (bytes at first second : ℕ) → u.sp + bytes ≡ s.sp → 16 ≤ bytes → at ≡ u.sp → SameButSp s u →
    first < 2 ^ 64 → second < 2 ^ 64 → StoredPair bytes at first second s u
unfolding puts_bytes
stored_pair {s} {u} bytes at first second sp some at_is same fits fits_too = record {
  entered = record {
    sp = sp;
    byte = record {
      below = λ a less. store_bytes_below (store 8 u.byte at first) (at + 8) (bytes_of 8 second) a (omega (arith, less, at_is))
          ∙ store_bytes_below u.byte at (bytes_of 8 first) a (omega (arith, less, at_is)) ∙ ap (λ byte. byte a) same.byte;
      above = λ a more.
          store_bytes_above (store 8 u.byte at first) (at + 8) (bytes_of 8 second) a
          (omega (arith, more, at_is, sp, some, length-bytes_of 8 second))
          ∙ store_bytes_above u.byte at (bytes_of 8 first) a (omega (arith, more, at_is, sp, some, length-bytes_of 8 first))
          ∙ ap (λ byte. byte a) same.byte;
    };
    base = ap (λ register. register 28) same.register;
    tag = same.tag;
    regions = same.regions;
    guard = same.guard;
    choices = same.choices;
    drawn = same.drawn;
  };
  pair = subst (λ a. HasPair (store 8 (store 8 u.byte at first) (at + 8) second) a first second) at_is
      (HasPair-stored u.byte at first second fits fits_too);
  register = same.register;
  outside = same.outside;
}

pub entry_done : {c : Code} {at : ℕ} {s : State} (f : Frame) → Standing c at (entry f) → IsAt c at s → HasSpace f s →
    IsOpen s (s.sp - f.bytes) 16 → EntryDone c at f s
unfolding puts_bytes
entry_done {c} {at} {s} f enters is_at space memory = record {
  to = t;
  steps = a.low.steps + 1;
  least = omega (arith, a.low.some);
  most = omega (arith, a.low.few);
  led = StepsWithin-add a.comes.led (StepsWithin-instr (Stp 0 link_register stack_pointer frame_pointer) a.has a.comes.is_at
      (pair_stored 0 u.sp link_register frame_pointer u (omega arith) (omega arith) (omega (arith, a.low.sp, space.sp_whole, space.whole))
      (omega (arith, a.low.sp, space.below))
      (IsOpen-kept (record { regions = a.low.same.regions; guard = a.low.same.guard })
      (subst (λ x. IsOpen s x 16) (omega (arith, a.low.sp)) memory))));
  pc = pc_is t.pc (a.comes.is_at.pc) refl;
  entered = stored.entered;
  pair = subst (λ r. HasPair t.byte t.sp (r 29) (r 30)) a.low.same.register stored.pair;
  register = stored.register;
  outside = stored.outside;
}
  where
    a : AtPair c at f s
    a = at_pair f enters is_at space

    u : State
    u = a.low.to

    t : State
    t = puts_bytes (store 8 (store 8 u.byte u.sp (u.register 29)) (u.sp + 8) (u.register 30)) u

    stored : StoredPair f.bytes u.sp (u.register 29) (u.register 30) s u
    stored = stored_pair f.bytes u.sp (u.register 29) (u.register 30) a.low.sp space.some refl a.low.same
        (a.comes.is_at.in_range.registers 29) (a.comes.is_at.in_range.registers 30)

    pc_is : (pc : ℕ) → u.pc ≡ at + 4 * length (lower f.bytes) → pc ≡ (u.pc + 4) % 2 ^ 64 → pc ≡ at + 4 * length (entry f)
    pc_is pc there is = omega (
      arith,
      there,
      is,
      a.has.below,
      ap length (entry-safe f space.safe),
      length-append (lower f.bytes) (Stp 0 link_register stack_pointer frame_pointer ∷ []),
    )
