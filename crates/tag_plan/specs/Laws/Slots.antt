-- What the list of one slot does, and those of several (this project's own).
use Rattle.std.specs.Prelude.{◌≡◌, ◌≢◌, ℕ, zero, suc, ◌+◌, ◌*◌, ◌/◌, ◌%◌, ◌^◌, ◌<◌, ◌≤◌, nat_lt, nat_le, Bool, true, false, ◌&&◌}
use Rattle.std.specs.Prelude.{List, [], ◌∷◌, ◌++◌, length, flat_map, refl}
use Rattle.a64_code.specs.declared.instr.Instr.TheVariants.{Addg}
use Rattle.std.proofs.Common.{arith, ap, sym, ◌∙◌, subst, inl, inr, length-append, lit≤}
use Rattle.std.proofs.lemmas.Bool.Decides.{nat_tests}
use Rattle.std.proofs.lemmas.Bool.{cases_lt, lt-ltb, le-ltb}
use Rattle.mt_base.specs.Laws.Pointers.{tag_of-with_tag}
use Rattle.mt_base.specs.Laws.TagChoice.{next_tag-lt}
use Rattle.mt_base.specs.Pointers.{tag_of, with_tag, address_of}
use Rattle.mt_base.specs.Tags.{next_tag, zero_excluded}
use Rattle.a64_code.specs.declared.instr.Instr.{Instr}
use Rattle.a64_code.specs.declared.instr.Reg.{Reg}
use Rattle.a64_code.specs.State.{State, tagged, general_or_sp}
use Rattle.a64_laws.specs.Forms.{Points, puts_register, stack_pointer}
use Rattle.a64_laws.specs.Laws.Effects.Registers.{with_value-same, with_value-other}
use Rattle.a64_laws.specs.Laws.OpenMemory.{IsOpen-part, IsOpen-kept}
use Rattle.a64_laws.specs.Laws.Pointers.{Points-address}
use Rattle.a64_laws.specs.Laws.Results.{sp_plus, number_added}
use Rattle.a64_laws.specs.Laws.Runs.{Runs-one, Runs-two, Runs-cons, Runs-append, Runs-nil}
use Rattle.a64_laws.specs.Laws.TagLoop.{SameButTags-then}
use Rattle.a64_laws.specs.Laws.TagRounds.{CanTag, Tagged, TaggedWithin, tags_short, tags_shortly, tags_quickly}
use Rattle.a64_laws.specs.Laws.Tagging.{length-tags_from}
use Rattle.a64_laws.specs.Laws.Tags.{tag_stepped}
use Rattle.a64_laws.specs.Runs.{Runs}
use Rattle.a64_laws.specs.Tagging.{SameButTags, TagsGranules, tag_shortly, tag_quickly, base_or_count, tags_from}
use Rattle.frame_layout.specs.declared.frame.Slot.{Slot}
use Rattle.tag_plan.specs.Effects.{IsFrame, is_scratch, Does, with_slot, with_slots, granules, SameButScratch, TagsSlots, Clears}
use Rattle.tag_plan.specs.Lists.{tagged_base, place, count, source, offset_from, slot_list, clearing}

-- ---- SP and an offset, in a register

-- a register has SP and so many bytes, and nothing else is changed
pub record Placed (rd : Reg) (n : ℕ) (s t : State) : Type 0 where
  pub is : t.register rd.0 ≡ s.sp + n
  pub tags : t.tag ≡ s.tag
  pub registers : (r : ℕ) → r ≢ rd.0 → t.register r ≡ s.register r
  pub same : SameButTags s t

pub record Offset (n : ℕ) (rd : Reg) (s : State) : Type 0 where
  pub to : State
  pub steps : ℕ
  pub few : steps ≤ 2
  pub runs : Runs (offset_from stack_pointer n rd) steps s to
  pub placed : Placed rd n s to

pub length-offset : (rn : Reg) (n : ℕ) (rd : Reg) → length (offset_from rn n rd) ≤ 2
length-offset rn n rd = elim (cases_lt n 4096) [
  | inl few ↦ rw (lt-ltb n 4096 few) (omega arith)
  | inr many ↦ rw (le-ltb n 4096 many) (omega arith)
]

one_placed : (n : ℕ) (rd : Reg) (s : State) → Placed rd n s (puts_register rd (s.sp + n) s)
unfolding puts_register
one_placed n rd s = record {
  is = with_value-same s.register rd.0 (s.sp + n);
  tags = refl;
  registers = λ r other. with_value-other s.register rd.0 (s.sp + n) r other;
  same = record { sp = refl; flags = refl; byte = refl; regions = refl; guard = refl; choices = refl; drawn = refl; outside = refl };
}

two_placed : (high low n : ℕ) (rd : Reg) (s : State) → n ≡ high + low → s.sp + n < 2 ^ 64 →
    Placed rd n s (puts_register rd (((puts_register rd (s.sp + high) s).register rd.0 + low) % 2 ^ 64) (puts_register rd (s.sp + high) s))
unfolding puts_register
two_placed high low n rd s is fits = record {
  is = with_value-same u.register rd.0 value ∙ omega (arith, kept, is, fits);
  tags = refl;
  registers = λ r other. with_value-other u.register rd.0 value r other ∙ with_value-other s.register rd.0 (s.sp + high) r other;
  same = record { sp = refl; flags = refl; byte = refl; regions = refl; guard = refl; choices = refl; drawn = refl; outside = refl };
}
  where
    u : State
    u = puts_register rd (s.sp + high) s

    kept : u.register rd.0 ≡ s.sp + high
    kept = with_value-same s.register rd.0 (s.sp + high)

    value : ℕ
    value = (u.register rd.0 + low) % 2 ^ 64

pub offset_placed : (n : ℕ) (rd : Reg) (s : State) → rd.0 < 31 → n < 2 ^ 24 → s.sp + n < 2 ^ 56 → s.pc + 8 < 2 ^ 64 → Offset n rd s
unfolding puts_register
offset_placed n rd s small reach below fits = elim (cases_lt n 4096) [
  | inl few ↦ record {
    to = puts_register rd (s.sp + n) s;
    steps = 1;
    few = omega arith;
    runs = rw (lt-ltb n 4096 few)
        (Runs-one (sp_plus 0 n n rd s small (omega arith) (omega (arith, below))) refl (omega (arith, fits)));
    placed = one_placed n rd s;
  }
  | inr many ↦ record {
    to = puts_register rd ((u.register rd.0 + n % 4096) % 2 ^ 64) u;
    steps = 2;
    few = omega arith;
    runs = rw (le-ltb n 4096 many)
        (Runs-two (sp_plus 1 (n / 4096) (n / 4096 * 4096) rd s small (omega arith) (omega (arith, below))) refl
        (number_added 0 (n % 4096) (n % 4096) rd rd u small small (omega arith)) refl fits);
    placed = two_placed (n / 4096 * 4096) (n % 4096) n rd s (omega arith) (omega (arith, below));
  }
]
  where
    u : State
    u = puts_register rd (s.sp + n / 4096 * 4096) s

-- ---- the tag of a slot, in a register

-- a register has the tag of an index after that of X28, and nothing else is changed
pub record HasSource (index : ℕ) (s t : State) : Type 0 where
  pub tag : tag_of (t.register source.0) ≡ next_tag (tag_of (s.register tagged_base.0)) index zero_excluded
  pub tags : t.tag ≡ s.tag
  pub registers : (r : ℕ) → r ≢ source.0 → t.register r ≡ s.register r
  pub same : SameButTags s t

pub record Sourced (index : ℕ) (s : State) : Type 0 where
  pub to : State
  pub runs : Runs (Addg 0 index tagged_base source ∷ []) 1 s to
  pub has : HasSource index s to

pub source_made : (index : ℕ) (s : State) → s.pc + 4 < 2 ^ 64 → Sourced index s
unfolding puts_register
source_made index s fits = record {
  to = _;
  runs = Runs-one (tag_stepped 0 index tagged_base source s (lit≤ tt) (lit≤ tt)) refl fits;
  has = record {
    tag = ap tag_of (with_value-same s.register source.0 pointer)
        ∙ tag_of-with_tag ((s.register tagged_base.0 + 16 * 0) % 2 ^ 64) (next_tag (tag_of (s.register tagged_base.0)) index zero_excluded)
        (next_tag-lt (tag_of (s.register tagged_base.0)) index zero_excluded);
    tags = refl;
    registers = λ r other. with_value-other s.register source.0 pointer r other;
    same = record { sp = refl; flags = refl; byte = refl; regions = refl; guard = refl; choices = refl; drawn = refl; outside = refl };
  };
}
  where
    pointer : ℕ
    pointer = with_tag ((s.register tagged_base.0 + 16 * 0) % 2 ^ 64) (next_tag (tag_of (s.register tagged_base.0)) index zero_excluded)

-- ---- one slot

-- a slot stands on whole granules within a frame of so many bytes
pub record IsIn (bytes : ℕ) (s : Slot) : Type 0 where
  pub start : s.start % 16 ≡ 0
  pub whole : s.bytes % 16 ≡ 0
  pub some : 1 ≤ s.bytes
  pub within : s.start + s.bytes ≤ bytes

pub length-shortly : (rt rn counter : Reg) (n : ℕ) → length (tag_shortly rt rn counter n) ≤ 6
length-shortly rt rn counter n = elim (cases_lt n 4) [
  | inl few ↦ rw (lt-ltb n 4 few) (omega (arith, length-tags_from rt rn 0 n, few))
  | inr many ↦ rw (le-ltb n 4 many) (omega (arith, length-tags_from rt rn 0 (n % 2)))
]

pub length-slot : (s : Slot) → length (slot_list s) ≤ 9
length-slot s = omega (
  arith,
  length-append (offset_from stack_pointer s.start place)
      (Addg 0 s.index tagged_base source ∷ tag_shortly source place count (s.bytes / 16)),
  length-offset stack_pointer s.start place,
  length-shortly source place count (s.bytes / 16),
)

-- the loop's few steps, for few granules and for many
record Shortly (n at value : ℕ) (s : State) : Type 0 where
  to : State
  steps : ℕ
  few : steps + 3 ≤ 4 * n
  tagged : TagsGranules (tag_shortly source place count n) steps n at value (base_or_count place count) s to

shortly : (n at value : ℕ) (s : State) → CanTag source place count n at 0 value s → 1 ≤ n → n ≤ 16384 → s.pc + 24 < 2 ^ 64 →
    Shortly n at value s
shortly n at value s can some reach fits = elim (cases_lt n 4) [
  | inl few ↦
      let short = tags_short source place count n at 0 value s can (omega (arith, few)) (omega (arith, few, fits)) in
      record { to = short.to; steps = (n + 1) / 2; few = omega (arith, some); tagged = rw (lt-ltb n 4 few) short.tagged }
  | inr many ↦
      let within = tags_shortly source place count n at 0 value s can reach fits in
      record { to = within.tagged.to; steps = within.steps; few = omega (arith, within.few, many); tagged = within.tagged.tagged }
]

-- what the three parts leave together
slot_left : (slot : Slot) (steps : ℕ) (s t u v : State) → Placed place slot.start s t → HasSource slot.index t u →
    TagsGranules (tag_shortly source place count (slot.bytes / 16)) steps (slot.bytes / 16) (s.sp + slot.start)
    (next_tag (tag_of (t.register tagged_base.0)) slot.index zero_excluded) (base_or_count place count) u v →
    TagsSlots (slot ∷ []) s v
slot_left slot steps s t u v placed has tagged_so = record {
  tags = tagged_so.tags
      ∙ ap (λ (tags : ℕ → ℕ). tagged (slot.bytes / 16) tags (s.sp + slot.start)
      (next_tag (tag_of (t.register tagged_base.0)) slot.index zero_excluded)) (has.tags ∙ placed.tags)
      ∙ ap (λ (base : ℕ). tagged (slot.bytes / 16) s.tag (s.sp + slot.start) (next_tag (tag_of base) slot.index zero_excluded))
      (placed.registers tagged_base.0 (λ same. absurd (cc)));
  kept = record {
    registers = λ r none. tagged_so.registers r (grind (nat_tests, arith))
        ∙ has.registers r (λ same. absurd (grind (nat_tests, arith)))
        ∙ placed.registers r (λ same. absurd (grind (nat_tests, arith)));
    same = SameButTags-then placed.same (SameButTags-then has.same tagged_so.same);
  };
}

-- the slot's granules get its tag, in at most four steps a granule
pub slot_done : (bytes : ℕ) (slot : Slot) (s : State) → IsFrame bytes s → bytes ≤ 262144 → IsIn bytes slot → s.pc + 36 < 2 ^ 64 →
    Does (slot_list slot) (4 * (slot.bytes / 16)) (TagsSlots (slot ∷ [])) s
slot_done bytes slot s frame most stands fits = record {
  to = end.to;
  steps = offset.steps + (1 + end.steps);
  few = omega (arith, offset.few, end.few);
  runs = Runs-append offset.runs (Runs-append made.runs end.tagged.runs);
  left = slot_left slot end.steps s offset.to made.to end.to offset.placed made.has end.tagged;
}
  where
    n : ℕ
    n = slot.bytes / 16

    at : ℕ
    at = s.sp + slot.start

    offset : Offset slot.start place s
    offset = offset_placed slot.start place s (lit≤ tt) (omega (arith, stands.within, most))
        (omega (arith, frame.below, stands.within)) (omega (arith, fits))

    pc : offset.to.pc ≤ s.pc + 8
    pc = omega (arith, offset.runs.pc, length-offset stack_pointer slot.start place)

    made : Sourced slot.index offset.to
    made = source_made slot.index offset.to (omega (arith, pc, fits))

    value : ℕ
    value = next_tag (tag_of (offset.to.register tagged_base.0)) slot.index zero_excluded

    kept : made.to.register place.0 ≡ s.sp + slot.start
    kept = made.has.registers place.0 (λ same. absurd (cc)) ∙ offset.placed.is

    same : SameButTags s made.to
    same = SameButTags-then offset.placed.same made.has.same

    can : CanTag source place count n at 0 value made.to
    can = record {
      registers = record { base = lit≤ tt; counter = lit≤ tt; apart = λ same. absurd (cc); source = λ same. absurd (cc) };
      points = subst (λ (pointer : ℕ). Points pointer at 0) (sym kept)
          (Points-address at (omega (arith, frame.below, stands.within)));
      has_tag = made.has.tag;
      aligned = omega (arith, frame.aligned, stands.start);
      below = omega (arith, frame.below, stands.within);
      memory = IsOpen-kept (record { regions = same.regions; guard = same.guard })
          (IsOpen-part at (16 * n) (omega arith) (omega (arith, stands.within)) frame.memory);
    }

    end : Shortly n at value made.to
    end = shortly n at value made.to can (omega (arith, stands.some, stands.whole)) (omega (arith, stands.within, most))
        (omega (arith, pc, made.runs.pc, fits))
