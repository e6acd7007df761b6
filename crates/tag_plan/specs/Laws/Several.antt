-- What the lists of several slots do, and those that clear granules (this project's own).
use Rattle.std.specs.Prelude.{◌≡◌, ℕ, zero, suc, ◌+◌, ◌*◌, ◌/◌, ◌%◌, ◌^◌, ◌<◌, ◌≤◌, false, List, [], ◌∷◌, ◌++◌, length, flat_map, refl}
use Rattle.std.proofs.Common.{arith, ap, sym, ◌∙◌, subst, inl, inr, length-append, lit≤}
use Rattle.std.proofs.lemmas.Bool.Decides.{nat_tests}
use Rattle.std.proofs.lemmas.Bool.{cases_lt, lt-ltb, le-ltb}
use Rattle.mt_base.specs.Pointers.{tag_of}
use Rattle.a64_code.specs.State.{State, tagged, general_or_sp}
use Rattle.a64_laws.specs.Forms.{Points, stack_pointer}
use Rattle.a64_laws.specs.Laws.Effects.Open.{IsOpen}
use Rattle.a64_laws.specs.Laws.OpenMemory.{IsOpen-part, IsOpen-kept}
use Rattle.a64_laws.specs.Laws.Pointers.{Points-address}
use Rattle.a64_laws.specs.Laws.Runs.{Runs-append, Runs-nil}
use Rattle.a64_laws.specs.Laws.TagLoop.{SameButTags-then}
use Rattle.a64_laws.specs.Laws.Tagging.{length-tags_from}
use Rattle.a64_laws.specs.Laws.TagRounds.{CanTag, TaggedWithin, tags_quickly}
use Rattle.a64_laws.specs.Tagging.{SameButTags, TagsGranules, tag_quickly, base_or_count}
use Rattle.frame_layout.specs.declared.frame.Slot.{Slot}
use Rattle.tag_plan.specs.Effects.{IsFrame, is_scratch, Does, with_slot, with_slots, granules, SameButScratch, TagsSlots, Clears}
use Rattle.tag_plan.specs.Lists.{tagged_base, place, count, offset_from, slot_list, clearing}
use Rattle.tag_plan.specs.Laws.Slots.{IsIn, Offset, Placed, offset_placed, slot_done, length-slot, length-offset}

-- ---- several slots

-- each stands on whole granules within a frame of so many bytes
abbrev pub AreIn : ℕ → List Slot → Type 0
AreIn bytes [] = Unit {0}
AreIn bytes (s ∷ ss) = IsIn bytes s × AreIn bytes ss

pub IsFrame-kept : {bytes : ℕ} {s t : State} → SameButTags s t → IsFrame bytes s → IsFrame bytes t
IsFrame-kept {bytes} {s} {t} same frame = record {
  aligned = ap (λ sp. sp % 16) same.sp ∙ frame.aligned;
  below = omega (arith, same.sp, frame.below);
  memory = subst (λ sp. IsOpen t sp bytes) (sym same.sp)
      (IsOpen-kept (record { regions = same.regions; guard = same.guard }) frame.memory);
}

SameButScratch-then : {r s t : State} → SameButScratch r s → SameButScratch s t → SameButScratch r t
SameButScratch-then first rest = record {
  registers = λ r none. rest.registers r none ∙ first.registers r none;
  same = SameButTags-then first.same rest.same;
}

two_left : (slot : Slot) (ss : List Slot) (s t u : State) → TagsSlots (slot ∷ []) s t → TagsSlots ss t u → TagsSlots (slot ∷ ss) s u
two_left slot ss s t u first rest = record {
  tags = rest.tags
      ∙ ap (λ sp. with_slots sp (tag_of (t.register tagged_base.0)) ss t.tag) first.kept.same.sp
      ∙ ap (λ base. with_slots s.sp (tag_of base) ss t.tag) (first.kept.registers tagged_base.0 refl)
      ∙ ap (λ tags. with_slots s.sp (tag_of (s.register tagged_base.0)) ss tags) first.tags;
  kept = SameButScratch-then first.kept rest.kept;
}

and_then : (slot : Slot) (ss : List Slot) (s : State) (first : Does (slot_list slot) (4 * (slot.bytes / 16)) (TagsSlots (slot ∷ [])) s) →
    Does (flat_map slot_list ss) (4 * granules ss) (TagsSlots ss) first.to →
    Does (flat_map slot_list (slot ∷ ss)) (4 * granules (slot ∷ ss)) (TagsSlots (slot ∷ ss)) s
and_then slot ss s first rest = record {
  to = rest.to;
  steps = first.steps + rest.steps;
  few = omega (arith, first.few, rest.few);
  runs = Runs-append first.runs rest.runs;
  left = two_left slot ss s first.to rest.to first.left rest.left;
}

pub length-slots : (ss : List Slot) → length (flat_map slot_list ss) ≤ 9 * length ss
length-slots [] = omega arith
length-slots (s ∷ ss) =
    omega (arith, length-append (slot_list s) (flat_map slot_list ss), length-slot s, length-slots ss)

-- their granules get their tags, in at most four steps a granule
pub slots_done : (bytes : ℕ) (ss : List Slot) (s : State) → IsFrame bytes s → bytes ≤ 262144 → AreIn bytes ss →
    s.pc + 36 * length ss < 2 ^ 64 → Does (flat_map slot_list ss) (4 * granules ss) (TagsSlots ss) s
slots_done bytes [] s frame most stand fits = record {
  to = s;
  steps = 0;
  few = omega arith;
  runs = Runs-nil s;
  left = record {
    tags = refl;
    kept = record {
      registers = λ r none. refl;
      same = record { sp = refl; flags = refl; byte = refl; regions = refl; guard = refl; choices = refl; drawn = refl; outside = refl };
    };
  };
}
slots_done bytes (slot ∷ ss) s frame most stand fits =
    let first = slot_done bytes slot s frame most stand.0 (omega (arith, fits)) in
    and_then slot ss s first (slots_done bytes ss first.to (IsFrame-kept first.left.kept.same frame) most stand.1
    (omega (arith, first.runs.pc, length-slot slot, fits)))

-- ---- granules cleared

pub length-quickly : (n : ℕ) → length (tag_quickly stack_pointer place count n) ≤ 20
length-quickly n = elim (cases_lt n 16) [
  | inl few ↦ rw (lt-ltb n 16 few) (omega (arith, length-tags_from stack_pointer place 0 n, few))
  | inr many ↦ rw (le-ltb n 16 many) (omega (arith, length-tags_from stack_pointer place 0 (n % 16)))
]

pub length-clearing : (from n : ℕ) → length (clearing from n) ≤ 22
length-clearing from n = omega (
  arith,
  length-append (offset_from stack_pointer from place) (tag_quickly stack_pointer place count n),
  length-offset stack_pointer from place,
  length-quickly n,
)

-- so many granules from a place on have the tag of SP, which is 0
pub clearing_done : (bytes from n : ℕ) (s : State) → IsFrame bytes s → bytes ≤ 262144 → from % 16 ≡ 0 → from + 16 * n ≤ bytes →
    s.pc + 4 * 22 < 2 ^ 64 → Does (clearing from n) (3 * n / 4 + 4) (Clears from n) s
clearing_done bytes from n s frame most whole within fits = record {
  to = end.tagged.to;
  steps = offset.steps + end.steps;
  few = omega (arith, offset.few, end.few);
  runs = Runs-append offset.runs end.tagged.tagged.runs;
  left = record {
    tags = end.tagged.tagged.tags ∙ ap (λ tags. tagged n tags (s.sp + from) 0) offset.placed.tags;
    kept = record {
      registers = λ r none. end.tagged.tagged.registers r (grind (nat_tests, arith))
          ∙ offset.placed.registers r (λ same. absurd (grind (nat_tests, arith)));
      same = SameButTags-then offset.placed.same end.tagged.tagged.same;
    };
  };
}
  where
    offset : Offset from place s
    offset = offset_placed from place s (lit≤ tt) (omega (arith, within, most)) (omega (arith, frame.below, within)) (omega (arith, fits))

    at_frame : IsFrame bytes offset.to
    at_frame = IsFrame-kept offset.placed.same frame

    can : CanTag stack_pointer place count n (s.sp + from) 0 0 offset.to
    can = record {
      registers = record { base = lit≤ tt; counter = lit≤ tt; apart = λ same. absurd (cc); source = λ same. absurd (cc) };
      points = subst (λ (pointer : ℕ). Points pointer (s.sp + from) 0) (sym offset.placed.is)
          (Points-address (s.sp + from) (omega (arith, frame.below, within)));
      has_tag = omega (arith, offset.placed.same.sp, frame.below);
      aligned = omega (arith, frame.aligned, whole);
      below = omega (arith, frame.below, within);
      memory = IsOpen-kept (record { regions = offset.placed.same.regions; guard = offset.placed.same.guard })
          (IsOpen-part (s.sp + from) (16 * n) (omega arith) (omega (arith, within)) frame.memory);
    }

    end : TaggedWithin (tag_quickly stack_pointer place count n) 20 (3 * n / 4 + 2) n (s.sp + from) 0 (base_or_count place count) offset.to
    end = tags_quickly stack_pointer place count n (s.sp + from) 0 0 offset.to can (omega (arith, within, most))
        (omega (arith, offset.runs.pc, length-offset stack_pointer from place, fits))
