-- What the entry and the exit of a function do (this project's own).
use Rattle.std.specs.Prelude.{◌≡◌, ◌≢◌, ℕ, zero, suc, ◌+◌, ◌*◌, ◌/◌, ◌%◌, ◌^◌, ◌<◌, ◌≤◌, true, false, List, [], ◌∷◌, ◌++◌}
use Rattle.std.specs.Prelude.{length, flat_map, refl}
use Rattle.std.proofs.Common.{arith, ap, sym, ◌∙◌, subst, length-append, lit≤}
use Rattle.mt_base.specs.Laws.Pointers.{tag_of-with_tag}
use Rattle.mt_base.specs.Laws.TagChoice.{next_tag-lt}
use Rattle.mt_base.specs.Memory.{store, load}
use Rattle.mt_base.specs.Pointers.{tag_of, with_tag}
use Rattle.mt_base.specs.Tags.{base, zero_excluded}
use Rattle.a64_code.specs.declared.instr.Instr.TheVariants.{Ldr}
use Rattle.a64_code.specs.State.{State, tagged}
use Rattle.a64_code.specs.TagInstructions.{next_choice}
use Rattle.a64_laws.specs.Forms.{StoreWhole, Whole, puts_register, puts_bytes, draws_choice, stack_pointer}
use Rattle.a64_laws.specs.Laws.Effects.Open.{IsOpen, IsReadable}
use Rattle.a64_laws.specs.Laws.Effects.Registers.{with_value-same, with_value-other}
use Rattle.a64_laws.specs.Laws.Loads.{load_at_sp}
use Rattle.a64_laws.specs.Laws.OpenMemory.{IsOpen-part, IsOpen-kept}
use Rattle.a64_laws.specs.Laws.Runs.{Runs-one, Runs-two, Runs-append}
use Rattle.a64_laws.specs.Laws.Stores.{store_at_sp}
use Rattle.a64_laws.specs.Laws.Tags.{base_inserted}
use Rattle.a64_laws.specs.Runs.{Runs}
use Rattle.a64_laws.specs.Tagging.{SameButTags}
use Rattle.frame_layout.specs.declared.frame.Frame.{Frame}
use Rattle.frame_layout.specs.declared.frame.Slot.{Slot}
use Rattle.tag_plan.specs.Effects.{IsFrame, is_scratch, Does, with_slots, granules, TagsSlots, Clears, Entered, Exited}
use Rattle.tag_plan.specs.Lists.{tagged_base, base_list, slot_list, clearing, outer_tagged}
use Rattle.tag_plan.specs.Laws.Several.{AreIn, IsFrame-kept, slots_done, clearing_done, length-clearing}

-- ---- the base

-- X28 was saved, and is SP with a tag that was drawn
record Based (s t : State) : Type 0 where
  base_register : t.register tagged_base.0 ≡ with_tag s.sp (base (next_choice s))
  byte : t.byte ≡ store 8 s.byte (s.sp + 16) (s.register tagged_base.0)
  tags : t.tag ≡ s.tag
  drawn : t.drawn ≡ (s.drawn + 1) % length s.choices
  registers : (r : ℕ) → r ≢ tagged_base.0 → t.register r ≡ s.register r
  sp : t.sp ≡ s.sp
  flags : t.flags ≡ s.flags
  regions : t.regions ≡ s.regions
  guard : t.guard ≡ s.guard
  choices : t.choices ≡ s.choices
  outside : t.outside ≡ s.outside

record HasBase (s : State) : Type 0 where
  to : State
  runs : Runs base_list 2 s to
  based : Based s to

base_done : (bytes : ℕ) (s : State) → IsFrame bytes s → 32 ≤ bytes → s.pc + 8 < 2 ^ 64 → HasBase s
unfolding puts_register puts_bytes draws_choice
base_done bytes s frame least fits = record {
  to = _;
  runs = Runs-two (store_at_sp StoreWhole 2 (s.sp + 16) tagged_base s refl (omega (arith, frame.below, least)) (omega
      (arith, frame.aligned)) (IsOpen-part (s.sp + 16) 8 (omega arith) (omega (arith, least)) frame.memory)) refl
      (base_inserted stack_pointer tagged_base u (lit≤ tt)) refl fits;
  based = record {
    base_register = with_value-same u.register tagged_base.0 pointer;
    byte = refl;
    tags = refl;
    drawn = refl;
    registers = λ r other. with_value-other u.register tagged_base.0 pointer r other;
    sp = refl;
    flags = refl;
    regions = refl;
    guard = refl;
    choices = refl;
    outside = refl;
  };
}
  where
    u : State
    u = puts_bytes (store 8 s.byte (s.sp + 16) (s.register tagged_base.0)) s

    pointer : ℕ
    pointer = with_tag s.sp (base (next_choice s))

-- ---- the entry

entered : (f : Frame) (s t u : State) → Based s t → TagsSlots (outer_tagged f.slots) t u → Entered f s u
entered f s t u based tags = record {
  tags = tags.tags
      ∙ ap (λ sp. with_slots sp (tag_of (t.register tagged_base.0)) (outer_tagged f.slots) t.tag) based.sp
      ∙ ap (λ tag. with_slots s.sp tag (outer_tagged f.slots) t.tag) base_tag
      ∙ ap (λ tags. with_slots s.sp (base (next_choice s)) (outer_tagged f.slots) tags) based.tags;
  base_register = tags.kept.registers tagged_base.0 refl ∙ based.base_register;
  byte = tags.kept.same.byte ∙ based.byte;
  drawn = tags.kept.same.drawn ∙ based.drawn;
  registers = λ r none other. tags.kept.registers r none ∙ based.registers r other;
  sp = tags.kept.same.sp ∙ based.sp;
  flags = tags.kept.same.flags ∙ based.flags;
  regions = tags.kept.same.regions ∙ based.regions;
  guard = tags.kept.same.guard ∙ based.guard;
  choices = tags.kept.same.choices ∙ based.choices;
  outside = tags.kept.same.outside ∙ based.outside;
}
  where
    base_tag : tag_of (t.register tagged_base.0) ≡ base (next_choice s)
    base_tag = ap tag_of based.base_register
        ∙ tag_of-with_tag s.sp (base (next_choice s)) (next_tag-lt (next_choice s) 0 zero_excluded)

-- the base and the slots that live as long as the call
pub entry_done : (f : Frame) (s : State) → IsFrame f.bytes s → 32 ≤ f.bytes → f.bytes ≤ 262144 → AreIn f.bytes (outer_tagged f.slots) →
    s.pc + 8 + 36 * length (outer_tagged f.slots) < 2 ^ 64 →
    Does (base_list ++ flat_map slot_list (outer_tagged f.slots)) (4 * granules (outer_tagged f.slots) + 2) (Entered f) s
entry_done f s frame least most stand fits = record {
  to = slots.to;
  steps = 2 + slots.steps;
  few = omega (arith, slots.few);
  runs = Runs-append has.runs slots.runs;
  left = entered f s has.to slots.to has.based slots.left;
}
  where
    has : HasBase s
    has = base_done f.bytes s frame least (omega (arith, fits))

    at_frame : IsFrame f.bytes has.to
    at_frame = record {
      aligned = ap (λ sp. sp % 16) has.based.sp ∙ frame.aligned;
      below = omega (arith, has.based.sp, frame.below);
      memory = subst (λ sp. IsOpen has.to sp f.bytes) (sym has.based.sp)
          (IsOpen-kept (record { regions = has.based.regions; guard = has.based.guard }) frame.memory);
    }

    slots : Does (flat_map slot_list (outer_tagged f.slots)) (4 * granules (outer_tagged f.slots)) (TagsSlots (outer_tagged f.slots)) has.to
    slots = slots_done f.bytes (outer_tagged f.slots) has.to at_frame most stand (omega (arith, has.runs.pc, fits))

-- ---- the exit

-- X28 is loaded from the base word
load_base : (bytes : ℕ) (s : State) → IsFrame bytes s → 32 ≤ bytes → s.pc + 4 < 2 ^ 64 →
    Runs (Ldr true 2 stack_pointer tagged_base ∷ []) 1 s (puts_register tagged_base (load 8 s.byte (s.sp + 16)) s)
unfolding puts_register
load_base bytes s frame least fits =
    Runs-one (load_at_sp Whole 2 (s.sp + 16) tagged_base s (lit≤ tt) refl (omega (arith, frame.below, least))
    (omega (arith, frame.aligned)) readable) refl fits
  where
    readable : IsReadable s (s.sp + 16) 8
    readable = (IsOpen-part (s.sp + 16) 8 (omega arith) (omega (arith, least)) frame.memory).readable

exited : (from n : ℕ) (s t : State) → Clears from n s t → Exited from n s (puts_register tagged_base (load 8 t.byte (t.sp + 16)) t)
unfolding puts_register
exited from n s t cleared = record {
  tags = cleared.tags;
  base_register = with_value-same t.register tagged_base.0 (load 8 t.byte (t.sp + 16))
      ∙ ap (λ byte. load 8 byte (t.sp + 16)) cleared.kept.same.byte
      ∙ ap (λ sp. load 8 s.byte (sp + 16)) cleared.kept.same.sp;
  registers = λ r none other.
      with_value-other t.register tagged_base.0 (load 8 t.byte (t.sp + 16)) r other ∙ cleared.kept.registers r none;
  same = record {
    sp = cleared.kept.same.sp;
    flags = cleared.kept.same.flags;
    byte = cleared.kept.same.byte;
    regions = cleared.kept.same.regions;
    guard = cleared.kept.same.guard;
    choices = cleared.kept.same.choices;
    drawn = cleared.kept.same.drawn;
    outside = cleared.kept.same.outside;
  };
}

-- granules lose their tags, and X28 is what it was
pub exit_done : (bytes from n : ℕ) (s : State) → IsFrame bytes s → 32 ≤ bytes → bytes ≤ 262144 → from % 16 ≡ 0 → from + 16 * n ≤ bytes →
    s.pc + 4 * 23 < 2 ^ 64 →
    Does (clearing from n ++ Ldr true 2 stack_pointer tagged_base ∷ []) (3 * n / 4 + 5) (Exited from n) s
exit_done bytes from n s frame least most whole within fits =
    let cleared = clearing_done bytes from n s frame most whole within (omega (arith, fits)) in
    record {
      to = puts_register tagged_base (load 8 cleared.to.byte (cleared.to.sp + 16)) cleared.to;
      steps = cleared.steps + 1;
      few = omega (arith, cleared.few);
      runs = Runs-append cleared.runs (load_base bytes cleared.to (IsFrame-kept cleared.left.kept.same frame) least
          (omega (arith, cleared.runs.pc, length-clearing from n, fits)));
      left = exited from n s cleared.to cleared.left;
    }
