-- What the four lists leave of the tags of live slots, as the injection has them (this project's own).
use Rattle.std.specs.Prelude.{◌≡◌, ℕ, suc, ◌+◌, ◌*◌, ◌/◌, ◌<◌, ◌≤◌, true, List, [], ◌∷◌, ◌++◌}
use Rattle.std.specs.Prelude.{slice_get, Some, refl}
use Rattle.std.proofs.Common.{arith, ap, ◌∙◌, subst, inl, inr}
use Rattle.std.proofs.lemmas.Bool.{cases_Bool}
use Rattle.std.proofs.lemmas.Bool.Decides.{nat_tests}
use Rattle.mt_base.specs.Granules.{granule_of}
use Rattle.mt_base.specs.Memory.{is_between}
use Rattle.mt_base.specs.Pointers.{tag_of}
use Rattle.mt_base.specs.Tags.{base, slot_tag}
use Rattle.a64_code.specs.State.{State}
use Rattle.a64_code.specs.TagInstructions.{next_choice}
use Rattle.a64_laws.specs.Laws.Effects.Stores.{tagged_outside}
use Rattle.frame_layout.specs.declared.frame.Frame.{Frame}
use Rattle.frame_layout.specs.declared.frame.Slot.{Slot}
use Rattle.frame_layout.specs.WellFormed.{IsWellFormed}
use Rattle.tag_plan.specs.Effects.{IsFrame, Entered, Exited, TagsSlots, LeavesSlots, HaveSlotTags, NoneHas}
use Rattle.tag_plan.specs.Effects.{has_granule, AreNumbers}
use Rattle.tag_plan.specs.Lists.{outer_tagged, listed, tagged_base}
use Rattle.tag_plan.specs.Live.{HaveTheirs, LiveTags, AreApart}
use Rattle.tag_plan.specs.Laws.Frames.{entered-tags, exited-clear, granules_from}
use Rattle.tag_plan.specs.Laws.Entering.{entering-tags}
use Rattle.tag_plan.specs.Laws.Standing.{Rising, rising-reaches, before-none}

-- ---- lists of slots

none-append : (sp granule : ℕ) (xs ys : List Slot) → NoneHas sp xs granule → NoneHas sp ys granule → NoneHas sp (xs ++ ys) granule
none-append sp granule [] ys none more = more
none-append sp granule (x ∷ xs) ys none more = (none.0, none-append sp granule xs ys none.1 more)

none-front : (sp granule : ℕ) (xs ys : List Slot) → NoneHas sp (xs ++ ys) granule → NoneHas sp xs granule
none-front sp granule [] ys none = tt
none-front sp granule (x ∷ xs) ys none = (none.0, none-front sp granule xs ys none.1)

none-back : (sp granule : ℕ) (xs ys : List Slot) → NoneHas sp (xs ++ ys) granule → NoneHas sp ys granule
none-back sp granule [] ys none = none
none-back sp granule (x ∷ xs) ys none = none-back sp granule xs ys none.1

theirs-append : (sp choice : ℕ) (xs ys : List Slot) (tags : ℕ → ℕ) → HaveTheirs sp choice xs tags → HaveTheirs sp choice ys tags →
    HaveTheirs sp choice (xs ++ ys) tags
theirs-append sp choice [] ys tags first second = second
theirs-append sp choice (x ∷ xs) ys tags first second = (first.0, theirs-append sp choice xs ys tags first.1 second)

theirs-front : (sp choice : ℕ) (xs ys : List Slot) (tags : ℕ → ℕ) → HaveTheirs sp choice (xs ++ ys) tags → HaveTheirs sp choice xs tags
theirs-front sp choice [] ys tags have = tt
theirs-front sp choice (x ∷ xs) ys tags have = (have.0, theirs-front sp choice xs ys tags have.1)

-- slots by their places in the list have their tags one by one
theirs-each : (sp choice : ℕ) (ss : List Slot) (tags : ℕ → ℕ) →
    ((k : ℕ) (s : Slot) (granule : ℕ) → slice_get ss k ≡ Some s → has_granule sp s granule ≡ true →
    tags granule ≡ slot_tag choice s.index) → HaveTheirs sp choice ss tags
theirs-each sp choice [] tags each = tt
theirs-each sp choice (s ∷ ss) tags each =
    let rest = theirs-each sp choice ss tags (λ k x granule is inside. each (suc k) x granule is inside) in
    (λ granule inside. each 0 s granule refl inside, rest)

-- what changes no granule of the slots keeps their tags
theirs-kept : (sp choice : ℕ) (ss others : List Slot) (before after : ℕ → ℕ) → AreApart sp ss others →
    ((granule : ℕ) → NoneHas sp others granule → after granule ≡ before granule) → HaveTheirs sp choice ss before →
    HaveTheirs sp choice ss after
theirs-kept sp choice [] others before after apart same have = tt
theirs-kept sp choice (s ∷ ss) others before after apart same have = (
  λ granule inside. same granule (apart.0 granule inside) ∙ have.0 granule inside,
  theirs-kept sp choice ss others before after apart.1 same have.1,
)

-- ---- the entry of a function

-- where no granule had a tag, the slots that live as long as the call have theirs, and no other granule has one
pub entered-live : (low : ℕ) (f : Frame) (s t : State) → IsWellFormed f → IsFrame f.bytes s → Entered f s t →
    LiveTags low s.sp f.bytes (next_choice s) [] s.tag → LiveTags low s.sp f.bytes (next_choice s) (outer_tagged f.slots) t.tag
entered-live low f s t well frame entered before = record {
  inside = theirs-each s.sp (next_choice s) (outer_tagged f.slots) t.tag have.inside;
  outside = λ granule there below none. have.outside granule none ∙ before.outside granule there below tt;
}
  where
    have : HaveSlotTags s.sp (base (next_choice s)) (outer_tagged f.slots) s.tag t.tag
    have = entered-tags f s t well frame entered

-- ---- an inner scope

-- its slots are entered, where X28 has the base tag
pub entering-live : (low choice number : ℕ) (f : Frame) (live : List Slot) (ks : List ℕ) (s t : State) → IsWellFormed f →
    AreNumbers f.slots number ks → IsFrame f.bytes s → TagsSlots (listed f.slots ks) s t →
    tag_of (s.register tagged_base.0) ≡ base choice →
    AreApart s.sp live (listed f.slots ks) → LiveTags low s.sp f.bytes choice live s.tag →
    LiveTags low s.sp f.bytes choice (live ++ listed f.slots ks) t.tag
entering-live low choice number f live ks s t well numbers frame entered drawn apart before = record {
  inside = theirs-append s.sp choice live (listed f.slots ks) t.tag
      (theirs-kept s.sp choice live (listed f.slots ks) s.tag t.tag apart have.outside before.inside)
      (theirs-each s.sp choice (listed f.slots ks) t.tag (λ k x granule is inside. have.inside k x granule is inside));
  outside = λ granule there below none.
      have.outside granule (none-back s.sp granule live (listed f.slots ks) none)
      ∙ before.outside granule there below (none-front s.sp granule live (listed f.slots ks) none);
}
  where
    have : HaveSlotTags s.sp (base choice) (listed f.slots ks) s.tag t.tag
    have = subst (λ tag. HaveSlotTags s.sp tag (listed f.slots ks) s.tag t.tag) drawn
        (entering-tags f number ks s t well numbers frame entered)

-- a granule that one of some slots has, or none
gone_tag : (sp granule : ℕ) (gone : List Slot) (tags : ℕ → ℕ) →
    ((k : ℕ) (x : Slot) → slice_get gone k ≡ Some x → has_granule sp x granule ≡ true → tags granule ≡ 0) →
    (NoneHas sp gone granule → tags granule ≡ 0) → tags granule ≡ 0
gone_tag sp granule [] tags each none = none tt
gone_tag sp granule (x ∷ gone) tags each none = elim (cases_Bool (has_granule sp x granule)) [
  | inl here ↦ each 0 x refl here
  | inr elsewhere ↦ gone_tag sp granule gone tags (λ k y is inside. each (suc k) y is inside) (λ rest. none (elsewhere, rest))
]

-- its slots are left
pub leaving-live : (low bytes choice : ℕ) (live gone : List Slot) (s t : State) → LeavesSlots gone s t → AreApart s.sp live gone →
    LiveTags low s.sp bytes choice (live ++ gone) s.tag → LiveTags low s.sp bytes choice live t.tag
leaving-live low bytes choice live gone s t left apart before = record {
  inside = theirs-kept s.sp choice live gone s.tag t.tag apart left.tags.outside
      (theirs-front s.sp choice live gone s.tag before.inside);
  outside = λ granule there below none.
      gone_tag s.sp granule gone t.tag (λ k x is inside. left.tags.inside k x granule is inside)
      (λ others. left.tags.outside granule others ∙ before.outside granule there below (none-append s.sp granule live gone none others));
}

-- ---- the exit of a function

-- no granule of the frame has a tag after it, nor one below SP, whichever of the tagged slots were live
pub exited-live : (low choice : ℕ) (f : Frame) (live : List Slot) (s t : State) (well : IsWellFormed f) → IsFrame f.bytes s →
    16 * low ≤ s.sp → Exited well.first (granules_from well.first f) s t → Rising well.first live f.bytes →
    LiveTags low s.sp f.bytes choice live s.tag →
    LiveTags low s.sp f.bytes choice [] t.tag
exited-live low choice f live s t well frame lowest left rising before = record {
  inside = tt;
  outside = λ granule there below none. elim (cases_Bool (is_between (granule_of s.sp) (f.bytes / 16) granule)) [
    | inl here ↦ exited-clear f s t well frame left cleared granule here
    | inr elsewhere ↦ ap (λ (tags : ℕ → ℕ). tags granule) left.tags
        ∙ tagged_outside (granules_from well.first f) s.tag (s.sp + well.first) 0 granule
        (grind (arith, nat_tests, frame.aligned, well.first_whole, well.whole, reaches, below, elsewhere))
        ∙ before.outside granule there below
        (first granule (grind (arith, nat_tests, frame.aligned, well.first_least, well.whole, below, elsewhere)))
  ];
}
  where
    reaches : well.first ≤ f.bytes
    reaches = rising-reaches well.first live f.bytes rising

    first : (g : ℕ) → 16 * g < s.sp + well.first → NoneHas s.sp live g
    first g before = before-none s.sp g well.first live f.bytes frame.aligned before rising

    cleared : (g : ℕ) → is_between (granule_of s.sp) (well.first / 16) g ≡ true → s.tag g ≡ 0
    cleared g inside =
        let before_first : 16 * g < s.sp + well.first = grind (arith, nat_tests, frame.aligned, well.first_whole, inside) in
        before.outside g (grind (arith, nat_tests, frame.aligned, lowest, inside)) (omega (arith, before_first, reaches))
        (first g before_first)
