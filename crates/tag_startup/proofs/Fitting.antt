-- The objects and the places of an image that starts can be tagged and relocated in its memory.
use Rattle.std.proofs.Common.{◌≡◌, ◌⊎◌, ℕ, ◌+◌, ◌*◌, List, get_or, Result, Ok, Err, sym, subst, inl, inr, arith}
use Rattle.std.specs.List.{All}
use Rattle.std.specs.Prelude.{IfErr, IfOk, MatchResult}
use Rattle.mt_base.specs.Memory.{Span, Extent}
use Rattle.elf_image.specs.Image.{Image}
use Rattle.elf_image.specs.Places.{IsValid}
use Rattle.elf_image.specs.declared.parts.RelativeReloc.{RelativeReloc}
use Rattle.memtag_desc.specs.declared.interval.Interval.{Interval}
use Rattle.tag_mem.specs.declared.access.TagMemory.{Ghosts}
use Rattle.mte_machine.specs.declared.machine.Machine.{Machine}
use Rattle.tag_startup.specs.declared.refusal.StartRefusal.{StartRefusal}
use Rattle.tag_startup.specs.declared.refusal.StartRefusal.TheVariants.{NoMemory}
use Rattle.tag_startup.specs.Laws.Inside.{IsWithin, IsPlaced, IsWholeObject, objects_within, objects_whole, relocs_placed}
use Rattle.tag_startup.specs.Laws.OneStart.{one_start_fault, starts_not_refused}
use Rattle.tag_startup.specs.Laws.Writable.{AreWritable, can_be_read, can_be_tagged, can_be_written}
use Rattle.tag_startup.specs.Memory.{CanBeTagged, CanBeRelocated, IsStarted}
use Rattle.tag_startup.specs.Parts.{IsStack, load_address, loaded_guard, loaded_regions}
use Rattle.tag_startup.specs.Starts.{AreObjects, Starts, StartFault}
use Rattle.tag_startup.proofs.Tagging.{taggable}
use Rattle.tag_startup.proofs.Storing.{relocatable}

can_tag : (image : Image) (stack : ℕ) (objects : List Interval) → IsValid image → IsStack stack → AreObjects image objects →
    All (CanBeTagged (loaded_regions image stack) (loaded_guard stack)) objects
can_tag image stack objects valid stack_is are k d inside = record {
  start_whole = whole.start;
  bytes_whole = whole.bytes;
  low = omega (arith, within.to, valid.memory);
  each = λ n below. can_be_tagged image stack (load_address + i.start + 16 * n) valid stack_is (omega (arith, whole.start)) (record {
    from = omega (arith, within.from);
    to = omega (arith, within.to, whole.bytes, below);
  });
}
  where
    i : Interval
    i = get_or objects k d

    within : IsWithin image (get_or objects k d)
    within = objects_within image objects are k d inside

    whole : IsWholeObject (get_or objects k d)
    whole = objects_whole image objects are k d inside

can_relocate : (image : Image) (stack : ℕ) (objects : List Interval) → IsValid image → IsStack stack → AreObjects image objects →
    All (CanBeRelocated (loaded_regions image stack) (loaded_guard stack)) image.relocs
can_relocate image stack objects valid stack_is are k d inside = record {
  low = omega (arith, placed.to, valid.memory);
  read = can_be_read image stack (load_address + (get_or image.relocs k d).place) 8 valid stack_is writable;
  write = can_be_written image stack (load_address + (get_or image.relocs k d).place) 8 valid stack_is writable;
}
  where
    placed : IsPlaced image (get_or image.relocs k d)
    placed = relocs_placed image objects are k d inside

    writable : AreWritable image (load_address + (get_or image.relocs k d).place) 8
    writable = record { from = omega (arith, placed.from); to = omega (arith, placed.to) }

pub tags_fit : (image : Image) (stack : ℕ) (objects slice : List Interval) (regions : List Extent) (guard : Span) → IsValid image →
    IsStack stack → AreObjects image objects → slice ≡ objects → regions ≡ loaded_regions image stack → guard ≡ loaded_guard stack →
    All (CanBeTagged regions guard) slice
tags_fit image stack objects slice regions guard valid stack_is are same places apart =
    subst (All (CanBeTagged regions guard)) (sym same) (λ k d inside.
    taggable (loaded_regions image stack) regions (loaded_guard stack) guard (get_or objects k d) places apart
    (can_tag image stack objects valid stack_is are k d inside))

pub places_fit : (image : Image) (stack : ℕ) (objects : List Interval) (slice : List RelativeReloc) (regions : List Extent) (guard : Span) →
    IsValid image → IsStack stack → AreObjects image objects → slice ≡ image.relocs → regions ≡ loaded_regions image stack →
    guard ≡ loaded_guard stack → All (CanBeRelocated regions guard) slice
places_fit image stack objects slice regions guard valid stack_is are same places apart =
    subst (All (CanBeRelocated regions guard)) (sym same) (λ k d inside.
    relocatable (loaded_regions image stack) regions (loaded_guard stack) guard (get_or image.relocs k d) places apart
    (can_relocate image stack objects valid stack_is are k d inside))

-- ---- the clauses of a start, from what its machine or its refusal is

abbrev pub AreStarted : {M : Type 0} → Ghosts M → Image → List ℕ → ℕ → Result (Machine M) StartRefusal → Type 0
AreStarted shown image choices stack result = IfOk result (λ machine. IsStarted shown machine image choices stack)

abbrev pub AreRefused : {M : Type 0} → Image → Result (Machine M) StartRefusal → Type 0
AreRefused image result = IfErr result (λ e. (e ≡ NoMemory) ⊎ StartFault image e)

pub starts_all : {M : Type 0} (image : Image) (result : Result (Machine M) StartRefusal) → AreRefused image result → Starts image →
    IfErr result (λ e. e ≡ NoMemory)
starts_all image (Ok machine) refused starts = tt
starts_all image (Err e) (inl none) starts = none
starts_all image (Err e) (inr fault) starts = absurd (starts_not_refused image e starts fault)

pub refuses_all : {M : Type 0} (shown : Ghosts M) (image : Image) (choices : List ℕ) (stack : ℕ)
    (result : Result (Machine M) StartRefusal) → AreStarted shown image choices stack result → AreRefused image result →
    (fault : StartRefusal) → StartFault image fault → MatchResult result (λ _. ⊥) (λ e. (e ≡ fault) ⊎ (e ≡ NoMemory))
refuses_all shown image choices stack (Ok machine) started refused fault is = starts_not_refused image fault started.starts is
refuses_all shown image choices stack (Err e) started (inl none) fault is = inr none
refuses_all shown image choices stack (Err e) started (inr cause) fault is = inl (one_start_fault image e fault cause is)
