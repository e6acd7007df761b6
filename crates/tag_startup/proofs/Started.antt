-- The state of a machine with the memory of an image that starts.
use Rattle.std.proofs.Common.{◌≡◌, ℕ, ◌+◌, ◌%◌, ◌^◌, List, length, ap, ap₂, subst, ◌∙◌}
use Rattle.mt_base.specs.Memory.{Span, Extent}
use Rattle.mt_base.specs.Tags.{base}
use Rattle.std.proofs.Common.{slice_index}
use Rattle.elf_image.specs.declared.parts.RelativeReloc.{RelativeReloc}
use Rattle.mte_machine.specs.declared.machine.Machine.{Machine}
use Rattle.tag_mem.specs.declared.access.TagMemory.{Ghosts}
use Rattle.a64_code.specs.Outside.{Outside}
use Rattle.a64_code.specs.State.{State}
use Rattle.elf_image.specs.Image.{Image}
use Rattle.memtag_desc.specs.declared.interval.Interval.{Interval}
use Rattle.mte_machine.specs.Machine.{clear_flags, initial_state, state_of}
use Rattle.tag_startup.specs.Laws.TagLaws.{put_tags}
use Rattle.tag_startup.specs.Loaded.{loaded, loaded_byte}
use Rattle.tag_startup.specs.Memory.{IsMapped, IsTagged, IsStarted, IsStored, before, with_objects}
use Rattle.tag_startup.specs.Parts.{load_address, stack_end, loaded_guard, loaded_regions, file_byte}
use Rattle.tag_startup.specs.Relocated.{relocated_byte}
use Rattle.tag_startup.specs.Starts.{AreObjects}
use Rattle.tag_startup.specs.Tags.{choices_drawn, loaded_tag, tags_from}

-- the memory shows what an image with these objects has at its start
pub record IsLoaded {M : Type 0} (shown : Ghosts M) (memory : M) (image : Image) (intervals : List Interval) (choices : List ℕ)
    (stack : ℕ) : Type 0 where
  pub byte : shown.byte memory ≡ loaded_byte image stack (loaded_tag intervals choices)
  pub tags : shown.tags memory ≡ loaded_tag intervals choices
  pub regions : shown.regions memory ≡ loaded_regions image stack
  pub guard : shown.guard memory ≡ loaded_guard stack

tags_are : (tags : ℕ → ℕ) (image : Image) (intervals : List Interval) (choices : List ℕ) (first : ℕ) → AreObjects image intervals →
    ((granule : ℕ) → tags granule ≡ 0) → first ≡ base (slice_index choices 0) →
    with_objects tags first intervals ≡ loaded_tag intervals choices
unfolding loaded_tag
tags_are tags image intervals choices first are none is =
    put_tags tags first intervals image.descriptors are.described none ∙ ap (λ tag. tags_from tag intervals) is

same_before : (image : Image) (stack : ℕ) (byte tag other : ℕ → ℕ) (regions : List Extent) → byte ≡ file_byte image stack →
    regions ≡ loaded_regions image stack → tag ≡ other →
    relocated_byte (record { byte = byte; tag = tag; regions = regions }) image.relocs ≡ loaded_byte image stack other
unfolding loaded_byte
same_before image stack byte tag other regions bytes places tags =
    ap (λ b. relocated_byte (record { byte = b; tag = tag; regions = regions }) image.relocs) bytes
    ∙ ap₂ (λ t r. relocated_byte (record { byte = file_byte image stack; tag = t; regions = r }) image.relocs) tags places

-- memory that was mapped, tagged and relocated
pub filled : {M : Type 0} (shown : Ghosts M) (mapped tagged memory : M) (image : Image) (intervals : List Interval) (choices : List ℕ)
    (stack first : ℕ) → AreObjects image intervals → first ≡ base (slice_index choices 0) →
    IsMapped shown mapped image stack → IsTagged shown mapped tagged (with_objects (shown.tags mapped) first intervals) →
    IsStored shown tagged memory (relocated_byte (before shown tagged) image.relocs) →
    IsLoaded shown memory image intervals choices stack
filled shown mapped tagged memory image intervals choices stack first are is map tag store = record {
  byte = store.byte
      ∙ same_before image stack (shown.byte tagged) (shown.tags tagged) (loaded_tag intervals choices) (shown.regions tagged)
      (tag.byte ∙ map.byte) (tag.regions ∙ map.regions) tags;
  tags = store.tags ∙ tags;
  regions = store.regions ∙ tag.regions ∙ map.regions;
  guard = store.guard ∙ tag.guard ∙ map.guard;
}
  where
    tags : shown.tags tagged ≡ loaded_tag intervals choices
    tags = tag.tags ∙ tags_are (shown.tags mapped) image intervals choices first are map.tags is

pub started : {M : Type 0} (shown : Ghosts M) (memory : M) (image : Image) (intervals : List Interval) (choices : List ℕ)
    (stack pc drawn : ℕ) (w : Outside) → IsLoaded shown memory image intervals choices stack →
    pc ≡ (load_address + image.entry) % 2 ^ 64 → drawn ≡ choices_drawn intervals →
    initial_state shown memory pc stack_end choices drawn w ≡ loaded image intervals choices stack w
started shown memory image intervals choices stack pc drawn w is at_entry count =
    ap₂ (λ byte tag. of byte tag (shown.regions memory) (shown.guard memory) pc (drawn % length choices)) is.byte is.tags
    ∙ ap₂ (λ regions guard. of (loaded_byte image stack (loaded_tag intervals choices)) (loaded_tag intervals choices) regions guard pc
    (drawn % length choices)) is.regions is.guard
    ∙ ap₂ (λ n k. of (loaded_byte image stack (loaded_tag intervals choices)) (loaded_tag intervals choices) (loaded_regions image stack)
    (loaded_guard stack) n (k % length choices)) at_entry count
  where
    of : (ℕ → ℕ) → (ℕ → ℕ) → List Extent → Span → ℕ → ℕ → State
    of byte tag regions guard n drawn = record {
      register = λ _. 0;
      sp = stack_end;
      pc = n;
      flags = clear_flags;
      byte = byte;
      tag = tag;
      regions = regions;
      guard = guard;
      choices = choices;
      drawn = drawn;
      outside = w;
    }

-- a machine that was made of memory that was mapped, tagged and relocated
pub is_started : {M : Type 0} (shown : Ghosts M) (machine : Machine M) (mapped tagged memory : M) (image : Image)
    (objects slice third : List Interval) (relocs : List RelativeReloc) (choices taken : List ℕ) (stack first pc drawn : ℕ) →
    AreObjects image objects → slice ≡ objects → third ≡ objects → relocs ≡ image.relocs → taken ≡ choices →
    first ≡ base (slice_index choices 0) → IsMapped shown mapped image stack →
    IsTagged shown mapped tagged (with_objects (shown.tags mapped) first slice) →
    IsStored shown tagged memory (relocated_byte (before shown tagged) relocs) →
    pc ≡ (load_address + image.entry) % 2 ^ 64 → drawn ≡ choices_drawn third →
    ((w : Outside) → state_of shown machine w ≡ initial_state shown memory pc stack_end taken drawn w) →
    IsStarted shown machine image choices stack
is_started shown machine mapped tagged memory image objects slice third relocs choices taken stack first pc drawn are same also places
    took first_is map tag store at_entry count state = record {
      starts = record { intervals = objects; objects = are };
      state = λ w.
          state w
          ∙ ap (λ xs. initial_state shown memory pc stack_end xs drawn w) took
          ∙ started shown memory image objects choices stack pc drawn w is_loaded at_entry (count ∙ ap choices_drawn also);
    }
  where
    is_loaded : IsLoaded shown memory image objects choices stack
    is_loaded = filled shown mapped tagged memory image objects choices stack first are first_is map
        (subst (λ xs. IsTagged shown mapped tagged (with_objects (shown.tags mapped) first xs)) same tag)
        (subst (λ rs. IsStored shown tagged memory (relocated_byte (before shown tagged) rs)) places store)
