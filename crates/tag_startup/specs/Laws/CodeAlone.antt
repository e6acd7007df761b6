-- An image that is code alone starts. Its memory is its file, without tags, and no choice is drawn.
use Rattle.std.proofs.Common.{◌≡◌, ℕ, ◌+◌, ◌%◌, ◌^◌, List, [], length, None, refl, ap, ap₂, subst, sym, ◌∙◌}
use Rattle.std.proofs.Math.Nat.{zero-mod}
use Rattle.a64_code.specs.Outside.{Outside}
use Rattle.a64_code.specs.State.{State}
use Rattle.elf_image.specs.Image.{Image}
use Rattle.memtag_desc.specs.Descriptors.{Describes, nothing}
use Rattle.mte_machine.specs.Machine.{clear_flags}
use Rattle.tag_startup.specs.Laws.PlaceLaws.{no_relocations}
use Rattle.tag_startup.specs.Laws.TagLaws.{no_tags}
use Rattle.tag_startup.specs.Loaded.{before_relocations, loaded, loaded_byte}
use Rattle.tag_startup.specs.Parts.{load_address, stack_end, loaded_regions, loaded_guard, file_byte}
use Rattle.tag_startup.specs.Relocated.{relocated_byte}
use Rattle.tag_startup.specs.Starts.{Starts, first_outside}
use Rattle.tag_startup.specs.Tags.{loaded_tag}

-- the image has no relocation, no tagged object and no data
pub record HoldsCodeAlone (image : Image) : Type 0 where
  pub relocs : image.relocs ≡ []
  pub descriptors : image.descriptors ≡ []
  pub rodata : image.rodata ≡ []
  pub filled : image.filled ≡ []
  pub zero_bytes : image.zero_bytes ≡ 0

none_outside : (image : Image) → image.relocs ≡ [] → first_outside image [] ≡ None
unfolding first_outside
none_outside image none = rw none refl

pub code_alone_starts : (image : Image) → HoldsCodeAlone image → Starts image
code_alone_starts image alone = record {
  intervals = [];
  objects = record {
    described = subst (Describes []) (sym alone.descriptors) (nothing 0);
    inside = none_outside image alone.relocs;
  };
}

bytes_same : (image : Image) (stack : ℕ) (tag : ℕ → ℕ) → image.relocs ≡ [] → loaded_byte image stack tag ≡ file_byte image stack
unfolding loaded_byte
bytes_same image stack tag none =
    ap (relocated_byte (before_relocations image stack tag)) none ∙ no_relocations (before_relocations image stack tag)

-- its first state
pub code_alone_loaded : (image : Image) (choices : List ℕ) (stack : ℕ) (outside : Outside) → HoldsCodeAlone image →
    loaded image [] choices stack outside ≡ record {
      register = λ _. 0;
      sp = stack_end;
      pc = (load_address + image.entry) % 2 ^ 64;
      flags = clear_flags;
      byte = file_byte image stack;
      tag = λ _. 0;
      regions = loaded_regions image stack;
      guard = loaded_guard stack;
      choices = choices;
      drawn = 0;
      outside = outside;
    }
code_alone_loaded image choices stack outside alone =
    ap₂ (λ byte tag. of byte tag (0 % length choices)) (bytes_same image stack (loaded_tag [] choices) alone.relocs) (no_tags choices)
    ∙ ap (of (file_byte image stack) (λ _. 0)) (zero-mod (length choices))
  where
    of : (ℕ → ℕ) → (ℕ → ℕ) → ℕ → State
    of byte tag drawn = record {
      register = λ _. 0;
      sp = stack_end;
      pc = (load_address + image.entry) % 2 ^ 64;
      flags = clear_flags;
      byte = byte;
      tag = tag;
      regions = loaded_regions image stack;
      guard = loaded_guard stack;
      choices = choices;
      drawn = drawn;
      outside = outside;
    }
