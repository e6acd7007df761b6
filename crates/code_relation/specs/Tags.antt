-- The tags of memory, and what of memory is as it was loaded (this project's own).
use Rattle.std.specs.Prelude.{◌≡◌, ◌≢◌, ℕ, true, false}
use Rattle.mt_base.specs.Granules.{granule_of}
use Rattle.a64_code.specs.State.{State}
use Rattle.block_meaning.specs.Blocks.{Block}
use Rattle.block_meaning.specs.Running.{State as MeaningState}
use Rattle.code_relation.specs.Loaded.{on_stack, is_stack_granule, NoObjectAt, NoObjectIn}
use Rattle.code_relation.specs.Sites.{Given, Lives, site_of, has_byte, is_tagged_block}

-- no live tagged block has a byte in a granule
abbrev pub NoTaggedIn : Given → MeaningState → ℕ → Type 0
NoTaggedIn g now granule = (number : ℕ) (b : Block) → Lives now number b → is_tagged_block g now.calls b.kind ≡ true → (a : ℕ) →
    has_byte g now number b a ≡ true → granule_of a ≢ granule

pub record HasTags (g : Given) (now : MeaningState) (s : State) : Type 0 where
  -- the granules of a live tagged block have its tag, and all others of the stack, below SP too, have tag 0
  pub of_blocks : (number : ℕ) (b : Block) → Lives now number b → is_tagged_block g now.calls b.kind ≡ true → (a : ℕ) →
      has_byte g now number b a ≡ true → s.tag (granule_of a) ≡ (site_of g now number b).tag
  pub of_others : (granule : ℕ) → is_stack_granule g granule ≡ true → NoTaggedIn g now granule → s.tag granule ≡ 0
  -- outside the stack they are as they were loaded, and 0 where no file-scope object has a byte
  pub outside : (granule : ℕ) → is_stack_granule g granule ≡ false → s.tag granule ≡ g.loaded.tag granule
  pub without_object : (granule : ℕ) → is_stack_granule g granule ≡ false → NoObjectIn g granule → s.tag granule ≡ 0

-- what is as it was loaded: regions with their rights, the guard, and bytes outside the stack that belong to no file-scope object
pub record IsAsLoaded (g : Given) (s : State) : Type 0 where
  pub regions : s.regions ≡ g.loaded.regions
  pub guard : s.guard ≡ g.loaded.guard
  pub bytes : (a : ℕ) → on_stack g a ≡ false → NoObjectAt g a → s.byte a ≡ g.loaded.byte a
