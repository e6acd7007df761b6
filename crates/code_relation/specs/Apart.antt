-- Live blocks share no byte, and a tagged one shares no granule (this project's own).
use Rattle.std.specs.Prelude.{◌≡◌, ◌≢◌, ℕ, true}
use Rattle.mt_base.specs.Granules.{granule_of}
use Rattle.block_meaning.specs.Blocks.{Block}
use Rattle.block_meaning.specs.Running.{State as MeaningState}
use Rattle.code_relation.specs.Sites.{Given, Lives, has_byte, is_tagged_block}

-- two different blocks, both alive
pub record AreTwo (now : MeaningState) (i j : ℕ) (b c : Block) : Type 0 where
  pub different : i ≢ j
  pub first : Lives now i b
  pub second : Lives now j c

pub record AreApart (g : Given) (now : MeaningState) : Type 0 where
  pub bytes : (i j : ℕ) (b c : Block) → AreTwo now i j b c → (a : ℕ) → has_byte g now i b a ≡ true → has_byte g now j c a ≡ true → ⊥
  -- no granule of a tagged one holds a byte of the other
  pub granules : (i j : ℕ) (b c : Block) → AreTwo now i j b c → is_tagged_block g now.calls b.kind ≡ true → (x y : ℕ) →
      has_byte g now i b x ≡ true → has_byte g now j c y ≡ true → granule_of x ≢ granule_of y
