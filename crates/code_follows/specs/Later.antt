-- Later states of the meaning: what no run changes of blocks and calls (this project's own).
use Rattle.std.specs.Prelude.{◌≡◌, ℕ, ◌<◌, List, ◌++◌, slice_get, Some}
use Rattle.std.specs.List.{All}
use Rattle.block_meaning.specs.Blocks.{Block}
use Rattle.block_meaning.specs.Laws.Steady.{state_after}
use Rattle.block_meaning.specs.Running.{Call, Goes, Run, State as MeaningState}

-- a block of this number is there, of the same kind and size
pub record StaysAt (number : ℕ) (b : Block) (blocks : List Block) : Type 0 where
  pub block : Block
  pub is : slice_get blocks number ≡ Some block
  pub kind_is : block.kind ≡ b.kind
  pub size_is : block.size ≡ b.size

-- each block keeps its number, kind and size
pub record AllStay (before after : List Block) : Type 0 where
  pub stays : (number : ℕ) (b : Block) → slice_get before number ≡ Some b → StaysAt number b after

abbrev pub AreBytes : List ℕ → Type 0
AreBytes = All (λ byte. byte < 256)

-- And each call keeps its number: new ones come behind those that were made. Of an input of bytes bytes are left.
pub record IsLater (now later : MeaningState) : Type 0 where
  pub blocks : AllStay now.blocks later.blocks
  pub new_calls : List Call
  pub calls_are : later.calls ≡ now.calls ++ new_calls
  pub input : AreBytes now.input → AreBytes later.input

-- from each state a run leads to a later one
pub record Lasts {A : Type 0} (m : Run A) : Type 0 where
  pub leads : (now : MeaningState) → IsLater now (state_after (m now))

-- a run completes, with a value, in another state
pub record Ran {A : Type 0} (m : Run A) (now : MeaningState) (a : A) (later : MeaningState) : Type 0 where
  pub is : m now ≡ Goes a later
