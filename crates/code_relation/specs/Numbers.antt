-- The numbers that the machine has for pointers and values (this project's own).
use Rattle.std.specs.Prelude.{◌≡◌, ℕ, ◌+◌, ◌*◌, ◌%◌, ◌^◌, ◌<◌, slice_get, Some}
use Rattle.block_meaning.specs.declared.value.Pointer.{Pointer}
use Rattle.block_meaning.specs.declared.value.Value.{Value}
use Rattle.block_meaning.specs.declared.value.Value.TheVariants.{Number, Address, Struct, NoValue}
use Rattle.block_meaning.specs.Blocks.{Block}
use Rattle.block_meaning.specs.Running.{State as MeaningState}
use Rattle.code_relation.specs.Sites.{Site, Given, site_of}

-- the number of a pointer so many bytes into what lies at a site
abbrev pub number_at : Site → ℕ → ℕ
number_at s offset = (s.start + s.tag * 2 ^ 56 + offset) % 2 ^ 64

-- the number of a pointer, which is one of a block that is there
pub record IsNumber (g : Given) (now : MeaningState) (p : Pointer) (n : ℕ) : Type 0 where
  pub block : Block
  pub is : slice_get now.blocks p.block ≡ Some block
  pub fits : p.offset < 2 ^ 64
  pub number : n ≡ number_at (site_of g now p.block block) p.offset

-- A register holds a value: an integer, which the meaning has modulo 2^64, or a pointer's number. A struct is where it stands.
abbrev pub Holds : Given → MeaningState → Value → ℕ → Type 0
Holds g now (Number m) n = n ≡ m
Holds g now (Address p) n = IsNumber g now p n
Holds g now (Struct p) n = IsNumber g now p n
Holds g now NoValue n = Unit {0}
