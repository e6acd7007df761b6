-- The states that a meaning goes through: where its blocks, its calls and the scope of its locals agree (this project's own).
use Rattle.std.specs.Prelude.{◌≡◌, ℕ, true, List, [], ◌∷◌, length, slice_get, Option, Some}
use Rattle.c_type_base.specs.declared.typed.LocalInfo.{LocalInfo}
use Rattle.c_type_base.specs.declared.typed.TFunction.{TFunction}
use Rattle.c_type_base.specs.declared.typed.Typed.{Typed}
use Rattle.c_type_base.specs.Sizes.{size}
use Rattle.block_meaning.specs.declared.kind.Kind.TheVariants.{NullBlock, Local}
use Rattle.block_meaning.specs.Blocks.{Block, null_block}
use Rattle.block_meaning.specs.Linkage.{structs_of, function_named}
use Rattle.block_meaning.specs.Opening.{opening}
use Rattle.block_meaning.specs.Running.{Function, Call, Context, State as MeaningState}
use Rattle.block_meaning.specs.Locals.{latest}
use Rattle.code_relation.specs.Sites.{Given, units_of, Lives, is_of_file}

-- a function is there
pub record IsThere (units : List Typed) (f : Function) : Type 0 where
  pub function : TFunction
  pub is : function_named units f ≡ Some function

-- the open calls are among all calls, by their numbers, and their functions are there
abbrev pub AreCalls : List Typed → List Call → List Call → Type 0
AreCalls units calls [] = Unit {0}
AreCalls units calls (c ∷ cs) = (slice_get calls c.number ≡ Some c) × IsThere units c.function × AreCalls units calls cs

-- a block is that of a local of some call, and has the bytes of its type
pub record IsLocal (g : Given) (now : MeaningState) (b : Block) (call k : ℕ) : Type 0 where
  pub made_by : Call
  pub call_is : slice_get now.calls call ≡ Some made_by
  pub function : TFunction
  pub function_is : function_named (units_of g) made_by.function ≡ Some function
  pub info : LocalInfo
  pub info_is : slice_get function.locals k ≡ Some info
  pub size_is : b.size ≡ size (structs_of (units_of g) made_by.function.unit) info.ty

-- what the number of a local stands for in a call: a live block of its own
pub record IsInScope (now : MeaningState) (call : Option Call) (k number : ℕ) : Type 0 where
  pub of : Call
  pub call_is : call ≡ Some of
  pub block : Block
  pub lives : Lives now number block
  pub kind_is : block.kind ≡ Local of.number k

-- a block of a file is as it was before the call of `main`, but for its cells
pub record IsAsOpened (now : MeaningState) (number : ℕ) (before : Block) : Type 0 where
  pub block : Block
  pub lives : Lives now number block
  pub kind_is : block.kind ≡ before.kind
  pub size_is : block.size ≡ before.size

-- a block was there before the call of `main`
pub record WasOpened (g : Given) (number : ℕ) (b : Block) : Type 0 where
  pub before : Block
  pub is : slice_get (opening (units_of g)) number ≡ Some before
  pub kind_is : b.kind ≡ before.kind
  pub size_is : b.size ≡ before.size

-- A state of the meaning, with the context in which something runs there.
pub record Stands (g : Given) (here : Context) (now : MeaningState) : Type 0 where
  pub program_is : here.program ≡ g.program
  -- calls are numbered as they were made
  pub numbers : (number : ℕ) (c : Call) → slice_get now.calls number ≡ Some c → c.number ≡ number
  pub calls : AreCalls (units_of g) now.calls here.open_calls
  pub unit_is : (c : Call) → latest here.open_calls ≡ Some c → here.unit ≡ c.function.unit
  pub scope : (k number : ℕ) → here.local k ≡ Some number → IsInScope now (latest here.open_calls) k number
  -- a local of the latest call lives only while it is in scope
  pub in_scope : (c : Call) (number : ℕ) (b : Block) (k : ℕ) → latest here.open_calls ≡ Some c → Lives now number b →
      b.kind ≡ Local c.number k → here.local k ≡ Some number
  pub null_is : slice_get now.blocks 0 ≡ Some null_block
  -- no other block is one
  pub null_alone : (number : ℕ) (b : Block) → slice_get now.blocks number ≡ Some b → b.kind ≡ NullBlock → number ≡ 0
  pub opened : (number : ℕ) (b : Block) → slice_get (opening (units_of g)) number ≡ Some b → IsAsOpened now number b
  pub of_files : (number : ℕ) (b : Block) → slice_get now.blocks number ≡ Some b → is_of_file b.kind ≡ true → WasOpened g number b
  pub locals : (number : ℕ) (b : Block) (call k : ℕ) → slice_get now.blocks number ≡ Some b → b.kind ≡ Local call k →
      IsLocal g now b call k
  pub cells : (number : ℕ) (b : Block) → Lives now number b → length b.cells ≡ b.size
