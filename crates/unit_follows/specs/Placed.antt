-- The words of a file stand in memory, and what they name is where the placing says (this project's own).
use Rattle.std.specs.Prelude.{◌≡◌, ℕ, ◌+◌, ◌*◌, ◌<◌, ◌≤◌, false, length, slice_get, Option, Some, None}
use Rattle.mt_base.specs.Granules.{granule_of}
use Rattle.mt_base.specs.Memory.{load}
use Rattle.c_type_base.specs.declared.typed.Typed.{Typed}
use Rattle.a64_laws.specs.Laws.Effects.Open.{IsReadable}
use Rattle.block_meaning.specs.Linkage.{function_of, object_block, text_block, extern_block}
use Rattle.gen_unit.specs.declared.parts.CodeTarget.{CodeTarget}
use Rattle.gen_unit.specs.declared.parts.CodeTarget.TheVariants as target
use Rattle.gen_unit.specs.Units.{all_words, places_from}
use Rattle.gen_unit.specs.declared.parts.Place.{Place}
use Rattle.gen_unit.specs.Words.{got_page_kind}
use Rattle.code_relation.specs.Loaded.{on_stack, is_stack_granule, NoObjectAt, NoObjectIn}
use Rattle.code_relation.specs.Numbers.{number_at}
use Rattle.code_relation.specs.Sites.{Given, units_of}
use Rattle.code_runs.specs.Laws.CodeAt.{HasCode}
use Rattle.unit_follows.specs.Placing.{Placing, IsPlacing, IsWanted, filled}

-- so many bytes are none of the stack, and none of a file-scope object
pub record IsBeside (g : Given) (at bytes : ℕ) : Type 0 where
  pub off_stack : (a : ℕ) → at ≤ a → a < at + bytes → on_stack g a ≡ false
  pub off_objects : (a : ℕ) → at ≤ a → a < at + bytes → NoObjectAt g a

-- ---- words of the global offset table

-- the block of what a symbol names, where it is an object or a text
abbrev pub block_of_target : Given → ℕ → CodeTarget → Option ℕ
block_of_target g unit (target.Global n) = Some (object_block (units_of g) unit n)
block_of_target g unit (target.Text n) = Some (text_block (units_of g) unit n)
block_of_target g unit (target.Extern n) = extern_block (units_of g) unit n
block_of_target g unit _ = None

-- A word may be read, in a granule that is none of the stack and has no byte of a file-scope object. It is the number of a pointer.
pub record HasGot (g : Given) (p : Placing) (unit : ℕ) (t : CodeTarget) : Type 0 where
  pub readable : IsReadable g.loaded (p.got t) 8
  pub off_stack : is_stack_granule g (granule_of (p.got t)) ≡ false
  pub off_objects : NoObjectIn g (granule_of (p.got t))
  pub number : (block : ℕ) → block_of_target g unit t ≡ Some block → load 8 g.loaded.byte (p.got t) ≡ number_at (g.starts block) 0

-- ---- the whole

-- The filled words of a file stand in memory, beside the stack and all objects. Its functions are where they stand among the words.
pub record IsPlacedFile (g : Given) (p : Placing) (unit : ℕ) : Type 0 where
  pub file : Typed
  pub file_is : slice_get (units_of g) unit ≡ Some file
  pub placing : IsPlacing g p unit (all_words file.structs file.functions)
  pub stand : HasCode g.loaded p.words (filled g p unit p.words (all_words file.structs file.functions))
  pub beside : IsBeside g p.words (4 * length (all_words file.structs file.functions))
  pub functions : (n : ℕ) (place : Place) → slice_get (places_from file.structs 0 file.functions) n ≡ Some place →
      p.function (function_of unit n) ≡ p.words + place.start
  pub gots : (t : CodeTarget) → IsWanted (all_words file.structs file.functions) got_page_kind t → HasGot g p unit t
