-- The numbers of the first blocks of files.
use Rattle.std.specs.Prelude.{◌≡◌, ℕ, List, length, slice_get, Some}
use Rattle.c_type_base.specs.declared.typed.Typed.{Typed}
use Rattle.block_meaning.specs.Linkage.{object_block, text_block, code_block}
use Rattle.mean_start.specs.declared.starts.Starts.{Starts}

-- those of the file of a number
pub record IsStart (s : Starts) (units : List Typed) (unit : ℕ) : Type 0 where
  pub objects : s.objects ≡ object_block units unit 0
  pub texts : s.texts ≡ text_block units unit 0
  pub functions : s.functions ≡ code_block units unit 0

-- those of each file
pub record AreStarts (starts : List Starts) (units : List Typed) : Type 0 where
  pub count : length starts ≡ length units
  pub each : (unit : ℕ) (s : Starts) → slice_get starts unit ≡ Some s → IsStart s units unit
