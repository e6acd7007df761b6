-- Words and instructions by the table alone.
use Rattle.std.specs.Prelude.{◌≡◌, ℕ, ◌+◌, List, Some, length}
use Rattle.std.specs.List.{slice_get}
use Rattle.a64_code.specs.declared.instr.Instr.{Instr}
use Rattle.a64_code.specs.Field.{AllFit, placed}
use Rattle.a64_code.specs.Entry.{Form, made}
use Rattle.a64_code.specs.Table.{row}
use Rattle.a64_code.specs.Decoded.{forms}

-- Some row of the table has values within its fields, is the word with them, and makes the instruction of them. It is `Row`, as
-- the law `Row-some_row` says.
pub record SomeRow (word : ℕ) (instr : Instr) : Type 0 where
  pub form : Form
  pub place : ℕ
  pub listed : slice_get forms place ≡ Some form
  pub values : List ℕ
  pub whole : length values ≡ length form.line.places
  pub within : AllFit (row form values).fields
  pub spelled : word ≡ (row form values).base + placed (row form values).fields
  pub makes : made form values ≡ instr
