-- Programs of well-typed files: each typed file has a text that keeps all rules, with blocks as bodies, each function has a frame, and the
-- names that are used are linked (ISO C11 5.1.2.2.1, 6.9).
use Rattle.std.specs.Prelude.{◌≡◌, ℕ, Some, slice_get}
use Rattle.c_ast.specs.declared.program.Program as tree
use Rattle.c_type_base.specs.declared.typed.Typed.{Typed}
use Rattle.c_types.specs.WellTyped.{WellTyped}
use Rattle.block_meaning.specs.Running.{Program}
use Rattle.well_typed_order.specs.Bodied.{Bodied}
use Rattle.well_typed_order.specs.Links.{Links, Framed}

-- the text of a typed file
pub record FileOf (u : Typed) : Type 0 where
  pub text : tree.Program
  pub well : WellTyped text u
  pub bodied : Bodied text

pub record WellTypedProgram (program : Program) : Type 0 where
  pub files : (unit : ℕ) (u : Typed) → slice_get program.units unit ≡ Some u → FileOf u
  pub frames : Framed program
  pub links : Links program.units
