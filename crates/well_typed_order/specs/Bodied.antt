-- The body of a function is a block, as the grammar has it (ISO C11 6.9.1).
use Rattle.std.specs.Prelude.{◌≡◌, List, Option, Some, None}
use Rattle.std.specs.List.{AllByRecursion}
use Rattle.c_ast.specs.declared.program.Function.{Function}
use Rattle.c_ast.specs.declared.program.External.{External}
use Rattle.c_ast.specs.declared.program.External.TheVariants as external
use Rattle.c_ast.specs.declared.program.Program.{Program}
use Rattle.c_ast.specs.declared.statement.Item.{Item}
use Rattle.c_ast.specs.declared.statement.Stmt.{Stmt}
use Rattle.c_ast.specs.declared.statement.Stmt.TheVariants as stmt

pub record IsBlock (s : Stmt) : Type 0 where
  pub items : List Item
  pub is : s ≡ stmt.Block items

abbrev pub BlockIfThere : Option Stmt → Type 0
BlockIfThere None = Unit {0}
BlockIfThere (Some s) = IsBlock s

abbrev pub PartBodied : External → Type 0
PartBodied (external.Function f) = BlockIfThere f.body
PartBodied _ = Unit {0}

-- so it is for each function of a file
abbrev pub Bodied : Program → Type 0
Bodied p = AllByRecursion PartBodied p.items
