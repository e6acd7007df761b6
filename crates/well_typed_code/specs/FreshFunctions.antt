-- Functions whose locals are new: each scope in the body declares numbers that are not in scope round it, and each only once (this
-- project's own).
use Rattle.std.specs.Prelude.{◌≡◌, ℕ, List, ◌++◌, take}
use Rattle.c_type_base.specs.declared.statement.TItem.{TItem}
use Rattle.c_type_base.specs.declared.statement.TItem.TheOpen.{TStmt-F}
use Rattle.c_type_base.specs.declared.statement.TStmt.{out-TStmt}
use Rattle.c_type_base.specs.declared.typed.TFunction.{TFunction}
use Rattle.block_meaning.specs.ProgramsInOrder.{numbered}
use Rattle.block_meaning.specs.Statements.{declared}
use Rattle.code_relation.specs.Fresh.{AreNew, FreshItems}

-- the numbers of a function's parameters
abbrev pub parameters_of : TFunction → List ℕ
parameters_of f = numbered 0 (take f.params f.locals)

-- The body is a block. What it declares is new beside the parameters, and so it is in each scope inside.
pub record FreshFunction (f : TFunction) : Type 0 where
  pub items : List TItem
  pub body_is : out-TStmt f.body ≡ TStmt-F.Block items
  pub new : AreNew (parameters_of f) (declared items)
  pub fresh : FreshItems (declared items ++ parameters_of f) items
