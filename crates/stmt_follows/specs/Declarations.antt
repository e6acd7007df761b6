-- Declarations that code follows (this project's own): where there is an initialiser, the local is a scalar.
use Rattle.std.specs.Prelude.{◌≡◌, true, slice_get, Some, IfSome}
use Rattle.block_meaning.specs.Expressions.{ExprParts}
use Rattle.block_meaning.specs.ExpressionsInOrder.{Scope, ValueInOrder}
use Rattle.c_type_base.specs.Types.{is_scalar}
use Rattle.c_type_base.specs.declared.expr.TExpr.{TExpr}
use Rattle.c_type_base.specs.declared.statement.TDecl.{TDecl}
use Rattle.c_type_base.specs.declared.statement.TInit.{TInit, out-TInit}
use Rattle.c_type_base.specs.declared.statement.TInit.TheOpen.{TInit-F}
use Rattle.c_type_base.specs.declared.typed.LocalInfo.{LocalInfo}
use Rattle.code_follows.specs.Scene.{Scene}
use Rattle.stmt_follows.specs.Expressions.{ValueRuns}

-- an initialiser of a scalar local is an expression of its type
pub record ScalarInit (s : Scope) (d : TDecl) (i : TInit) : Type 0 where
  pub e : TExpr
  pub is : out-TInit i ≡ TInit-F.One e
  pub info : LocalInfo
  pub info_is : slice_get s.function.locals d.local ≡ Some info
  pub type_is : info.ty ≡ e.ty
  pub scalar : is_scalar e.ty ≡ true
  pub in_order : ValueInOrder s e

-- and the expression's code does what it means
pub record InitRuns (k : Scene) (parts : ExprParts) (d : TDecl) (i : TInit) : Type 0 where
  pub init : ScalarInit k.scope d i
  pub runs : ValueRuns k parts init.e

-- a declaration has no initialiser, or such a one
pub record DeclarationRuns (k : Scene) (parts : ExprParts) (d : TDecl) : Type 0 where
  pub init : IfSome d.init (λ i. InitRuns k parts d i)
