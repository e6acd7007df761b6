-- The code of each operator on two values, but for `&&` and `||`, does what it means (this project's own).
use Rattle.std.specs.Prelude.{◌≡◌, ℕ, true}
use Rattle.c_ast.specs.declared.operator.BinaryOperator.{BinaryOperator}
use Rattle.c_type_base.specs.declared.expr.TExpr.{TExpr}
use Rattle.c_type_base.specs.declared.expr.TNode.TheOpen.{TNode-F}
use Rattle.c_type_base.specs.declared.ty.Ty.{Ty}
use Rattle.block_meaning.specs.ExpressionsInOrder.{BinaryTypes}
use Rattle.code_follows.specs.Covered.{operates_in}
use Rattle.code_follows.specs.Parts.{ValueFollows, ValueNode}
use Rattle.code_follows.specs.Scene.{Scene, IsScene}
use Rattle.code_follows.specs.Laws.Nodes.PointersOperated.{operated_on}
use Rattle.code_follows.specs.Laws.Nodes.TwoIntegers.{operated_integers}
use Rattle.code_follows.specs.Laws.Temps.{waiting_laws}

pub operated_follows : (k : Scene) → IsScene k → (depth : ℕ) (o : BinaryOperator) (a b : TExpr) (t : Ty) → ValueFollows k depth a →
    ValueFollows k depth b → BinaryTypes o a.ty b.ty t → operates_in a.ty b.ty ≡ true → ValueNode k depth t (TNode-F.Binary o a b)
operated_follows k scene depth o a b t first second types operates =
    operated_on k scene (waiting_laws scene) depth o a b t first second types
    (λ is its. operated_integers k scene depth o a b t first second types is its operates)
