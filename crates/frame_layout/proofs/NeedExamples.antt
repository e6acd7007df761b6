-- The words that given expressions need.
use Rattle.std.proofs.Common.{◌≡◌, refl, ℕ, [], ◌∷◌}
use Rattle.c_ast.specs.declared.token.Span.{Span}
use Rattle.c_ast.specs.declared.int_type.IntType.TheVariants as int
use Rattle.c_ast.specs.declared.operator.BinaryOperator.TheVariants as binary
use Rattle.c_type_base.specs.Laws.Opened.{given_typed}
use Rattle.c_type_base.specs.declared.ty.Ty.TheVariants as ty
use Rattle.c_type_base.specs.declared.expr.TExpr.{TExpr}
use Rattle.c_type_base.specs.declared.expr.Callee.TheVariants as callee
use Rattle.c_type_base.specs.declared.expr.TNode.TheVariants as node
use Rattle.c_type_base.specs.Known.{texpr}
use Rattle.frame_layout.specs.Needs.{need}
use Rattle.frame_layout.specs.Laws.NeedLaws.{need-expression, need-constant, need-binary, need-call}

abbrev nowhere : Span
nowhere = record { start = 0; end = 0 }

abbrev number : ℕ → TExpr
number n = texpr nowhere (ty.Int int.Int) (node.Constant n int.Int)

-- f(2)
abbrev call : TExpr
call = texpr nowhere (ty.Int int.Int) (node.Call (callee.Function 0) (number 2 ∷ []))

-- the argument waits for the call
call_needs_one : need call ≡ 1
unfolding given_typed
call_needs_one = rw (need-expression, need-call, need-expression, need-constant) refl

-- 1 + f(2): the 1 waits while the call is evaluated
sum_needs_two : need (texpr nowhere (ty.Int int.Int) (node.Binary binary.Add (number 1) call)) ≡ 2
unfolding given_typed
sum_needs_two =
    rw (
      need-expression,
      need-binary,
      need-expression (number 1),
      need-constant,
      need-expression,
      need-call,
      need-expression,
      need-constant,
    ) refl

-- 1 && f(2): nothing waits
logical_needs_one : need (texpr nowhere (ty.Int int.Int) (node.Binary binary.And (number 1) call)) ≡ 1
unfolding given_typed
logical_needs_one =
    rw (
      need-expression,
      need-binary,
      need-expression (number 1),
      need-constant,
      need-expression,
      need-call,
      need-expression,
      need-constant,
    ) refl
