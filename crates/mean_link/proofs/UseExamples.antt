-- Which externs given expressions refer to.
use Rattle.std.proofs.Common.{◌≡◌, refl, ℕ, [], ◌∷◌}
use Rattle.c_ast.specs.declared.int_type.IntType.TheVariants as int
use Rattle.c_ast.specs.declared.token.Span.{Span}
use Rattle.c_type_base.specs.Known.{texpr}
use Rattle.c_type_base.specs.Laws.Opened.{given_typed}
use Rattle.c_type_base.specs.declared.expr.Callee.TheVariants as callee
use Rattle.c_type_base.specs.declared.expr.TExpr.{TExpr}
use Rattle.c_type_base.specs.declared.expr.TNode.TheVariants as node
use Rattle.c_type_base.specs.declared.ty.Ty.TheVariants as ty
use Rattle.mean_link.specs.Uses.{expr_uses}
use Rattle.mean_link.specs.Laws.TreeUses.{said-uses, extern-uses, sizeof-uses, call-uses}

abbrev nowhere : Span
nowhere = record { start = 0; end = 0 }

-- x, of which the number is 1
abbrev x : TExpr
x = texpr nowhere (ty.Int int.Int) (node.Extern 1)

-- f(x), where the number of f is 0
abbrev call : TExpr
call = texpr nowhere (ty.Int int.Int) (node.Call (callee.Extern 0) (x ∷ []))

both_are_used : expr_uses call ≡ 0 ∷ 1 ∷ []
unfolding given_typed
both_are_used = rw (said-uses, call-uses, said-uses x, extern-uses) refl

-- sizeof f(x)
none_is_used : expr_uses (texpr nowhere (ty.Int int.ULong) (node.SizeofExpr call)) ≡ []
unfolding given_typed
none_is_used = rw (said-uses, sizeof-uses) refl
