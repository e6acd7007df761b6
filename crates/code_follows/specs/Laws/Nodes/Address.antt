-- The code of `&` does what it means: the place is the value (ISO C11 6.5.3.2), and a NOP pays for it.
use Rattle.std.specs.Prelude.{ℕ}
use Rattle.std.proofs.Common.{arith}
use Rattle.c_ast.specs.declared.operator.UnaryOperator.TheVariants as unary
use Rattle.c_type_base.specs.declared.expr.TExpr.{TExpr}
use Rattle.c_type_base.specs.declared.expr.TNode.TheOpen.{TNode-F}
use Rattle.c_type_base.specs.declared.ty.Ty.TheVariants as ty
use Rattle.block_meaning.specs.declared.value.Value.TheVariants.{Address}
use Rattle.code_follows.specs.Leaves.{value_leaves}
use Rattle.code_follows.specs.Parts.{PlaceFollows, ValueNode}
use Rattle.code_follows.specs.Scene.{Scene, IsScene}
use Rattle.code_follows.specs.Laws.Nodes.Decay.{address_of}
use Rattle.code_follows.specs.Laws.Paying.{IsNumber-spent, Part-paid}

pub address_follows : (k : Scene) → IsScene k → (depth : ℕ) (e : TExpr) → PlaceFollows k depth e →
    ValueNode k depth (ty.Pointer e.ty) (TNode-F.Unary unary.AddressOf e)
address_follows k scene depth e follows = record {
  at = λ span around. record {
    part = Part-paid value_leaves (λ p. Address p) scene (omega arith)
        (λ p now n is. record { of = address_of e.ty p; holds = IsNumber-spent is.is }) follows.part.place;
  };
}
