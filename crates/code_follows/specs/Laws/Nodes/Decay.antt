-- An array in an expression is a pointer to its first element, which stands where the array does (ISO C11 6.3.2.1).
use Rattle.std.specs.Prelude.{◌≡◌, ℕ, Some, refl}
use Rattle.std.proofs.Common.{arith}
use Rattle.c_type_base.specs.Laws.Opened.{given_types}
use Rattle.c_type_base.specs.Types.{element_of}
use Rattle.c_type_base.specs.declared.expr.TExpr.{TExpr}
use Rattle.c_type_base.specs.declared.expr.TNode.TheOpen.{TNode-F}
use Rattle.c_type_base.specs.declared.ty.Ty.{Ty}
use Rattle.c_type_base.specs.declared.ty.Ty.TheVariants as ty
use Rattle.block_meaning.specs.declared.value.Pointer.{Pointer}
use Rattle.block_meaning.specs.declared.value.Value.TheVariants.{Address}
use Rattle.code_follows.specs.Parts.{PlaceFollows, ValueNode}
use Rattle.code_follows.specs.Scene.{Scene, IsScene}
use Rattle.code_follows.specs.Values.{IsOfType}
use Rattle.code_follows.specs.Laws.Coming.{pays-some}
use Rattle.code_follows.specs.Laws.Going.{Goes-part, Goes-done, Part-by}

pub address_of : (t : Ty) (p : Pointer) → IsOfType (ty.Pointer t) (Address p)
unfolding given_types
address_of t p = tt

pub decay_follows : (k : Scene) → IsScene k → (depth : ℕ) (e : TExpr) (t : Ty) → PlaceFollows k depth e → element_of e.ty ≡ Some t →
    ValueNode k depth (ty.Pointer t) (TNode-F.Decay e)
decay_follows k scene depth e t follows of = record {
  at = λ span around. record {
    part = Part-by (λ first reg from to free lies a now s on.
        Goes-part (follows.part.place.yields first reg from to free lies) (omega arith) (λ alone. (refl, alone)) (pays-some scene) on
        (λ p then u n came gave. Goes-done (Address p) came (omega arith)
        (record { of = address_of t p; holds = gave.result_is.is })));
  };
}
