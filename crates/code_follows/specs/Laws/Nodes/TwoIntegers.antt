-- The code of each operator on two integers does what it means (this project's own).
use Rattle.std.specs.Prelude.{◌≡◌, ℕ, true, false, refl}
use Rattle.std.proofs.Common.{ap, subst, inl, inr}
use Rattle.std.proofs.lemmas.Bool.{cases_Bool}
use Rattle.c_ast.specs.declared.operator.BinaryOperator.{BinaryOperator}
use Rattle.c_type_base.specs.Types.{is_there, is_integer, is_pointer}
use Rattle.c_type_base.specs.declared.expr.TExpr.{TExpr}
use Rattle.c_type_base.specs.declared.expr.TNode.TheOpen.{TNode-F}
use Rattle.c_type_base.specs.declared.ty.Ty.{Ty}
use Rattle.block_meaning.specs.ExpressionsInOrder.{BinaryTypes, arithmetic, shift, comparison, added, added_to, taken, distance}
use Rattle.gen_laws.specs.Operations.{is_division}
use Rattle.code_follows.specs.Covered.{operates_in}
use Rattle.code_follows.specs.Parts.{ValueFollows, ValueNode}
use Rattle.code_follows.specs.Scene.{Scene, IsScene}
use Rattle.code_follows.specs.Laws.Nodes.Divided.{OnDivision, divisions_follow}
use Rattle.code_follows.specs.Laws.Nodes.Integers.{target-none}
use Rattle.code_follows.specs.Laws.Nodes.OnIntegers.{promoted-in, arithmetic-on, shift-on, comparison-on}
use Rattle.code_follows.specs.Laws.Nodes.Operated.{OnIntegers, integers_follow}
use Rattle.code_follows.specs.Laws.Temps.{waiting_laws}

no_pointer : {X : Type 0} (t : Ty) → is_integer t ≡ true → is_pointer t ≡ true → X
no_pointer t is other = let none : is_pointer t ≡ false = ap is_there (target-none t is) in absurd (cc)

-- an operator on two integers divides, or it does not
data IntegerRow (o : BinaryOperator) (s t u : Ty) : Type 0 where
  plain : OnIntegers o s t u → IntegerRow o s t u
  divides : OnDivision o s t → s ≡ u → IntegerRow o s t u

integer_row : {o : BinaryOperator} {s t u : Ty} → BinaryTypes o s t u → is_integer s ≡ true → is_integer t ≡ true →
    operates_in s t ≡ true → IntegerRow o s t u
integer_row {o} {s} (arithmetic group is) first second operates = elim (cases_Bool (is_division o)) [
  | inl division ↦
      divides
      (record { divides = division; first = first; second = second; promoted = promoted-in s s first second operates; one = refl })
      refl
  | inr undivided ↦ plain (arithmetic-on o s group undivided is operates)
]
integer_row {o} {s} {t} (shift group is its) first second operates = plain (shift-on o s t group is its operates)
integer_row {o} {s} (comparison group is) first second operates = plain (comparison-on o s group first operates)
integer_row {s = s} (added is its) first second operates = no_pointer s first is
integer_row {t = t} (added_to is its) first second operates = no_pointer t second its
integer_row {s = s} (taken is its) first second operates = no_pointer s first is
integer_row {s = s} (distance is) first second operates = no_pointer s first is

pub operated_integers : (k : Scene) → IsScene k → (depth : ℕ) (o : BinaryOperator) (a b : TExpr) (t : Ty) → ValueFollows k depth a →
    ValueFollows k depth b → BinaryTypes o a.ty b.ty t → is_integer a.ty ≡ true → is_integer b.ty ≡ true →
    operates_in a.ty b.ty ≡ true → ValueNode k depth t (TNode-F.Binary o a b)
operated_integers k scene depth o a b t one other types first second operates = by_row (integer_row types first second operates)
  where
    by_row : IntegerRow o a.ty b.ty t → ValueNode k depth t (TNode-F.Binary o a b)
    by_row (plain on) = integers_follow k scene (waiting_laws scene) depth o a b t one other on
    by_row (divides on same) =
        subst (λ u. ValueNode k depth u (TNode-F.Binary o a b)) same
        (divisions_follow k scene (waiting_laws scene) depth o a b one other on)
