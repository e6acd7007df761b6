-- The code of `*` does what it means: the value is the place (ISO C11 6.5.3.2). A NOP pays for it, or the instruction that comes next.
use Rattle.std.specs.Prelude.{◌≡◌, ℕ, true, Some, refl}
use Rattle.std.proofs.Common.{arith}
use Rattle.c_ast.specs.declared.operator.UnaryOperator.TheVariants as unary
use Rattle.c_type_base.specs.Types.{TyLayer, target_of, target_of_level}
use Rattle.c_type_base.specs.declared.expr.TExpr.{TExpr}
use Rattle.c_type_base.specs.declared.expr.TNode.TheOpen.{TNode-F}
use Rattle.c_type_base.specs.declared.ty.Ty.{Ty, out-Ty}
use Rattle.c_type_base.specs.declared.ty.Ty.TheOpen.{Ty-F}
use Rattle.block_meaning.specs.declared.value.Value.{Value}
use Rattle.block_meaning.specs.declared.value.Value.TheVariants.{Address}
use Rattle.block_meaning.specs.Running.{Result as Result', Goes, Stops, Run, gives, goes_on, unit_gives, and_then, State as MeaningState}
use Rattle.block_meaning.specs.Values.{pointer_in}
use Rattle.code_relation.specs.Numbers.{IsNumber, Holds}
use Rattle.code_relation.specs.Sites.{Given}
use Rattle.code_follows.specs.Leaves.{place_leaves}
use Rattle.code_follows.specs.Parts.{owed, ValueFollows, PlaceNode}
use Rattle.code_follows.specs.Scene.{Scene, IsScene}
use Rattle.code_follows.specs.Values.{IsOfLevel, ValueIs, PlaceIs}
use Rattle.code_follows.specs.Laws.Coming.{pays-some}
use Rattle.code_follows.specs.Laws.Going.{Goes-part, Goes-done, Part-by}
use Rattle.code_follows.specs.Laws.Paying.{IsNumber-spent, Part-paid}

pointer_level : (g : Given) (now : MeaningState) (l : TyLayer) (t : Ty) (v : Value) (n : ℕ) → target_of_level l ≡ Some t → IsOfLevel l v →
    Holds g now v n → IsNumber g now (pointer_in v) n
pointer_level g now (Ty-F.Pointer u) t (Address p) n is of holds = holds
pointer_level g now (Ty-F.Pointer u) t _ n is of holds = absurd of
pointer_level g now _ t v n is of holds = absurd (cc)

-- a pointer is the place of what it points to
pub PlaceIs-value : {g : Given} {now : MeaningState} (s t : Ty) (v : Value) (n : ℕ) → target_of s ≡ Some t → ValueIs g s v now n →
    PlaceIs g (pointer_in v) now n
PlaceIs-value {g} {now} s t v n is value = record { is = pointer_level g now (out-Ty s) t v n is value.of value.holds }

-- a unit of work may be seen apart from what comes before it
owed_apart : {A B : Type 0} (f : A → B) (m : Run A) (now : MeaningState) →
    and_then m (λ x. unit_gives (f x)) now ≡ and_then (and_then m (λ x. gives (f x))) (owed true) now
owed_apart {A} {B} f m now = by_result (m now)
  where
    by_result : (r : Result' A) → goes_on r (λ x. unit_gives (f x)) ≡ goes_on (goes_on r (λ x. gives (f x))) (owed true)
    by_result (Goes a then) = refl
    by_result (Stops why then) = refl

pub target_follows : (k : Scene) → IsScene k → (depth : ℕ) (e : TExpr) (t : Ty) → ValueFollows k depth e → target_of e.ty ≡ Some t →
    PlaceNode k depth t (TNode-F.Unary unary.Dereference e)
target_follows k scene depth e t follows of =
    let value = (follows.around e.span).part in
    record {
      at = λ span. record {
        place = Part-paid place_leaves (λ v. pointer_in v) scene (omega arith)
            (λ v now n is. record { is = IsNumber-spent (PlaceIs-value e.ty t v n of is).is }) value;
        pointer = record {
          owes = true;
          first = and_then _ (λ v. gives (pointer_in v));
          run_is = owed_apart (λ v. pointer_in v) _;
          part = Part-by (λ first reg from to free lies a now s on.
              Goes-part (value.yields first reg from to free lies) (omega arith) (λ alone. (refl, alone)) (pays-some scene) on
              (λ v then u n came gave. Goes-done (pointer_in v) came (omega (arith, follows.least))
              (PlaceIs-value e.ty t v (u.register reg.0) of gave.result_is)));
        };
        slot = λ start is now. absurd (cc);
      };
    }
