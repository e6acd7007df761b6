-- Values as conditions (ISO C11 6.8.4.1 paragraph 2): a scalar is true where its number is not 0 (this project's own).
use Rattle.std.specs.Prelude.{◌≡◌, ℕ, ◌≤◌, Bool, true, nat_eq, not, Option, Some, None, refl}
use Rattle.std.proofs.Common.{ap, sym, ◌∙◌}
use Rattle.c_ast.specs.declared.token.Span.{Span}
use Rattle.c_type_base.specs.Types.{TyLayer, is_scalar}
use Rattle.c_type_base.specs.declared.ty.Ty.{Ty, out-Ty}
use Rattle.c_type_base.specs.declared.ty.Ty.TheOpen.{Ty-F}
use Rattle.a64_code.specs.declared.instr.Reg.{Reg}
use Rattle.a64_code.specs.State.{State}
use Rattle.block_meaning.specs.Compare.{pointer_truth}
use Rattle.block_meaning.specs.Operators.{is_true, comparison}
use Rattle.block_meaning.specs.Running.{Run, Stops, IsUndefined, Undefined, Context, gives, and_then, goes_on, State as MeaningState}
use Rattle.block_meaning.specs.declared.value.Pointer.{Pointer}
use Rattle.block_meaning.specs.declared.value.Value.{Value}
use Rattle.block_meaning.specs.declared.value.Value.TheVariants.{Number, Address}
use Rattle.code_relation.specs.Numbers.{IsNumber, Holds}
use Rattle.code_relation.specs.Relates.{Relates}
use Rattle.code_runs.specs.Bounded.{Account}
use Rattle.code_follows.specs.Parts.{Result, On, Goes}
use Rattle.code_follows.specs.Scene.{Scene, given_in}
use Rattle.code_follows.specs.Values.{IsOfLevel, ValueIs}
use Rattle.code_follows.specs.Laws.Going.{Goes-same}
use Rattle.code_follows.specs.Laws.Operand.{Goes-undefined}
use Rattle.code_follows.specs.Laws.Scalars.{is_scalar_level}

-- Where the meaning compares a pointer with the null pointer, it differs from it just where its number is not 0.
pub record PointersTrue (k : Scene) : Type 0 where
  pub is : (now : MeaningState) (s : State) (p : Pointer) (n : ℕ) (b : Bool) → Relates (given_in k) k.here now s →
      IsNumber (given_in k) now p n → pointer_truth now.blocks p ≡ Some b → b ≡ not (nat_eq n 0)

-- a value as a condition: it has the truth of its number, or the run is undefined, but for no access
pub data TruthIs (here : Context) (span : Span) (v : Value) (n : ℕ) (now : MeaningState) : Type 0 where
  known : is_true here span v now ≡ gives (not (nat_eq n 0)) now → TruthIs here span v n now
  unknown : (u : Undefined) → is_true here span v now ≡ Stops (IsUndefined u) now → u.access ≡ None → TruthIs here span v n now

module _ {k : Scene} (pointers : PointersTrue k) {now : MeaningState} {s : State} (relates : Relates (given_in k) k.here now s)
    (span : Span) where
  pointer_level : (p : Pointer) (n : ℕ) → IsNumber (given_in k) now p n → TruthIs k.here span (Address p) n now
  pointer_level p n is = by_truth (pointer_truth now.blocks p) refl
    where
      by_truth : (o : Option Bool) → pointer_truth now.blocks p ≡ o → TruthIs k.here span (Address p) n now
      by_truth None none = unknown _ (ap (λ o. comparison k.here span o now) none) refl
      by_truth (Some b) some =
          known (ap (λ o. comparison k.here span o now) some ∙ ap (λ (b : Bool). gives b now) (pointers.is now s p n b relates is some))

  truth_level : (l : TyLayer) (v : Value) (n : ℕ) → is_scalar_level l ≡ true → IsOfLevel l v → Holds (given_in k) now v n →
      TruthIs k.here span v n now
  truth_level (Ty-F.Int i) (Number m) n is of holds = known (ap (λ (m : ℕ). gives (not (nat_eq m 0)) now) (sym holds))
  truth_level (Ty-F.Int i) _ n is of holds = absurd of
  truth_level (Ty-F.Pointer t) (Address p) n is of holds = pointer_level p n holds
  truth_level (Ty-F.Pointer t) _ n is of holds = absurd of
  truth_level _ v n is of holds = absurd (cc)

  pub ValueIs-truth : (t : Ty) (v : Value) (n : ℕ) → is_scalar t ≡ true → ValueIs (given_in k) t v now n → TruthIs k.here span v n now
  ValueIs-truth t v n scalar is = truth_level (out-Ty t) v n scalar is.of is.holds

-- what stands on a condition
pub Goes-truth : {A : Type 0} {k : Scene} {first : ℕ} {reg : Reg} {alone : Bool} {result : Result A} {s : State} {to leaves at : ℕ}
    {a : Account} {owes spare : ℕ} {now : MeaningState} {t : State} {span : Span} {v : Value} {n : ℕ} (f : Bool → Run A) →
    TruthIs k.here span v n now → k.code.Inside t → On k first reg alone s at a owes spare now t → owes ≤ 1 → 1 ≤ spare →
    Goes k first reg alone result s to leaves a (f (not (nat_eq n 0))) now t →
    Goes k first reg alone result s to leaves a (and_then (is_true k.here span v) f) now t
Goes-truth f (known is) inside on pays enough goes = Goes-same (ap (λ r. goes_on r f) is) goes
Goes-truth f (unknown u is none) inside on pays enough goes =
    Goes-undefined u (ap (λ r. goes_on r f) is) none inside on pays enough
