-- What calls give is of the type of the result, where what runs in them does so (this project's own).
use Rattle.std.specs.Prelude.{◌≡◌, ℕ, ◌%◌, ◌^◌, ◌<◌, ◌-◌, List, [], ◌∷◌, Option, Some, None, refl}
use Rattle.std.proofs.Common.{arith, ap, sym, subst, ◌∙◌}
use Rattle.std.proofs.lemmas.List.Elements.{All-head, All-tail}
use Rattle.c_ast.specs.declared.int_type.IntType.TheVariants as int
use Rattle.c_type_base.specs.Laws.Opened.{given_types}
use Rattle.c_type_base.specs.declared.expr.Callee.{Callee}
use Rattle.c_type_base.specs.declared.ty.Ty.{Ty}
use Rattle.c_type_base.specs.declared.typed.ExternInfo.{ExternInfo}
use Rattle.c_type_base.specs.declared.typed.TFunction.{TFunction}
use Rattle.block_meaning.specs.Expressions.{Calls, Site, take_byte, put_byte, first_number, if_agrees, call_effect}
use Rattle.block_meaning.specs.ExpressionsInOrder as order
use Rattle.block_meaning.specs.ExpressionsInOrder.{Scope, Callable, IsDefined, int_type}
use Rattle.block_meaning.specs.Linkage.{extern_at, function_of, function_named, called_as}
use Rattle.block_meaning.specs.Running.{Function, Program, Context, Goes, State as MeaningState}
use Rattle.block_meaning.specs.declared.value.Value.{Value}
use Rattle.block_meaning.specs.declared.value.Value.TheVariants.{Number}
use Rattle.gen_laws.specs.Computes.{IsOf}
use Rattle.code_follows.specs.Giving.{Gives}
use Rattle.code_follows.specs.Later.{AreBytes}
use Rattle.code_follows.specs.Values.{IsOfType}
use Rattle.code_follows.specs.Laws.Giving.Words.{gives-undefined, gives-some}
use Rattle.code_follows.specs.Laws.Nodes.CallAcross.{GivesAs, gives-as}
use Rattle.code_follows.specs.Laws.Nodes.CallBytes.{byte_of, end_of, taken_byte, taken_end}

-- functions of a program give values of the types of their results
pub record CallsGiving (p : Program) (calls : Calls) : Type 0 where
  pub gives : (here : Context) (f : Function) (g : TFunction) (vs : List Value) → here.program ≡ p → function_named p.units f ≡ Some g →
      Gives (calls here f vs) (IsOfType g.result)

-- something runs in the file of a scope
pub record IsHere (s : Scope) (here : Context) : Type 0 where
  pub program_is : here.program ≡ s.program
  pub unit_is : here.unit ≡ s.unit

-- ---- bytes

of_int : (n : ℕ) → IsOf int.Int n → IsOfType int_type (Number n)
unfolding given_types
of_int n of = of

goes_parts : {v w : Value} {now later : MeaningState} → Goes v now ≡ Goes w later → (v ≡ w) × (now ≡ later)
goes_parts is = (cc, cc)

put_gives : (n : ℕ) → Gives (put_byte n) (IsOfType int_type)
put_gives n = record {
  gives = λ now later v bytes ran.
      let parts = goes_parts ran.is in (
        subst (IsOfType int_type) parts.0 (of_int (n % 256) (byte_of (n % 256) (omega arith))),
        subst (λ (s : MeaningState). AreBytes s.input) parts.1 bytes,
      );
}

take_gives : Gives take_byte (IsOfType int_type)
take_gives = record { gives = λ now later v bytes ran. by_input now later v bytes ran.is now.input refl }
  where
    by_input : (now later : MeaningState) (v : Value) → AreBytes now.input → take_byte now ≡ Goes v later → (input : List ℕ) →
        now.input ≡ input → IsOfType int_type v × AreBytes later.input
    by_input now later v bytes ran [] is =
        let parts = goes_parts (sym (taken_end now is) ∙ ran) in (
          subst (IsOfType int_type) parts.0 (of_int (2 ^ 64 - 1) end_of),
          subst (λ (s : MeaningState). AreBytes s.input) parts.1 (subst AreBytes is bytes),
        )
    by_input now later v bytes ran (b ∷ bs) is =
        let parts = goes_parts (sym (taken_byte now b bs is) ∙ ran) in
        let all : AreBytes (b ∷ bs) = subst AreBytes is bytes in (
          subst (IsOfType int_type) parts.0 (of_int b (byte_of b (All-head (λ byte. byte < 256) b bs all))),
          subst (λ (s : MeaningState). AreBytes s.input) parts.1 (All-tail (λ byte. byte < 256) b bs all),
        )

-- ---- calls

module _ (s : Scope) (at : Site) (is_here : IsHere s at.here) (calls : CallsGiving s.program at.calls) where
  agrees_gives : (vs : List Value) (e : ExternInfo) (o : Option Function) →
      ((f : Function) → o ≡ Some f → GivesAs s.program.units e f) → Gives (if_agrees at vs o) (IsOfType e.result)
  agrees_gives vs e None each = gives-undefined at.here at.span None _
  agrees_gives vs e (Some f) each =
      let as_declared : GivesAs s.program.units e f = each f refl in
      record {
        gives = λ now later v bytes ran.
            let two = (calls.gives at.here f as_declared.function vs is_here.program_is as_declared.function_is).gives now later v bytes
            (record { is = ran.is }) in
            (as_declared.gives v two.0, two.1);
      }

  pub call_gives : (f : Callee) (ts : List Ty) (t : Ty) (vs : List Value) → Callable s f ts t → Gives (call_effect at f vs) (IsOfType t)
  call_gives f ts t vs (order.function {k} {f = g} is) =
      calls.gives at.here (function_of at.here.unit k) g vs is_here.program_is
      (ap (λ unit. function_named s.program.units (function_of unit k)) is_here.unit_is ∙ is)
  call_gives f ts t vs (order.extern {k} {e} is none defines) =
      let here : extern_at at.here.program.units at.here.unit k ≡ Some e =
      ap (λ p. extern_at p.units at.here.unit k) is_here.program_is
      ∙ ap (λ unit. extern_at s.program.units unit k) is_here.unit_is ∙ is in
      gives-some _ (λ x x_is.
      let same : e ≡ x = (let both = sym here ∙ x_is in cc) in
      gives-some _ (λ d d_is.
      subst (λ (y : ExternInfo). Gives (if_agrees at vs (called_as at.here.program.units at.here.unit y d)) (IsOfType t)) same
      (agrees_gives vs e (called_as at.here.program.units at.here.unit e d) (λ f agrees.
      subst (λ (p : Program). GivesAs p.units e f) is_here.program_is (gives-as at.here.program.units at.here.unit e d f agrees)))))
  call_gives f ts t vs order.putchar = put_gives (first_number vs)
  call_gives f ts t vs order.getchar = take_gives
