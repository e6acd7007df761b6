-- The function that a name stands for has that name, in the file that defines it.
use Rattle.std.proofs.Common.{◌≡◌, refl, subst, ℕ, suc, ◌+◌, arith, true, List, [], ◌∷◌, slice_get}
use Rattle.std.proofs.Common.{Option, Some, None}
use Rattle.std.specs.List.{position_from}
use Rattle.std.specs.Str.{bytes_eq}
use Rattle.std.proofs.lemmas.Option.{same_Some}
use Rattle.c_type_base.specs.declared.typed.TFunction.{TFunction}
use Rattle.c_type_base.specs.declared.typed.Typed.{Typed}
use Rattle.block_meaning.specs.Linkage.{Definition, AnObject, AFunction, function_of, is_object_named, is_function_named, or_definition}
use Rattle.block_meaning.specs.Linkage.{object_at, function_at, defined_in, defined_from, defined}
use Rattle.block_meaning.specs.Running.{Function}
use Rattle.well_typed_order.specs.Laws.Numbers.{position-place}
use Rattle.well_typed_order.specs.Laws.Types.{and_first}

pub record NamedFunction (units : List Typed) (name : List ℕ) (f : Function) : Type 0 where
  pub unit_of : Typed
  pub unit_is : slice_get units f.unit ≡ Some unit_of
  pub function : TFunction
  pub there : slice_get unit_of.functions f.number ≡ Some function
  pub named : bytes_eq function.name name ≡ true

module _ (units : List Typed) (name : List ℕ) where
  abbrev Named : Definition → Type 0
  Named (AnObject unit k) = Unit {0}
  Named (AFunction f) = NamedFunction units name f

  an_object : (unit : ℕ) (o : Option ℕ) (d : Definition) → object_at unit o ≡ Some d → Named d
  an_object unit None d found = absurd cc
  an_object unit (Some k) d found = subst Named (same_Some (AnObject unit k) d found) tt

  a_function : (unit : ℕ) (u : Typed) (o : Option ℕ) (d : Definition) → slice_get units unit ≡ Some u →
      position_from (is_function_named name) 0 u.functions ≡ o → function_at unit o ≡ Some d → Named d
  a_function unit u None d is at found = absurd cc
  a_function unit u (Some k) d is at found =
      let place = position-place (is_function_named name) 0 u.functions k at in
      let same : place.index ≡ k = omega (arith, (place.is)) in
      subst Named (same_Some (AFunction (function_of unit k)) d found) (record {
        unit_of = u;
        unit_is = is;
        function = place.element;
        there = subst (λ i. slice_get u.functions i ≡ Some place.element) same place.there;
        named = and_first (bytes_eq place.element.name name) _ place.passes;
      })

  either : (o later : Option Definition) (d : Definition) → (o ≡ Some d → Named d) → (later ≡ Some d → Named d) →
      or_definition o later ≡ Some d → Named d
  either None later d first second found = second found
  either (Some e) later d first second found = first found

  in_files : (unit : ℕ) (us : List Typed) (d : Definition) → ((k : ℕ) (u : Typed) → slice_get us k ≡ Some u →
      slice_get units (unit + k) ≡ Some u) → defined_from name unit us ≡ Some d → Named d
  in_files unit [] d rest found = absurd cc
  in_files unit (u ∷ us) d rest found =
      let here : unit + 0 ≡ unit = omega arith in
      let there = subst (λ k. slice_get units k ≡ Some u) here (rest 0 u refl) in
      either (defined_in name unit u) (defined_from name (unit + 1) us) d
      (either (object_at unit (position_from (is_object_named name) 0 u.globals))
      (function_at unit (position_from (is_function_named name) 0 u.functions)) d
      (an_object unit (position_from (is_object_named name) 0 u.globals) d)
      (a_function unit u (position_from (is_function_named name) 0 u.functions) d there refl))
      (in_files (unit + 1) us d (λ k v is.
      let next : unit + suc k ≡ unit + 1 + k = omega arith in
      subst (λ j. slice_get units j ≡ Some v) next (rest (suc k) v is)))
      found

  -- what a name stands for, where it is a function
  pub named-function : (f : Function) → defined units name ≡ Some (AFunction f) → NamedFunction units name f
  named-function f is = in_files 0 units (AFunction f) (λ k u is.
      let same : k ≡ 0 + k = omega arith in subst (λ j. slice_get units j ≡ Some u) same is) is
