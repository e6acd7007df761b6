-- The code of a call does what it means (this project's own, ISO C11 6.5.2.2).
use Rattle.std.specs.Prelude.{◌≡◌, ℕ, suc, ◌*◌, ◌≤◌, false, List, [], ◌∷◌, length, map, Option, Some, None, refl}
use Rattle.std.proofs.Common.{arith, ap, sym, subst, ◌∙◌}
use Rattle.c_ast.specs.declared.token.Span.{Span}
use Rattle.c_type_base.specs.declared.expr.Callee.{Callee}
use Rattle.c_type_base.specs.declared.expr.Callee.TheVariants as callee
use Rattle.c_type_base.specs.declared.expr.TExpr.{TExpr}
use Rattle.c_type_base.specs.declared.expr.TNode.TheOpen.{TNode-F}
use Rattle.c_type_base.specs.declared.ty.Ty.{Ty}
use Rattle.c_type_base.specs.declared.typed.ExternInfo.{ExternInfo}
use Rattle.c_type_base.specs.declared.typed.TFunction.{TFunction}
use Rattle.a64_code.specs.declared.instr.Reg.{Reg}
use Rattle.a64_code.specs.State.{State}
use Rattle.block_meaning.specs.Expressions.{if_agrees, call_extern, call_effect}
use Rattle.block_meaning.specs.ExpressionsInOrder as order
use Rattle.block_meaning.specs.ExpressionsInOrder.{Callable, Arguments, IsDefined}
use Rattle.block_meaning.specs.Linkage.{extern_at, function_of, function_named, called_as}
use Rattle.block_meaning.specs.Running.{Function, Goes as Goes', Run, gives, unit_then, with_some, State as MeaningState}
use Rattle.block_meaning.specs.declared.value.Value.{Value}
use Rattle.code_relation.specs.Follows.{HasArguments, types_of}
use Rattle.code_relation.specs.Items.{types_of_extern, Calls}
use Rattle.code_relation.specs.Laws.Outcomes.{spent}
use Rattle.code_relation.specs.Sites.{Given, units_of}
use Rattle.code_runs.specs.Bounded.{Account}
use Rattle.gen_base.specs.Code.{plain, only}
use Rattle.gen_base.specs.Registers.{returned, move}
use Rattle.gen_expr.specs.Nodes.{keep_arguments, fetch_arguments, called}
use Rattle.gen_laws.specs.Computes.{all}
use Rattle.gen_laws.specs.Laws.Computing.{Computes-is}
use Rattle.sym_code.specs.declared.item.SymItem.{SymItem}
use Rattle.sym_code.specs.declared.item.SymItem.TheVariants as item
use Rattle.code_follows.specs.CallsGive.{CallsGive}
use Rattle.code_follows.specs.Later.{AreBytes, Ran}
use Rattle.code_follows.specs.Leaves.{value_leaves}
use Rattle.code_follows.specs.Nodes.{AllFollow}
use Rattle.code_follows.specs.Parts.{Result, On, Goes, ValueNode, coded_in, site_in}
use Rattle.code_follows.specs.Scene.{Scene, IsScene, given_in, frame_in, Lies}
use Rattle.code_follows.specs.Values.{IsOfType, ValueIs}
use Rattle.code_follows.specs.Waits.{WaitingLaws}
use Rattle.code_follows.specs.Laws.ArgumentsFetched.{type_of, Arguments-types, Goes-fetches}
use Rattle.code_follows.specs.Laws.ArgumentsKept.{HasTemps-start, Goes-arguments}
use Rattle.code_follows.specs.Laws.Computing.{Suits-other}
use Rattle.code_follows.specs.Laws.Going.{Goes-list, Goes-done, On-at, Part-by}
use Rattle.code_follows.specs.Laws.Lying.{Lies-turn, Lies-plain, Lies-none, ActsFrom, Lies-only}
use Rattle.code_follows.specs.Laws.Nodes.CallAcross.{GivesAs, gives-as}
use Rattle.code_follows.specs.Laws.Nodes.CallBytes.{Goes-putchar, Goes-getchar}
use Rattle.code_follows.specs.Laws.Nodes.CallItems.{Ran-unit, Goes-returned, call_does}
use Rattle.code_follows.specs.Laws.Waiting.{move_computes}

arguments_length : (g : Given) (now : MeaningState) (s : State) (j : ℕ) (ts : List Ty) (vs : List Value) → HasArguments g now s j ts vs →
    length vs ≡ length ts
arguments_length g now s j [] [] has = refl
arguments_length g now s j [] (v ∷ vs) has = absurd has
arguments_length g now s j (t ∷ ts) [] has = absurd has
arguments_length g now s j (t ∷ ts) (v ∷ vs) has = ap suc (arguments_length g now s (suc j) ts vs has.2)

-- ---- what is called gives a value of its type

some_ran : {A B : Type 0} {o : Option A} {a : A} (f : A → Run B) {now last : MeaningState} {b : B} → o ≡ Some a →
    with_some o f now ≡ Goes' b last → f a now ≡ Goes' b last
some_ran f {now} {last} {b} is ran = subst (λ o. with_some o f now ≡ Goes' b last) is ran

module _ (k : Scene) (give : CallsGive (given_in k).program k.bound) (same : k.here.program ≡ (given_in k).program) (depth : ℕ)
    (span around : Span) (ty : Ty) (vs : List Value) where
  function_gives : (n : ℕ) (g : TFunction) (now last : MeaningState) (v : Value) → AreBytes now.input →
      function_named (units_of (given_in k)) (function_of k.here.unit n) ≡ Some g →
      Ran (unit_then (call_effect (site_in k depth span around ty) (callee.Function n) vs)) now v last → IsOfType g.result v
  function_gives n g now last v bytes is ran =
      give.gives k.here (function_of k.here.unit n) g vs (spent now) last v same is bytes
      (Ran-unit (call_effect (site_in k depth span around ty) (callee.Function n) vs) now last v ran)

  agreed_gives : (e : ExternInfo) (o : Option Function) (now last : MeaningState) (v : Value) → AreBytes now.input →
      ((f : Function) → o ≡ Some f → GivesAs k.here.program.units e f) →
      if_agrees (site_in k depth span around ty) vs o now ≡ Goes' v last → IsOfType e.result v
  agreed_gives e None now last v bytes each ran = absurd (cc)
  agreed_gives e (Some f) now last v bytes each ran =
      let as_declared : GivesAs k.here.program.units e f = each f refl in
      as_declared.gives v
      (give.gives k.here f as_declared.function vs now last v same
      (subst (λ p. function_named p.units f ≡ Some as_declared.function) same as_declared.function_is) bytes (record { is = ran }))

  extern_gives : (n : ℕ) (e : ExternInfo) (now last : MeaningState) (v : Value) → AreBytes now.input →
      extern_at k.here.program.units k.here.unit n ≡ Some e → IsDefined k.here.program.units e.name →
      Ran (unit_then (call_effect (site_in k depth span around ty) (callee.Extern n) vs)) now v last → IsOfType e.result v
  extern_gives n e now last v bytes is defines ran =
      let units = k.here.program.units in
      let d = defines.definition in
      let run = Ran-unit (call_effect (site_in k depth span around ty) (callee.Extern n) vs) now last v ran in
      let named : call_extern (site_in k depth span around ty) vs e (spent now) ≡ Goes' v last =
      some_ran (call_extern (site_in k depth span around ty) vs) is run.is in
      agreed_gives e (called_as units k.here.unit e d) (spent now) last v bytes (λ f agrees. gives-as units k.here.unit e d f agrees)
      (some_ran (λ d. if_agrees (site_in k depth span around ty) vs (called_as units k.here.unit e d)) defines.is named)

-- ---- what is called

-- an item, from where it stands
item_calls : {k : Scene} {from to : ℕ} (i : SymItem) (f : Callee) →
    ((acts : ActsFrom k i from to) → Calls k.code k.function acts.spot.from acts.spot.to f) → Lies k (only i) from to →
    Calls k.code k.function from to f
item_calls {k} {from} {to} i f each lies =
    let acts = Lies-only i lies in
    subst (λ (at : ℕ). Calls k.code k.function from at f) acts.to_is
    (subst (λ (at : ℕ). Calls k.code k.function at acts.spot.to f) acts.from_is (each acts))

-- names are those of the file of the code
record SameNames (k : Scene) : Type 0 where
  program_is : k.scope.program ≡ k.here.program
  unit_is : k.scope.unit ≡ k.here.unit

same_names : {k : Scene} → IsScene k → k.here.program ≡ (given_in k).program → SameNames k
same_names scene same = record {
  program_is = scene.of_scope.program_is ∙ sym same;
  unit_is = scene.of_scope.unit_is ∙ sym (scene.inside.3);
}

-- room for what is called: it keeps temps, and each of so many parameters may cost a step
record CanCall (k : Scene) (first spare parameters : ℕ) : Type 0 where
  within : first ≤ (frame_in k).temps
  eight : parameters ≤ 8
  enough : parameters ≤ spare

module _ {k : Scene} {first : ℕ} {reg : Reg} {result : Result Value} {s : State} {to leaves : ℕ} (scene : IsScene k)
    (give : CallsGive (given_in k).program k.bound) (depth : ℕ) (span around : Span) (ty : Ty) where
  -- the unit of a call, and what is called: its value is then in X0
  Goes-called : {a : Account} {spare from middle : ℕ} {now : MeaningState} {t : State} (f : Callee) (ts : List Ty) (u : Ty)
      (vs : List Value) → Callable k.scope f ts u → CanCall k first spare (length ts) → Lies k (called f) from middle →
      On k first reg false s from a 0 spare now t → HasArguments (given_in k) now t 0 ts vs →
      ((v : Value) (then : MeaningState) (w : State) (c : Account) → On k first reg false s middle c 0 8 then w →
      ValueIs (given_in k) u v then (w.register 0) → Goes k first reg false result s to leaves c (gives v) then w) →
      Goes k first reg false result s to leaves a (unit_then (call_effect (site_in k depth span around ty) f vs)) now t
  Goes-called {now = now} {t} f ts u vs (order.function {k = n} {f = g} is) can lies on has more =
      let same = on.came.comes.relates.injects.stands.program_is in
      let count : length vs ≡ length ts = arguments_length (given_in k) now t 0 ts vs has in
      let known : function_named (units_of (given_in k)) (function_of k.function.unit n) ≡ Some g =
      sym (ap (λ p. function_named p.units (function_of k.scope.unit n)) scene.of_scope.program_is
      ∙ ap (λ unit. function_named (units_of (given_in k)) (function_of unit n)) scene.of_scope.unit_is) ∙ is in
      let here : function_named (units_of (given_in k)) (function_of k.here.unit n) ≡ Some g =
      ap (λ unit. function_named (units_of (given_in k)) (function_of unit n)) (scene.inside.3) ∙ known in
      Goes-returned scene (unit_then (call_effect (site_in k depth span around ty) (callee.Function n) vs)) vs g.result can.within
      (omega (arith, count, can.eight)) (omega (arith, count, can.enough)) on
      (call_does scene (callee.Function n) (site_in k depth span around ty) vs
      (item_calls (item.CallFunction n) (callee.Function n) (λ acts. acts.acts) lies) refl on
      (subst (λ o. HasArguments (given_in k) now t 0 (types_of o) vs) (sym known) has))
      (λ v last ran. function_gives k give same depth span around ty vs n g now last v on.came.comes.relates.outside.bytes here ran) more
  Goes-called {now = now} {t} f ts u vs (order.extern {k = n} {e} is none defines) can lies on has more =
      let same = on.came.comes.relates.injects.stands.program_is in
      let names = same_names scene same in
      let count : length vs ≡ length ts = arguments_length (given_in k) now t 0 ts vs has in
      let known : extern_at (units_of (given_in k)) k.function.unit n ≡ Some e =
      sym (ap (λ p. extern_at p.units k.scope.unit n) scene.of_scope.program_is
      ∙ ap (λ unit. extern_at (units_of (given_in k)) unit n) scene.of_scope.unit_is) ∙ is in
      let here : extern_at k.here.program.units k.here.unit n ≡ Some e =
      sym (ap (λ p. extern_at p.units k.scope.unit n) names.program_is
      ∙ ap (λ unit. extern_at k.here.program.units unit n) names.unit_is) ∙ is in
      let defined_here : IsDefined k.here.program.units e.name = subst (λ p. IsDefined p.units e.name) names.program_is defines in
      Goes-returned scene (unit_then (call_effect (site_in k depth span around ty) (callee.Extern n) vs)) vs e.result can.within
      (omega (arith, count, can.eight)) (omega (arith, count, can.enough)) on
      (call_does scene (callee.Extern n) (site_in k depth span around ty) vs
      (item_calls (item.CallExtern n) (callee.Extern n) (λ acts. acts.acts) lies) refl on
      (subst (λ o. HasArguments (given_in k) now t 0 (types_of_extern o) vs) (sym known) has))
      (λ v last ran.
      extern_gives k give same depth span around ty vs n e now last v on.came.comes.relates.outside.bytes here defined_here ran)
      more
  Goes-called f ts u vs order.putchar can lies on has more = Goes-putchar scene vs lies on has more
  Goes-called f ts u vs order.getchar can lies on has more = Goes-getchar scene lies on more

-- ---- the node

pub call_follows : (k : Scene) → IsScene k → WaitingLaws k → CallsGive (given_in k).program k.bound → (depth : ℕ) (f : Callee)
    (es : List TExpr) (ts : List Ty) (t : Ty) → Callable k.scope f ts t → Arguments k.scope es ts → length es ≤ 8 →
    AllFollow k depth es → ValueNode k depth t (TNode-F.Call f es)
call_follows k scene waits give depth f es ts t callable arguments eight all_follow = record {
  at = λ span around. record {
    part = Part-by (λ first reg from to free lies acc now s on.
        let codes = map (coded_in k) es in
        let fetches = fetch_arguments first 0 codes in
        let moves = move returned reg ∷ [] in
        let one = Lies-turn (keep_arguments first reg codes) (plain fetches ∷ called f ∷ plain moves ∷ []) lies in
        let two = Lies-turn (plain fetches) (called f ∷ plain moves ∷ []) one.back in
        let three = Lies-turn (called f) (plain moves ∷ []) two.back in
        let four = Lies-turn (plain moves) [] three.back in
        let temps = HasTemps-start es free in
        let types : map type_of es ≡ ts = Arguments-types es ts arguments in
        let count : length es ≡ length ts = type_count es ts types in
        Goes-arguments scene waits depth es 0 first
        {f = λ vs. unit_then (call_effect (site_in k depth span around t) f vs)} all_follow (omega arith) temps one.front on
        (λ vs last w c came kept keeps is_later.
        Goes-fetches waits es vs first 0 (2 * length es)
        (record { within = omega (arith, temps.within); near = omega (arith, temps.near); registers = omega (arith, eight) })
        (Lies-plain fetches two.front) came kept (omega arith)
        (λ x d fetched has others.
        Goes-called scene give depth span around t f ts t vs callable
        (record { within = omega (arith, temps.within); eight = omega (arith, eight, count); enough = omega (arith, count) })
        three.front fetched (subst (λ types. HasArguments (given_in k) last x 0 types vs) types has)
        (λ v then u e back is.
        Goes-list {most = 1} value_leaves (Lies-plain moves four.front) (record { quiet = refl; few = omega arith })
        (λ z same near. Computes-is (ap (λ g. g 0) same) (move_computes returned reg z (omega arith) (omega (arith, free.high)) near))
        (Suits-other reg reg all (omega (arith, free.high)) tt) back (omega arith) (omega arith)
        (λ z m holds others done. Goes-done v (On-at (Lies-none four.back) done) (omega arith)
        (subst (λ n. ValueIs (given_in k) t v then n) (sym holds) is))))));
  };
}
  where
    map_length : (es : List TExpr) → length es ≡ length (map type_of es)
    map_length [] = refl
    map_length (e ∷ es) = ap suc (map_length es)

    type_count : (es : List TExpr) (ts : List Ty) → map type_of es ≡ ts → length es ≡ length ts
    type_count es ts is = map_length es ∙ ap length is
