-- The code of `++` and `--` does what it means (ISO C11 6.5.2.4, 6.5.3.1): from SP for a local in reach, and else through the place.
use Rattle.std.specs.Prelude.{◌≡◌, ℕ, true, false, List, [], ◌∷◌, ◌++◌, Option, Some, None, refl, if◌then◌else◌}
use Rattle.std.proofs.Common.{arith, ap, sym, subst, ◌∙◌}
use Rattle.c_ast.specs.declared.operator.Step.{Step}
use Rattle.c_ast.specs.declared.token.Span.{Span}
use Rattle.c_type_base.specs.Types.{is_scalar}
use Rattle.c_type_base.specs.declared.expr.TExpr.{TExpr}
use Rattle.c_type_base.specs.declared.expr.TNode.TheOpen.{TNode-F}
use Rattle.c_type_base.specs.declared.ty.Ty.{Ty}
use Rattle.a64_code.specs.declared.instr.Instr.{Instr}
use Rattle.a64_code.specs.declared.instr.Reg.{Reg}
use Rattle.a64_code.specs.State.{State}
use Rattle.frame_layout.specs.Needs.{need}
use Rattle.block_meaning.specs.Expressions.{step_node}
use Rattle.block_meaning.specs.Memory.{object, read_scalar, write}
use Rattle.block_meaning.specs.Operators.{gives_old, stepped}
use Rattle.block_meaning.specs.Running.{Run, gives, and_then, unit_then, State as MeaningState}
use Rattle.block_meaning.specs.declared.value.Pointer.{Pointer}
use Rattle.block_meaning.specs.declared.value.Value.{Value}
use Rattle.code_relation.specs.Laws.Outcomes.{spent}
use Rattle.code_relation.specs.Numbers.{IsNumber}
use Rattle.code_relation.specs.Sites.{units_of}
use Rattle.code_runs.specs.Bounded.{Account}
use Rattle.gen_base.specs.Accesses.{Behind, load_scalar, store_scalar}
use Rattle.gen_base.specs.Code.{plain, in_turn}
use Rattle.gen_base.specs.Operators.{stepped as stepped_code}
use Rattle.gen_base.specs.Registers.{left, scratch, move}
use Rattle.gen_expr.specs.Nodes.{new_or_old, step_value}
use Rattle.gen_laws.specs.Computes.{all}
use Rattle.gen_laws.specs.Laws.Computing.{Computes-is}
use Rattle.code_follows.specs.Aligned.{AlignedSlots}
use Rattle.code_follows.specs.Leaves.{value_leaves}
use Rattle.code_follows.specs.Parts.{On, Goes, PlaceFollows, ValueNode, coded_in, site_in}
use Rattle.code_follows.specs.Scene.{Scene, IsScene, given_in, structs_in, frame_in, IsFree, Lies}
use Rattle.code_follows.specs.Values.{ValueIs}
use Rattle.code_follows.specs.Laws.Coming.{pays}
use Rattle.code_follows.specs.Laws.Computing.{Suits-other}
use Rattle.code_follows.specs.Laws.FarAccesses.{Goes-reads_far, Goes-writes_far}
use Rattle.code_follows.specs.Laws.Going.{Goes-unit, Goes-list, Part-by}
use Rattle.code_follows.specs.Laws.Layers.{coded-ty}
use Rattle.code_follows.specs.Laws.Lying.{HasInstrs, Lies-turn, Lies-plain, Lies-none}
use Rattle.code_follows.specs.Laws.Nodes.SteppedSlot.{step_named}
use Rattle.code_follows.specs.Laws.Nodes.Steps.{Goes-steps, Goes-new_or_old}
use Rattle.code_follows.specs.Laws.Paying.{IsNumber-spent}
use Rattle.code_follows.specs.Laws.PlaceWaits.{Goes-pointer}
use Rattle.code_follows.specs.Laws.Splitting.{has_two}
use Rattle.code_follows.specs.Laws.Waiting.{move_computes}

module _ {k : Scene} (scene : IsScene k) (slots : AlignedSlots (units_of (given_in k))) (depth : ℕ) (step : Step) (e : TExpr)
    (place : PlaceFollows k depth e) (scalar : is_scalar e.ty ≡ true) (span around : Span) where
  abbrev rest : Pointer → Run Value
  rest p = unit_then (
      and_then (read_scalar k.here e.span (object e.ty p)) (λ v.
      and_then (write k.here e.span (object e.ty p) (stepped k.here step e.ty v)) (λ _.
      gives (if gives_old step then v else stepped k.here step e.ty v))))

  abbrev instrs_of : Reg → Ty → List Instr
  instrs_of reg t =
      move reg scratch ∷ load_scalar t (Behind scratch) reg ∷ stepped_code (structs_in k) step t reg
      ++ store_scalar t (Behind scratch) left ∷ new_or_old step reg

  -- through the place
  step_far : {first : ℕ} {reg : Reg} {from to : ℕ} {acc : Account} {now : MeaningState} {s : State} →
      IsFree k (need e) first reg → Lies k (step_value (structs_in k) step None (coded_in k e) first reg) from to →
      On k first reg false s from acc 0 0 now s →
      Goes k first reg false (ValueIs (given_in k) e.ty) s to value_leaves acc (step_node (site_in k depth span around e.ty) step e) now s
  step_far {first} {reg} {from} {to} free lies on =
      let pointer_code = (coded_in k e).pointer first reg in
      let typed : Lies k (in_turn (pointer_code ∷ plain (instrs_of reg e.ty) ∷ [])) from to =
      subst (λ t. Lies k (in_turn (pointer_code ∷ plain (instrs_of reg t) ∷ [])) from to) (coded-ty (structs_in k) (frame_in k) e) lies in
      let parts = Lies-turn pointer_code (plain (instrs_of reg e.ty) ∷ []) typed in
      let whole = Lies-turn (plain (instrs_of reg e.ty)) [] parts.back in
      let end_is : whole.middle ≡ to = Lies-none whole.back in
      let has : HasInstrs k (instrs_of reg e.ty) parts.middle to =
      subst (λ (x : ℕ). HasInstrs k (instrs_of reg e.ty) parts.middle x) end_is (Lies-plain (instrs_of reg e.ty) whole.front) in
      let last : List Instr = store_scalar e.ty (Behind scratch) left ∷ new_or_old step reg in
      let one = has_two (move reg scratch ∷ []) (load_scalar e.ty (Behind scratch) reg ∷ stepped_code (structs_in k) step e.ty reg ++ last)
      has in
      let two = has_two (load_scalar e.ty (Behind scratch) reg ∷ []) (stepped_code (structs_in k) step e.ty reg ++ last) one.back in
      let three = has_two (stepped_code (structs_in k) step e.ty reg) last two.back in
      let four = has_two (store_scalar e.ty (Behind scratch) left ∷ []) (new_or_old step reg) three.back in
      Goes-pointer scene {g = rest} (coded_in k e) place.part.pointer free parts.front on
      (λ p between u c owes spares pays_it enough came is.
      Goes-list {most = 1} 3 one.front (record { quiet = refl; few = omega arith })
      (λ w same near. Computes-is (ap (λ g. g reg.0) same) (move_computes reg scratch w (omega (arith, free.high)) (omega arith) near))
      (Suits-other reg scratch all (omega arith) tt) came (omega (arith, pays_it)) (omega (arith, enough))
      (λ w m holds others moved_on.
      Goes-unit moved_on (λ owing.
      let there : IsNumber (given_in k) (spent between) p (w.register 17) =
      subst (λ n. IsNumber (given_in k) (spent between) p n) (sym holds) (IsNumber-spent is.is) in
      Goes-reads_far scene slots e.ty scalar p e.span 60 scratch reg (omega arith) (omega (arith, free.high)) two.front there owing
      (omega arith) (omega (arith, pays scene))
      (λ v x d value others_load byte loaded.
      Goes-steps 50 scene step e.ty scalar v free.low free.high three.front value loaded (omega arith)
      (λ y h new others_step done.
      let after : Value = stepped k.here step e.ty v in
      let kept : y.register 17 ≡ w.register 17 =
      others_step 17 (λ same. omega (arith, same)) ∙ others_load 17 (λ same. omega (arith, same, free.high)) in
      let old : ValueIs (given_in k) e.ty v (spent between) (y.register reg.0) =
      subst (λ n. ValueIs (given_in k) e.ty v (spent between) n) (sym (others_step reg.0 (λ same. omega (arith, same, free.high)))) value in
      Goes-writes_far scene slots e.ty scalar p e.span 40 after scratch left (omega arith) (omega arith) four.front
      (subst (λ n. IsNumber (given_in k) (spent between) p n) (sym kept) there) new (omega (arith, free.temps)) done (omega arith)
      (omega arith)
      (λ later z j registers keeps stored.
      Goes-new_or_old step e.ty v after free.low free.high four.back
      (subst (λ n. ValueIs (given_in k) e.ty v later n) (ap (λ g. g reg.0) (sym registers)) (keeps v (y.register reg.0) old))
      (subst (λ n. ValueIs (given_in k) e.ty after later n) (ap (λ g. g 16) (sym registers)) (keeps after (y.register 16) new))
      stored (omega arith)))))))

pub stepped_follows : (k : Scene) → IsScene k → AlignedSlots (units_of (given_in k)) → (depth : ℕ) (step : Step) (e : TExpr) →
    PlaceFollows k depth e → is_scalar e.ty ≡ true → ValueNode k depth e.ty (TNode-F.Step step e)
stepped_follows k scene slots depth step e place scalar = record {
  at = λ span around. record {
    part = Part-by (λ first reg from to free lies acc now s on.
        by_slot span around (coded_in k e).slot refl free lies on);
  };
}
  where
    by_slot : {first : ℕ} {reg : Reg} {from to : ℕ} {acc : Account} {now : MeaningState} {s : State} (span around : Span) (o : Option ℕ) →
        (coded_in k e).slot ≡ o → IsFree k (need e) first reg →
        Lies k (step_value (structs_in k) step o (coded_in k e) first reg) from to → On k first reg false s from acc 0 0 now s →
        Goes k first reg false (ValueIs (given_in k) e.ty) s to value_leaves acc (step_node (site_in k depth span around e.ty) step e) now s
    by_slot {now = now} span around (Some start) is free lies on =
        step_named scene depth step e place scalar span around start free lies on (place.part.slot start is now)
    by_slot span around None is free lies on = step_far scene slots depth step e place scalar span around free lies on
