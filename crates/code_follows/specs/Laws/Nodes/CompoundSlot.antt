-- The code of an operator with `=` does what it means where the left side is a local in a safe slot in reach from SP (this project's own).
use Rattle.std.specs.Prelude.{◌≡◌, ℕ, ◌+◌, ◌<◌, true, false, [], ◌∷◌, Some, refl}
use Rattle.std.proofs.Common.{arith, ap, sym, subst, ◌∙◌}
use Rattle.c_ast.specs.declared.operator.AssignOperator.{AssignOperator}
use Rattle.c_ast.specs.declared.token.Span.{Span}
use Rattle.c_type_base.specs.Types.{is_scalar}
use Rattle.c_type_base.specs.declared.expr.TExpr.{TExpr}
use Rattle.c_type_base.specs.declared.ty.Ty.{Ty}
use Rattle.a64_code.specs.declared.instr.Instr.TheVariants.{Nop}
use Rattle.a64_code.specs.declared.instr.Reg.{Reg}
use Rattle.a64_code.specs.State.{State}
use Rattle.frame_layout.specs.Needs.{need, waiting}
use Rattle.block_meaning.specs.Expressions.{Site, start_of, value_of, assign_node, assign_effect, written}
use Rattle.block_meaning.specs.ExpressionsInOrder.{CompoundTypes}
use Rattle.block_meaning.specs.Memory.{object}
use Rattle.block_meaning.specs.Running.{Run, stuck, and_then, unit_then, goes_on, State as MeaningState}
use Rattle.block_meaning.specs.Values.{cells_of}
use Rattle.block_meaning.specs.declared.value.Pointer.{Pointer}
use Rattle.block_meaning.specs.declared.value.Value.{Value}
use Rattle.code_relation.specs.Laws.Outcomes.{spent}
use Rattle.code_relation.specs.Laws.Storing.{with_new}
use Rattle.code_runs.specs.Bounded.{Account}
use Rattle.gen_base.specs.Accesses.{OnStack, load_scalar, store_scalar}
use Rattle.gen_base.specs.Code.{Code as Items, plain, in_turn}
use Rattle.gen_base.specs.Operators.{combined as combined_code}
use Rattle.gen_base.specs.Registers.{left}
use Rattle.gen_expr.specs.Nodes.{compound_value}
use Rattle.gen_laws.specs.Computes.{all}
use Rattle.gen_laws.specs.Laws.Unary.{nop-computes}
use Rattle.code_follows.specs.Covered.{combines_in}
use Rattle.code_follows.specs.Leaves.{value_leaves}
use Rattle.code_follows.specs.Parts.{On, Goes, SlotRun, names, too_deep, PlaceFollows, ValueFollows, coded_in, site_in}
use Rattle.code_follows.specs.Scene.{Scene, IsScene, given_in, structs_in, frame_in, IsFree, Lies}
use Rattle.code_follows.specs.Values.{ValueIs}
use Rattle.code_follows.specs.Laws.Combining.{Goes-combines}
use Rattle.code_follows.specs.Laws.Coming.{pays, pays-some}
use Rattle.code_follows.specs.Laws.Computing.{Suits-other}
use Rattle.code_follows.specs.Laws.Going.{Goes-same, Goes-stuck, Goes-unit, Goes-some, Goes-part, Goes-list, Goes-done, On-at}
use Rattle.code_follows.specs.Laws.Layers.{coded-ty}
use Rattle.code_follows.specs.Laws.Lying.{Lies-turn, Lies-plain, Lies-none}
use Rattle.code_follows.specs.Laws.Nodes.AssignedSlot.{free_behind, free_fewer}
use Rattle.code_follows.specs.Laws.Nodes.Operated.{value_part}
use Rattle.code_follows.specs.Laws.Operand.{ValueIs-spent}
use Rattle.code_follows.specs.Laws.SlotReading.{Goes-reads_slot}
use Rattle.code_follows.specs.Laws.Slots.{SlotPlace, slot_place, starts-then}
use Rattle.code_follows.specs.Laws.Storing.{ValueIs-changed, slot_then, Goes-writes_slot}

module _ {k : Scene} (scene : IsScene k) (depth : ℕ) (o : AssignOperator) (a b : TExpr) (place : PlaceFollows k depth a)
    (value : ValueFollows k depth b) (types : CompoundTypes o a.ty b.ty) (combines : combines_in o a.ty b.ty ≡ true)
    (scalar : is_scalar a.ty ≡ true) (span around : Span) where
  abbrev at : Site
  at = site_in k depth span around a.ty

  abbrev rest : Pointer → Run Value
  rest p = and_then (value_of at.parts b) (λ v. unit_then (assign_effect at (Some o) a b p v))

  -- what the code is, by the types
  abbrev code_by : ℕ → ℕ → Reg → Ty → Ty → Items
  code_by start t r s u = in_turn (
      plain (Nop ∷ []) ∷ (coded_in k b).value t r ∷ plain (load_scalar s (OnStack start) left ∷ []) ∷
      combined_code (structs_in k) o s u r ∷ plain (store_scalar s (OnStack start) r ∷ []) ∷ [])

  -- where the run comes to the place of a local
  pub compound_named : {first : ℕ} {reg : Reg} {from to : ℕ} {acc : Account} {now : MeaningState} {s : State} (start : ℕ) →
      IsFree k (waiting (need a) (need b)) first reg →
      Lies k (compound_value (structs_in k) o (Some start) (coded_in k a) (coded_in k b) first reg) from to →
      On k first reg false s from acc 0 0 now s → SlotRun k a.ty start (at.parts.place a) now →
      Goes k first reg false (ValueIs (given_in k) a.ty) s to value_leaves acc (assign_node at (Some o) a b) now s
  compound_named {now = now} start free lies on (too_deep is) = Goes-same {n = stuck} (ap (λ r. goes_on r rest) is) Goes-stuck
  compound_named {first} {reg} {from} {to} {now = now} {s} start free lies on (names local l there type reached_is run_is) =
      let value_code = (coded_in k b).value first reg in
      let load = load_scalar a.ty (OnStack start) left in
      let store = store_scalar a.ty (OnStack start) reg in
      let own : Items = combined_code (structs_in k) o a.ty b.ty reg in
      let typed : Lies k (in_turn (plain (Nop ∷ []) ∷ value_code ∷ plain (load ∷ []) ∷ own ∷ plain (store ∷ []) ∷ [])) from to =
      subst (λ u. Lies k (code_by start first reg a.ty u) from to) (coded-ty (structs_in k) (frame_in k) b)
      (subst (λ t. Lies k (code_by start first reg t (coded_in k b).ty) from to) (coded-ty (structs_in k) (frame_in k) a) lies) in
      let one = Lies-turn (plain (Nop ∷ [])) (value_code ∷ plain (load ∷ []) ∷ own ∷ plain (store ∷ []) ∷ []) typed in
      let two = Lies-turn value_code (plain (load ∷ []) ∷ own ∷ plain (store ∷ []) ∷ []) one.back in
      let three = Lies-turn (plain (load ∷ [])) (own ∷ plain (store ∷ []) ∷ []) two.back in
      let four = Lies-turn own (plain (store ∷ []) ∷ []) three.back in
      let five = Lies-turn (plain (store ∷ [])) [] four.back in
      let free_b : IsFree k (need b) first reg = free_fewer (need b + 1) (need b) (omega arith) (free_behind (need a) (need b) free) in
      let low : reg.0 < 28 = omega (arith, free.high) in
      Goes-same (ap (λ r. goes_on r rest) run_is ∙ starts-then (k.here.local local) rest now)
      (Goes-unit on (λ owing. Goes-some (k.here.local local) (λ number scope.
      Goes-list {most = 1} 0 (Lies-plain (Nop ∷ []) one.front) (record { quiet = refl; few = omega arith })
      (λ w same near. nop-computes reg (s.register reg.0) w (ap (λ g. g reg.0) same) (omega (arith, near)))
      (Suits-other reg reg all low tt) owing (omega arith) (omega (arith, pays scene))
      (λ w m holds others moved_on.
      Goes-part ((value_part b value).yields first reg one.middle two.middle free_b two.front) (omega arith) (λ alone. absurd (cc))
      (pays-some scene) moved_on
      (λ v then u n came gave.
      Goes-unit came (λ owing_load.
      let p : SlotPlace k a.ty start (spent then) u number =
      slot_place scene owing_load.came.comes.relates a.ty start local number l there type reached_is scope in
      Goes-reads_slot scene a.ty scalar start number 60 p a.span left (omega arith) (Lies-plain (load ∷ []) three.front) owing_load
      (omega arith) (omega (arith, pays scene))
      (λ old x is others_load loaded.
      let second : ValueIs (given_in k) b.ty v (spent then) (x.register reg.0) =
      subst (λ n. ValueIs (given_in k) b.ty v (spent then) n) (sym (others_load reg.0 (λ same. omega (arith, same, free.high))))
      (ValueIs-spent gave.result_is) in
      Goes-combines scene free.low free.high a.ty b.ty span (λ r. written at a.span (object a.ty (start_of number)) r) 20 o types combines
      old v four.front is second loaded (omega arith)
      (λ r y c new byte done.
      let q : SlotPlace k a.ty start (spent then) y number =
      slot_place scene done.came.comes.relates a.ty start local number l there type reached_is scope in
      Goes-writes_slot scene a.ty scalar start number value_leaves q a.span r reg (omega (arith, low)) (Lies-plain (store ∷ []) five.front)
      new (omega (arith, free.temps)) done (omega arith) (omega arith)
      (λ z registers stored. Goes-done r (On-at (Lies-none five.back) stored) (omega arith)
      (subst (λ n. ValueIs (given_in k) a.ty r (slot_then q r) n) (ap (λ g. g reg.0) (sym registers))
      (ValueIs-changed (with_new q.lives 0 (cells_of a.ty r)) a.ty r (y.register reg.0) new)))))))))))
