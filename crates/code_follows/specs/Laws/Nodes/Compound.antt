-- The code of an operator with `=` does what it means (ISO C11 6.5.16.2): the left side is read after the right side. Through its place the
-- place is kept in a temp, and fetched twice.
use Rattle.std.specs.Prelude.{◌≡◌, ℕ, suc, ◌+◌, Bool, true, false, ◌||◌, List, [], ◌∷◌, ◌++◌, Option, Some, None, refl}
use Rattle.std.proofs.Common.{arith, ap, sym, subst, ◌∙◌}
use Rattle.c_ast.specs.declared.operator.AssignOperator.{AssignOperator}
use Rattle.c_ast.specs.declared.token.Span.{Span}
use Rattle.c_type_base.specs.Types.{is_integer, is_pointer, is_scalar}
use Rattle.c_type_base.specs.declared.expr.TExpr.{TExpr}
use Rattle.c_type_base.specs.declared.expr.TNode.TheOpen.{TNode-F}
use Rattle.c_type_base.specs.declared.ty.Ty.{Ty}
use Rattle.a64_code.specs.declared.instr.Instr.{Instr}
use Rattle.a64_code.specs.declared.instr.Reg.{Reg}
use Rattle.a64_code.specs.State.{State}
use Rattle.frame_layout.specs.Needs.{need, waiting}
use Rattle.block_meaning.specs.Expressions.{Site, value_of, assign_node, assign_effect, written}
use Rattle.block_meaning.specs.ExpressionsInOrder.{CompoundTypes, computes, adds, takes}
use Rattle.block_meaning.specs.Memory.{object}
use Rattle.block_meaning.specs.Running.{Run, and_then, unit_then, State as MeaningState}
use Rattle.block_meaning.specs.declared.value.Pointer.{Pointer}
use Rattle.block_meaning.specs.declared.value.Value.{Value}
use Rattle.code_relation.specs.Laws.Outcomes.{spent}
use Rattle.code_relation.specs.Numbers.{IsNumber}
use Rattle.code_relation.specs.Sites.{units_of}
use Rattle.code_runs.specs.Bounded.{Account}
use Rattle.gen_base.specs.Accesses.{Behind, load_scalar, store_scalar}
use Rattle.gen_base.specs.Code.{Code as Items, plain, in_turn}
use Rattle.gen_base.specs.Operators.{combined as combined_code}
use Rattle.gen_base.specs.Registers.{left, scratch}
use Rattle.gen_base.specs.Waiting.{keep, fetch}
use Rattle.gen_expr.specs.Nodes.{compound_value}
use Rattle.code_follows.specs.Aligned.{AlignedSlots}
use Rattle.code_follows.specs.Covered.{combines_in}
use Rattle.code_follows.specs.Leaves.{value_leaves}
use Rattle.code_follows.specs.Parts.{On, Goes, PlaceFollows, ValueFollows, ValueNode, coded_in, site_in}
use Rattle.code_follows.specs.Scene.{Scene, IsScene, given_in, structs_in, frame_in, IsFree, Lies}
use Rattle.code_follows.specs.Values.{ValueIs}
use Rattle.code_follows.specs.Waits.{HasTemp, IsTemp}
use Rattle.code_follows.specs.Laws.Combining.{Goes-combines}
use Rattle.code_follows.specs.Laws.Coming.{pays}
use Rattle.code_follows.specs.Laws.FarAccesses.{Goes-reads_far, Goes-writes_far}
use Rattle.code_follows.specs.Laws.Going.{Goes-unit, Goes-done, On-at, Part-by}
use Rattle.code_follows.specs.Laws.Keeping.{value_lasts}
use Rattle.code_follows.specs.Laws.Layers.{coded-ty}
use Rattle.code_follows.specs.Laws.Lying.{Lies-turn, Lies-plain, Lies-none}
use Rattle.code_follows.specs.Laws.Nodes.AssignedSlot.{free_first, free_behind}
use Rattle.code_follows.specs.Laws.Nodes.CompoundSlot.{compound_named}
use Rattle.code_follows.specs.Laws.Nodes.Operated.{value_part}
use Rattle.code_follows.specs.Laws.Operand.{ValueIs-spent}
use Rattle.code_follows.specs.Laws.Paying.{IsNumber-spent}
use Rattle.code_follows.specs.Laws.PlaceWaits.{HasTemp-bytes, Goes-pointer, Goes-keeps_place, Goes-fetches}
use Rattle.code_follows.specs.Laws.Splitting.{has_two}
use Rattle.code_follows.specs.Laws.Temps.{waiting_laws}

module _ {k : Scene} (scene : IsScene k) (slots : AlignedSlots (units_of (given_in k))) (depth : ℕ) (o : AssignOperator) (a b : TExpr)
    (place : PlaceFollows k depth a) (value : ValueFollows k depth b) (types : CompoundTypes o a.ty b.ty)
    (combines : combines_in o a.ty b.ty ≡ true) (scalar : is_scalar a.ty ≡ true) (span around : Span) where
  abbrev at : Site
  at = site_in k depth span around a.ty

  abbrev rest : Pointer → Run Value
  rest p = and_then (value_of at.parts b) (λ v. unit_then (assign_effect at (Some o) a b p v))

  -- the pieces of the code behind the place, by the types
  abbrev pieces : ℕ → Reg → Ty → Ty → List Items
  pieces t r s u =
      plain (keep t r) ∷ (coded_in k b).value (suc t) r ∷ plain (fetch t scratch ++ load_scalar s (Behind scratch) left ∷ []) ∷
      combined_code (structs_in k) o s u r ∷ plain (fetch t scratch ++ store_scalar s (Behind scratch) r ∷ []) ∷ []

  -- through the place
  compound_far : {first : ℕ} {reg : Reg} {from to : ℕ} {acc : Account} {now : MeaningState} {s : State} →
      IsFree k (waiting (need a) (need b)) first reg →
      Lies k (compound_value (structs_in k) o None (coded_in k a) (coded_in k b) first reg) from to →
      On k first reg false s from acc 0 0 now s →
      Goes k first reg false (ValueIs (given_in k) a.ty) s to value_leaves acc (assign_node at (Some o) a b) now s
  compound_far {first} {reg} {from} {to} free lies on =
      let pointer_code = (coded_in k a).pointer first reg in
      let value_code = (coded_in k b).value (suc first) reg in
      let loads : List Instr = fetch first scratch ++ load_scalar a.ty (Behind scratch) left ∷ [] in
      let stores : List Instr = fetch first scratch ++ store_scalar a.ty (Behind scratch) reg ∷ [] in
      let own : Items = combined_code (structs_in k) o a.ty b.ty reg in
      let typed : Lies k (in_turn (pointer_code ∷ plain (keep first reg) ∷ value_code ∷ plain loads ∷ own ∷ plain stores ∷ [])) from to =
      subst (λ u. Lies k (in_turn (pointer_code ∷ pieces first reg a.ty u)) from to) (coded-ty (structs_in k) (frame_in k) b)
      (subst (λ t. Lies k (in_turn (pointer_code ∷ pieces first reg t (coded_in k b).ty)) from to) (coded-ty (structs_in k) (frame_in k) a)
      lies) in
      let one = Lies-turn pointer_code (plain (keep first reg) ∷ value_code ∷ plain loads ∷ own ∷ plain stores ∷ []) typed in
      let two = Lies-turn (plain (keep first reg)) (value_code ∷ plain loads ∷ own ∷ plain stores ∷ []) one.back in
      let three = Lies-turn value_code (plain loads ∷ own ∷ plain stores ∷ []) two.back in
      let four = Lies-turn (plain loads) (own ∷ plain stores ∷ []) three.back in
      let five = Lies-turn own (plain stores ∷ []) four.back in
      let six = Lies-turn (plain stores) [] five.back in
      let loading = has_two (fetch first scratch) (load_scalar a.ty (Behind scratch) left ∷ []) (Lies-plain loads four.front) in
      let storing = has_two (fetch first scratch) (store_scalar a.ty (Behind scratch) reg ∷ []) (Lies-plain stores six.front) in
      let free_b : IsFree k (need b + 1) first reg = free_behind (need a) (need b) free in
      let temp : IsTemp k first = record { within = omega (arith, free_b.temps); near = omega (arith, free_b.near) } in
      Goes-pointer scene {g = rest} (coded_in k a) place.part.pointer (free_first (need a) (need b) free) one.front on
      (λ p between u c owes spares pays_it enough came is.
      Goes-keeps_place scene (waiting_laws scene) p (coded_in k b) (value_part b value) (value_lasts k.bound k.here depth b.span b) free_b
      two.front three.front is came pays_it enough
      (λ v behind w d came_b place_is held value_is.
      Goes-fetches scene (waiting_laws scene) scratch 6 (omega arith) temp held loading.front came_b (omega arith)
      (λ x e there others byte fetched.
      Goes-unit fetched (λ owing.
      let number : IsNumber (given_in k) (spent behind) p (x.register 17) =
      subst (λ n. IsNumber (given_in k) (spent behind) p n) (sym there) (IsNumber-spent place_is.is) in
      let second : ValueIs (given_in k) b.ty v (spent behind) (x.register reg.0) =
      subst (λ n. ValueIs (given_in k) b.ty v (spent behind) n) (sym (others reg.0 (λ same. omega (arith, same, free.high))))
      (ValueIs-spent value_is) in
      Goes-reads_far scene slots a.ty scalar p a.span 60 scratch left (omega arith) (omega arith) loading.back number owing (omega arith)
      (omega (arith, pays scene))
      (λ old y h old_is others_load load_byte loaded.
      Goes-combines scene free.low free.high a.ty b.ty span (λ r. written at a.span (object a.ty p) r) 20 o types combines old v five.front
      old_is
      (subst (λ n. ValueIs (given_in k) b.ty v (spent behind) n) (sym (others_load reg.0 (λ same. omega (arith, same, free.high)))) second)
      loaded (omega arith)
      (λ r z j new own_byte done.
      let still : HasTemp k first (u.register reg.0) z = HasTemp-bytes (own_byte ∙ load_byte ∙ byte) held in
      Goes-fetches scene (waiting_laws scene) scratch 10 (omega arith) temp still storing.front done (omega arith)
      (λ q l again others_again last_byte fetched_again.
      let new_is : ValueIs (given_in k) a.ty r (spent behind) (q.register reg.0) =
      subst (λ n. ValueIs (given_in k) a.ty r (spent behind) n) (sym (others_again reg.0 (λ same. omega (arith, same, free.high)))) new in
      Goes-writes_far scene slots a.ty scalar p a.span value_leaves r scratch reg (omega arith) (omega (arith, free.high)) storing.back
      (subst (λ n. IsNumber (given_in k) (spent behind) p n) (sym again) (IsNumber-spent place_is.is)) new_is (omega (arith, free.temps))
      fetched_again (omega arith) (omega arith)
      (λ later f m registers keeps stored. Goes-done r (On-at (Lies-none six.back) stored) (omega arith)
      (subst (λ n. ValueIs (given_in k) a.ty r later n) (ap (λ g. g reg.0) (sym registers)) (keeps r (q.register reg.0) new_is))))))))))

-- ---- the node

first_true : (a b : Bool) → a ≡ true → (a || b) ≡ true
first_true true b is = refl
first_true false b is = absurd (cc)

second_true : (a b : Bool) → b ≡ true → (a || b) ≡ true
second_true true b is = refl
second_true false b is = is

-- the left side is a scalar
compound_scalar : {o : AssignOperator} {s t : Ty} → CompoundTypes o s t → is_scalar s ≡ true
compound_scalar {s = s} (computes first second) = first_true (is_integer s) (is_pointer s) first
compound_scalar {s = s} (adds first second) = second_true (is_integer s) (is_pointer s) first
compound_scalar {s = s} (takes first second) = second_true (is_integer s) (is_pointer s) first

pub compound_follows : (k : Scene) → IsScene k → AlignedSlots (units_of (given_in k)) → (depth : ℕ) (o : AssignOperator) (a b : TExpr) →
    PlaceFollows k depth a → ValueFollows k depth b → CompoundTypes o a.ty b.ty → combines_in o a.ty b.ty ≡ true →
    ValueNode k depth a.ty (TNode-F.Assign (Some o) a b)
compound_follows k scene slots depth o a b place value types combines = record {
  at = λ span around. record {
    part = Part-by (λ first reg from to free lies acc now s on.
        by_slot span around (coded_in k a).slot refl free lies on);
  };
}
  where
    by_slot : {first : ℕ} {reg : Reg} {from to : ℕ} {acc : Account} {now : MeaningState} {s : State} (span around : Span) (x : Option ℕ) →
        (coded_in k a).slot ≡ x → IsFree k (waiting (need a) (need b)) first reg →
        Lies k (compound_value (structs_in k) o x (coded_in k a) (coded_in k b) first reg) from to →
        On k first reg false s from acc 0 0 now s →
        Goes k first reg false (ValueIs (given_in k) a.ty) s to value_leaves acc
        (assign_node (site_in k depth span around a.ty) (Some o) a b) now s
    by_slot {now = now} span around (Some start) is free lies on =
        compound_named scene depth o a b place value types combines (compound_scalar types) span around start free lies on
        (place.part.slot start is now)
    by_slot span around None is free lies on =
        compound_far scene slots depth o a b place value types combines (compound_scalar types) span around free lies on
