-- The code of `=` does what it means for scalars (ISO C11 6.5.16.1): a local in reach is stored to from SP, and any other object through
-- its place, which waits.
use Rattle.std.specs.Prelude.{◌≡◌, ℕ, true, false, [], ◌∷◌, Option, Some, None, refl}
use Rattle.std.proofs.Common.{arith, ap, sym, subst}
use Rattle.c_type_base.specs.Types.{is_scalar}
use Rattle.c_type_base.specs.declared.expr.TExpr.{TExpr}
use Rattle.c_type_base.specs.declared.expr.TNode.TheOpen.{TNode-F}
use Rattle.a64_code.specs.declared.instr.Reg.{Reg}
use Rattle.a64_code.specs.State.{State}
use Rattle.frame_layout.specs.Needs.{need, waiting}
use Rattle.block_meaning.specs.Expressions.{assign_node}
use Rattle.block_meaning.specs.Running.{State as MeaningState}
use Rattle.c_ast.specs.declared.token.Span.{Span}
use Rattle.code_relation.specs.Laws.Outcomes.{spent}
use Rattle.code_relation.specs.Numbers.{IsNumber}
use Rattle.code_relation.specs.Sites.{units_of}
use Rattle.code_runs.specs.Bounded.{Account}
use Rattle.gen_base.specs.Accesses.{Behind, store_scalar}
use Rattle.gen_base.specs.Code.{plain, in_turn}
use Rattle.gen_base.specs.Registers.{scratch}
use Rattle.gen_expr.specs.Nodes.{first_waits, assign_value}
use Rattle.code_follows.specs.Aligned.{AlignedSlots}
use Rattle.code_follows.specs.Leaves.{value_leaves}
use Rattle.code_follows.specs.Parts.{On, Goes, PlaceFollows, ValueFollows, ValueNode, coded_in, site_in}
use Rattle.code_follows.specs.Scene.{Scene, IsScene, given_in, structs_in, frame_in, IsFree, Lies}
use Rattle.code_follows.specs.Values.{ValueIs}
use Rattle.code_follows.specs.Laws.Coming.{pays}
use Rattle.code_follows.specs.Laws.FarAccesses.{Goes-writes_far}
use Rattle.code_follows.specs.Laws.Going.{Goes-same, Goes-unit, Goes-done, On-at, Part-by}
use Rattle.code_follows.specs.Laws.Keeping.{value_lasts}
use Rattle.code_follows.specs.Laws.Layers.{coded-ty}
use Rattle.code_follows.specs.Laws.Lying.{Lies-turn, Lies-plain, Lies-none}
use Rattle.code_follows.specs.Laws.Nodes.AssignedSlot.{assigned-scalar, free_first, free_behind, named}
use Rattle.code_follows.specs.Laws.Nodes.Operated.{value_part}
use Rattle.code_follows.specs.Laws.Operand.{ValueIs-spent}
use Rattle.code_follows.specs.Laws.Paying.{IsNumber-spent}
use Rattle.code_follows.specs.Laws.PlaceWaits.{Goes-place}
use Rattle.code_follows.specs.Laws.Temps.{waiting_laws}

module _ {k : Scene} (scene : IsScene k) (slots : AlignedSlots (units_of (given_in k))) (depth : ℕ) (a b : TExpr)
    (place : PlaceFollows k depth a) (value : ValueFollows k depth b) (same : b.ty ≡ a.ty) (scalar : is_scalar a.ty ≡ true)
    (span around : Span) where
  -- through the place
  far : {first : ℕ} {reg : Reg} {from to : ℕ} {acc : Account} {now : MeaningState} {s : State} →
      IsFree k (waiting (need a) (need b)) first reg → Lies k (assign_value None (coded_in k a) (coded_in k b) first reg) from to →
      On k first reg false s from acc 0 0 now s →
      Goes k first reg false (ValueIs (given_in k) a.ty) s to value_leaves acc
      (assign_node (site_in k depth span around a.ty) None a b) now s
  far {first} {reg} {from} {to} free lies on =
      let waits_code = first_waits scratch (coded_in k a).pointer (coded_in k b) first reg in
      let typed : Lies k (in_turn (waits_code ∷ plain (store_scalar a.ty (Behind scratch) reg ∷ []) ∷ [])) from to =
      subst (λ t. Lies k (in_turn (waits_code ∷ plain (store_scalar t (Behind scratch) reg ∷ []) ∷ [])) from to)
      (coded-ty (structs_in k) (frame_in k) a) lies in
      let one = Lies-turn waits_code (plain (store_scalar a.ty (Behind scratch) reg ∷ []) ∷ []) typed in
      let two = Lies-turn (plain (store_scalar a.ty (Behind scratch) reg ∷ [])) [] one.back in
      Goes-place scene (waiting_laws scene) scratch (coded_in k a) (coded_in k b) (omega arith) (omega arith) place.part.pointer
      (value_part b value) (value_lasts k.bound k.here depth b.span b) (free_first (need a) (need b) free)
      (free_behind (need a) (need b) free) one.front on
      (λ p v behind u c number came place_is there value_is.
      Goes-unit came (λ owing.
      let is : ValueIs (given_in k) a.ty v (spent behind) (u.register reg.0) =
      subst (λ t. ValueIs (given_in k) t v (spent behind) (u.register reg.0)) same (ValueIs-spent value_is) in
      Goes-same (assigned-scalar (site_in k depth span around a.ty) a b p v scalar is.of (spent behind))
      (Goes-writes_far scene slots a.ty scalar p a.span value_leaves v scratch reg (omega arith) (omega (arith, free.high))
      (Lies-plain (store_scalar a.ty (Behind scratch) reg ∷ []) two.front)
      (subst (λ n. IsNumber (given_in k) (spent behind) p n) (sym there) (IsNumber-spent place_is.is)) is
      (omega (arith, free.temps)) owing (omega arith) (omega (arith, pays scene))
      (λ then w d registers keeps done. Goes-done v (On-at (Lies-none two.back) done) (omega arith)
      (subst (λ n. ValueIs (given_in k) a.ty v then n) (ap (λ g. g reg.0) (sym registers)) (keeps v (u.register reg.0) is))))))

pub assigned_follows : (k : Scene) → IsScene k → AlignedSlots (units_of (given_in k)) → (depth : ℕ) (a b : TExpr) → PlaceFollows k depth a →
    ValueFollows k depth b → b.ty ≡ a.ty → is_scalar a.ty ≡ true → ValueNode k depth a.ty (TNode-F.Assign None a b)
assigned_follows k scene slots depth a b place value same scalar = record {
  at = λ span around. record {
    part = Part-by (λ first reg from to free lies acc now s on.
        by_slot span around (coded_in k a).slot refl free lies on);
  };
}
  where
    by_slot : {first : ℕ} {reg : Reg} {from to : ℕ} {acc : Account} {now : MeaningState} {s : State} (span around : Span) (o : Option ℕ) →
        (coded_in k a).slot ≡ o → IsFree k (waiting (need a) (need b)) first reg →
        Lies k (assign_value o (coded_in k a) (coded_in k b) first reg) from to → On k first reg false s from acc 0 0 now s →
        Goes k first reg false (ValueIs (given_in k) a.ty) s to value_leaves acc
        (assign_node (site_in k depth span around a.ty) None a b) now s
    by_slot {now = now} span around (Some start) is free lies on =
        named scene depth a b place value same scalar span around start free lies on (place.part.slot start is now)
    by_slot span around None is free lies on = far scene slots depth a b place value same scalar span around free lies on
