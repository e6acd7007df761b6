-- The code of `?:` does what it means (this project's own).
use Rattle.std.specs.Prelude.{◌≡◌, ℕ, suc, ◌<◌, ◌≤◌, true, false, nat_eq, not, max, [], ◌∷◌}
use Rattle.std.proofs.Common.{arith, sym, subst, ◌∙◌}
use Rattle.c_type_base.specs.Types.{is_scalar}
use Rattle.c_type_base.specs.declared.expr.TExpr.{TExpr}
use Rattle.c_type_base.specs.declared.expr.TNode.TheOpen.{TNode-F}
use Rattle.c_type_base.specs.declared.ty.Ty.{Ty}
use Rattle.a64_code.specs.declared.instr.Reg.{Reg}
use Rattle.a64_code.specs.State.{State}
use Rattle.block_meaning.specs.Expressions.{value_of, parts_at}
use Rattle.block_meaning.specs.Running.{Run, choice, State as MeaningState}
use Rattle.block_meaning.specs.declared.value.Value.{Value}
use Rattle.code_relation.specs.Items.{JumpsOnZero}
use Rattle.code_runs.specs.Bounded.{Account}
use Rattle.frame_layout.specs.Needs.{need}
use Rattle.gen_base.specs.Code.{Code as Items, only, in_turn, labelled}
use Rattle.sym_code.specs.declared.item.SymItem.TheVariants as item
use Rattle.code_follows.specs.Leaves.{value_leaves}
use Rattle.code_follows.specs.Parts.{On, Goes, ValueFollows, ValueNode, coded_in}
use Rattle.code_follows.specs.Scene.{Scene, IsScene, given_in, calls_in, Lies, IsFree}
use Rattle.code_follows.specs.Values.{ValueIs}
use Rattle.code_follows.specs.Laws.Coming.{pays, pays-some}
use Rattle.code_follows.specs.Laws.Going.{Goes-same, Goes-unit, Goes-choice, Goes-part, Goes-done, Part-by}
use Rattle.code_follows.specs.Laws.Here.{and_then-gives}
use Rattle.code_follows.specs.Laws.Jumping.{Lies-at, IsFree-less, Lies-label, Jumps, Lies-jump, Lies-zero, on_zero_jump, on_other_jump}
use Rattle.code_follows.specs.Laws.Jumping.{jump_inside, true_number, false_number, Goes-jump, le_left, le_right}
use Rattle.code_follows.specs.Laws.Lying.{Lies-turn, Lies-none, Lies-labelled}
use Rattle.code_follows.specs.Laws.Operand.{ValueIs-spent, Lies-two, IsAt-on}
use Rattle.code_follows.specs.Laws.Truth.{PointersTrue, ValueIs-truth, Goes-truth}

-- the code behind the condition
abbrev both_ways : Reg → Items → Items → ℕ → Items
both_ways r a b l = in_turn (only (item.JumpIfZero r l) ∷ a ∷ only (item.Jump (suc l)) ∷ only (item.Label l) ∷ b ∷ only (item.Label
    (suc l)) ∷ [])

-- where it is 0 the second way, which ends at the end, and else the first, from which a jump leads there
record LiesBoth (k : Scene) (r : Reg) (a b : Items) (from to : ℕ) : Type 0 where
  other : ℕ
  start : ℕ
  end : ℕ
  branch : JumpsOnZero k.code from other start r
  first : Lies k a start end
  over : Jumps k end to
  second : Lies k b other to

lies_both : {k : Scene} {from to : ℕ} (r : Reg) (a b : Items) (l : ℕ) → Lies k (both_ways r a b l) from to → LiesBoth k r a b from to
lies_both {k} {from} {to} r a b l lies =
    let p = Lies-turn (only (item.JumpIfZero r l))
    (a ∷ only (item.Jump (suc l)) ∷ only (item.Label l) ∷ b ∷ only (item.Label (suc l)) ∷ []) lies in
    let q = Lies-turn a (only (item.Jump (suc l)) ∷ only (item.Label l) ∷ b ∷ only (item.Label (suc l)) ∷ []) p.back in
    let j = Lies-turn (only (item.Jump (suc l))) (only (item.Label l) ∷ b ∷ only (item.Label (suc l)) ∷ []) q.back in
    let m = Lies-turn (only (item.Label l)) (b ∷ only (item.Label (suc l)) ∷ []) j.back in
    let o = Lies-turn b (only (item.Label (suc l)) ∷ []) m.back in
    let e = Lies-turn (only (item.Label (suc l))) [] o.back in
    let second = Lies-label l m.front in
    let last = Lies-label (suc l) e.front in
    let end_is : o.middle ≡ to = last.none ∙ Lies-none e.back in
    record {
      other = k.label l;
      start = p.middle;
      end = q.middle;
      branch = Lies-zero r l p.front;
      first = q.front;
      over = subst (λ (at : ℕ). Jumps k q.middle at) (last.label ∙ end_is) (Lies-jump (suc l) j.front);
      second = Lies-at (sym second.none ∙ sym second.label) end_is o.front;
    }

module _ (k : Scene) (scene : IsScene k) (pointers : PointersTrue k) (depth : ℕ) (c a b : TExpr) (t : Ty)
    (condition : ValueFollows k depth c) (scalar : is_scalar c.ty ≡ true) (one : ValueFollows k depth a) (one_is : a.ty ≡ t)
    (other : ValueFollows k depth b) (other_is : b.ty ≡ t) where
  value : TExpr → Run Value
  value e = value_of (parts_at (calls_in k) k.here depth) e

  typed : {u : Ty} {v : Value} {now : MeaningState} {n : ℕ} → u ≡ t → ValueIs (given_in k) u v now n → ValueIs (given_in k) t v now n
  typed {u} {v} {now} {n} same is = subst (λ t. ValueIs (given_in k) t v now n) same is

  -- from the branch on
  goes_both : {first : ℕ} {reg : Reg} {s : State} {from to : ℕ} {acc : Account} {spare : ℕ} {now : MeaningState} {u : State} →
      IsFree k (max (need a) (need b)) first reg → LiesBoth k reg ((coded_in k a).value first reg)
      ((coded_in k b).value first reg) from to →
      On k first reg false s from acc 1 spare now u → 16 ≤ spare →
      Goes k first reg false (ValueIs (given_in k) t) s to value_leaves acc (choice (not (nat_eq (u.register reg.0) 0)) (value a)
      (value b)) now u
  unfolding value
  goes_both {first} {reg} {s} {from} {to} {acc} {spare} {now} {u} free both on enough =
      Goes-choice (not (nat_eq (u.register reg.0) 0))
      (λ yes.
      Goes-jump 14 (on_other_jump both.branch (omega (arith, free.high)) u (IsAt-on on)
      (true_number (u.register reg.0) yes)) on (omega arith)
      (omega (arith, enough)) (λ there.
      Goes-same (and_then-gives (value a) now)
      (Goes-part ((one.around a.span).part.yields first reg both.start both.end (IsFree-less (need a) (le_left (need a)
      (need b)) free) both.first)
      (omega arith) (λ alone. absurd (cc)) (pays-some scene) there (λ v then w n came gave.
      Goes-jump value_leaves (both.over.jumps w (IsAt-on came)) came (omega arith) (omega arith)
      (λ done. Goes-done v done (omega arith) (typed one_is gave.result_is))))))
      (λ no.
      Goes-jump 14 (on_zero_jump both.branch (omega (arith, free.high)) u (IsAt-on on)
      (false_number (u.register reg.0) no)) on (omega arith)
      (omega (arith, enough)) (λ there.
      Goes-same (and_then-gives (value b) now)
      (Goes-part ((other.around b.span).part.yields first reg both.other to (IsFree-less (need b) (le_right (need a)
      (need b)) free) both.second)
      (omega arith) (λ alone. absurd (cc)) (pays-some scene) there (λ v then w n came gave.
      Goes-done v came (omega arith) (typed other_is gave.result_is)))))

  pub chosen_follows : ValueNode k depth t (TNode-F.Cond c a b)
  unfolding value
  chosen_follows = record {
    at = λ span around. record {
      part = Part-by (λ first reg from to free lies acc now s on.
          let pieces = Lies-two ((coded_in k c).value first reg)
          (labelled (both_ways reg ((coded_in k a).value first reg) ((coded_in k b).value first reg))) lies in
          let named = Lies-labelled (both_ways reg ((coded_in k a).value first reg) ((coded_in k b).value first reg)) pieces.back in
          let both = lies_both reg ((coded_in k a).value first reg) ((coded_in k b).value first reg) named.number named.lies in
          let small : reg.0 < 31 = omega (arith, free.high) in
          Goes-part ((condition.around c.span).part.yields first reg from pieces.middle
          (IsFree-less (need c) (le_left (need c) (max (need a) (need b))) free) pieces.front)
          (omega arith) (λ alone. absurd (cc)) (pays-some scene) on (λ v then u n after gave.
          Goes-unit after (λ owing.
          Goes-truth (λ holds. choice holds (value a) (value b))
          (ValueIs-truth pointers owing.came.comes.relates c.span c.ty v (u.register reg.0) scalar (ValueIs-spent gave.result_is))
          (jump_inside both.branch small u (IsAt-on owing)) owing (omega arith) (omega (arith, pays scene))
          (goes_both (IsFree-less (max (need a) (need b)) (le_right (need c) (max (need a) (need b))) free) both owing
          (omega (arith, pays scene))))));
    };
  }
