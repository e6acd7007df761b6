-- The code of `&&` and `||` does what they mean (this project's own).
use Rattle.std.specs.Prelude.{◌≡◌, ℕ, ◌^◌, ◌<◌, ◌≤◌, Bool, true, false, nat_eq, not, [], ◌∷◌, refl}
use Rattle.std.proofs.Common.{arith, ap, sym, subst, ◌∙◌}
use Rattle.c_ast.specs.declared.operator.BinaryOperator.{BinaryOperator}
use Rattle.c_ast.specs.declared.operator.BinaryOperator.TheVariants as binary
use Rattle.c_type_base.specs.Arithmetic.{truth}
use Rattle.c_type_base.specs.Types.{is_scalar}
use Rattle.c_type_base.specs.declared.expr.TExpr.{TExpr}
use Rattle.c_type_base.specs.declared.expr.TNode.TheOpen.{TNode-F}
use Rattle.a64_code.specs.declared.instr.Reg.{Reg}
use Rattle.a64_code.specs.State.{State}
use Rattle.block_meaning.specs.Expressions.{value_of, parts_at, same_truth}
use Rattle.block_meaning.specs.ExpressionsInOrder.{int_type, Logical, group_of}
use Rattle.block_meaning.specs.Operators.{is_true, number_of_truth}
use Rattle.block_meaning.specs.Running.{Run, gives, and_then, choice, goes_on, State as MeaningState}
use Rattle.block_meaning.specs.declared.value.Value.{Value}
use Rattle.code_relation.specs.Items.{JumpsOnZero}
use Rattle.code_runs.specs.Bounded.{Account}
use Rattle.frame_layout.specs.Needs.{need}
use Rattle.gen_base.specs.Code.{Code as Items, only, plain, in_turn, labelled}
use Rattle.gen_base.specs.Integers.{is_other}
use Rattle.gen_laws.specs.Computes.{Computes, all}
use Rattle.gen_laws.specs.Laws.Comparisons.{is_other-computes}
use Rattle.sym_code.specs.declared.item.SymItem.{SymItem}
use Rattle.sym_code.specs.declared.item.SymItem.TheVariants as item
use Rattle.code_follows.specs.Leaves.{value_leaves}
use Rattle.code_follows.specs.Parts.{On, Goes, ValueFollows, ValueNode, coded_in}
use Rattle.code_follows.specs.Scene.{Scene, IsScene, given_in, calls_in, Lies, IsFree}
use Rattle.code_follows.specs.Values.{ValueIs}
use Rattle.code_follows.specs.Laws.Coming.{pays, pays-some}
use Rattle.code_follows.specs.Laws.Computing.{Suits-own}
use Rattle.code_follows.specs.Laws.Going.{Goes-unit, Goes-choice, Goes-part, Goes-computes, Goes-done, Part-by}
use Rattle.code_follows.specs.Laws.Jumping.{Lies-at, IsFree-less, Lies-label, Lies-zero, Lies-other, on_zero_jump, on_other_jump}
use Rattle.code_follows.specs.Laws.Jumping.{jump_inside, true_number, false_number, Goes-jump, le_left, le_right}
use Rattle.code_follows.specs.Laws.Lying.{HasInstrs, Lies-turn, Lies-none, Lies-labelled, Lies-plain}
use Rattle.code_follows.specs.Laws.Nodes.Denied.{truth_is, other_listed}
use Rattle.code_follows.specs.Laws.Operand.{ValueIs-spent, Lies-two, IsAt-on, begins, Does, computes_it, is_undefined, Goes-does}
use Rattle.code_follows.specs.Laws.Truth.{PointersTrue, TruthIs, known, unknown, ValueIs-truth, Goes-truth}

-- ---- the code behind the branch

abbrev second_way : SymItem → Reg → Items → ℕ → Items
second_way branch r b l = in_turn (only branch ∷ b ∷ plain (is_other r) ∷ only (item.Label l) ∷ [])

record LiesSecond (k : Scene) (branch : SymItem) (r : Reg) (b : Items) (l from to : ℕ) : Type 0 where
  start : ℕ
  end : ℕ
  branch_lies : Lies k (only branch) from start
  second : Lies k b start end
  truth_lies : HasInstrs k (is_other r) end to
  label_is : k.label l ≡ to

lies_second : {k : Scene} {from to : ℕ} (branch : SymItem) (r : Reg) (b : Items) (l : ℕ) → Lies k (second_way branch r b l) from to →
    LiesSecond k branch r b l from to
lies_second {k} {from} {to} branch r b l lies =
    let p = Lies-turn (only branch) (b ∷ plain (is_other r) ∷ only (item.Label l) ∷ []) lies in
    let q = Lies-turn b (plain (is_other r) ∷ only (item.Label l) ∷ []) p.back in
    let o = Lies-turn (plain (is_other r)) (only (item.Label l) ∷ []) q.back in
    let e = Lies-turn (only (item.Label l)) [] o.back in
    let last = Lies-label l e.front in
    let end_is : o.middle ≡ to = last.none ∙ Lies-none e.back in
    record {
      start = p.middle;
      end = q.middle;
      branch_lies = p.front;
      second = q.front;
      truth_lies = Lies-plain (is_other r) (Lies-at refl end_is o.front);
      label_is = last.label ∙ end_is;
    }

module _ (k : Scene) (scene : IsScene k) (pointers : PointersTrue k) (depth : ℕ) (a b : TExpr)
    (one : ValueFollows k depth a) (one_scalar : is_scalar a.ty ≡ true) (other : ValueFollows k depth b)
    (other_scalar : is_scalar b.ty ≡ true) where
  value : TExpr → Run Value
  value e = value_of (parts_at (calls_in k) k.here depth) e

  -- the truth of the second
  second_run : Run Value
  second_run = and_then (value b) (λ w. and_then (is_true k.here b.span w) (λ second. gives (number_of_truth second)))

  by_truth : (reg : Reg) (w : Value) (now : MeaningState) (s : State) → reg.0 < 31 → s.register reg.0 < 2 ^ 64 → s.pc < 2 ^ 56 →
      TruthIs k.here b.span w (s.register reg.0) now →
      Does (ValueIs (given_in k) int_type) (is_other reg) reg
      (and_then (is_true k.here b.span w) (λ second. gives (number_of_truth second))) now s
  by_truth reg w now s small fits room (known is) =
      let holds : Bool = not (nat_eq (s.register reg.0) 0) in
      computes_it (number_of_truth holds) (truth holds) (ap (λ r. goes_on r (λ second. gives (number_of_truth second))) is)
      (is_other-computes reg (s.register reg.0) s small refl fits (omega (arith, room)))
      (truth_is holds)
  by_truth reg w now s small fits room (unknown u is none) =
      is_undefined u (ap (λ r. goes_on r (λ second. gives (number_of_truth second))) is) none

  -- from where the second begins
  goes_second : {first : ℕ} {reg : Reg} {s : State} {from end to : ℕ} {acc : Account} {spare : ℕ} {now : MeaningState} {u : State} →
      IsFree k (need b) first reg → Lies k ((coded_in k b).value first reg) from end → HasInstrs k (is_other reg) end to →
      On k first reg false s from acc 0 spare now u → 39 ≤ spare →
      Goes k first reg false (ValueIs (given_in k) int_type) s to value_leaves acc second_run now u
  unfolding value second_run
  goes_second {first} {reg} {s} {from} {end} {to} free lies has on enough =
      Goes-part ((other.around b.span).part.yields first reg from end free lies) (omega arith) (λ alone. absurd (cc)) (pays-some scene) on
      (λ w then x n came gave.
      Goes-does has (other_listed reg) (omega (arith, free.high)) came (omega arith) (omega (arith, enough))
      (by_truth reg w then x (omega (arith, free.high)) (came.came.comes.relates.injects.in_range.registers reg.0)
      (omega (arith, came.came.comes.pc, (begins (is_other reg) (omega arith) has).has.below))
      (ValueIs-truth pointers came.came.comes.relates b.span b.ty w (x.register reg.0) other_scalar gave.result_is)))

  -- where the first one does not decide, the second does, and else nothing more is done
  decided : Bool → Bool → Run Value
  decided decides first = choice (same_truth first decides) (gives (number_of_truth decides)) second_run

  and_decides : (holds : Bool) → same_truth holds false ≡ true → holds ≡ false
  and_decides true is = absurd (cc)
  and_decides false is = refl

  and_goes : (holds : Bool) → same_truth holds false ≡ false → holds ≡ true
  and_goes true is = refl
  and_goes false is = absurd (cc)

  and_part : {first : ℕ} {reg : Reg} {s : State} {l from to : ℕ} {acc : Account} {spare : ℕ} {now : MeaningState} {u : State} →
      IsFree k (need b) first reg → LiesSecond k (item.JumpIfZero reg l) reg ((coded_in k b).value first reg) l from to →
      On k first reg false s from acc 1 spare now u → 41 ≤ spare →
      Goes k first reg false (ValueIs (given_in k) int_type) s to value_leaves acc (decided false (not (nat_eq (u.register reg.0) 0))) now u
  unfolding decided
  and_part {first} {reg} {s} {l} {from} {to} {acc} {spare} {now} {u} free way on enough =
      let small : reg.0 < 31 = omega (arith, free.high) in
      let holds : Bool = not (nat_eq (u.register reg.0) 0) in
      let branch : JumpsOnZero k.code from to way.start reg =
      subst (λ (at : ℕ). JumpsOnZero k.code from at way.start reg) way.label_is (Lies-zero reg l way.branch_lies) in
      Goes-choice (same_truth holds false)
      (λ yes. let is : u.register reg.0 ≡ 0 = false_number (u.register reg.0) (and_decides holds yes) in
      Goes-jump value_leaves (on_zero_jump branch small u (IsAt-on on) is) on (omega arith) (omega (arith, enough))
      (λ done. Goes-done (number_of_truth false) done (omega arith)
      (subst (λ (n : ℕ). ValueIs (given_in k) int_type (number_of_truth false) now n) (sym is) (truth_is false))))
      (λ no.
      Goes-jump 39 (on_other_jump branch small u (IsAt-on on) (true_number (u.register reg.0) (and_goes holds no))) on (omega arith)
      (omega (arith, enough)) (λ there. goes_second free way.second way.truth_lies there (omega arith)))

  or_decides : (holds : Bool) → same_truth holds true ≡ true → holds ≡ true
  or_decides true is = refl
  or_decides false is = absurd (cc)

  or_goes : (holds : Bool) → same_truth holds true ≡ false → holds ≡ false
  or_goes true is = absurd (cc)
  or_goes false is = refl

  -- behind the truth of the first
  or_part : {first : ℕ} {reg : Reg} {s : State} {l from to : ℕ} {acc : Account} {spare : ℕ} {now : MeaningState}
      {u : State} (holds : Bool) →
      u.register reg.0 ≡ truth holds →
      IsFree k (need b) first reg → LiesSecond k (item.JumpIfNotZero reg l) reg ((coded_in k b).value first reg) l from to →
      On k first reg false s from acc 0 spare now u → 41 ≤ spare →
      Goes k first reg false (ValueIs (given_in k) int_type) s to value_leaves acc (decided true holds) now u
  unfolding decided
  or_part {first} {reg} {s} {l} {from} {to} {acc} {spare} {now} {u} holds register_is free way on enough =
      let small : reg.0 < 31 = omega (arith, free.high) in
      let branch : JumpsOnZero k.code from way.start to reg =
      subst (λ (at : ℕ). JumpsOnZero k.code from way.start at reg) way.label_is (Lies-other reg l way.branch_lies) in
      Goes-choice (same_truth holds true)
      (λ yes. let is : u.register reg.0 ≡ 1 = register_is ∙ ap truth (or_decides holds yes) in
      Goes-jump value_leaves (on_other_jump branch small u (IsAt-on on) (λ none. omega (arith, is, none))) on (omega arith)
      (omega (arith, enough))
      (λ done. Goes-done (number_of_truth true) done (omega arith)
      (subst (λ (n : ℕ). ValueIs (given_in k) int_type (number_of_truth true) now n) (sym is) (truth_is true))))
      (λ no. let is : u.register reg.0 ≡ 0 = register_is ∙ ap truth (or_goes holds no) in
      Goes-jump 39 (on_zero_jump branch small u (IsAt-on on) is) on (omega arith)
      (omega (arith, enough)) (λ there. goes_second free way.second way.truth_lies there (omega arith)))

  and_follows : ValueNode k depth int_type (TNode-F.Binary binary.And a b)
  unfolding value second_run decided
  and_follows = record {
    at = λ span around. record {
      part = Part-by (λ first reg from to free lies acc now s on.
          let second = (coded_in k b).value first reg in
          let pieces = Lies-two ((coded_in k a).value first reg)
          (labelled (λ l. second_way (item.JumpIfZero reg l) reg second l)) lies in
          let named = Lies-labelled (λ l. second_way (item.JumpIfZero reg l) reg second l) pieces.back in
          let way = lies_second (item.JumpIfZero reg named.number) reg second named.number named.lies in
          let small : reg.0 < 31 = omega (arith, free.high) in
          Goes-part ((one.around a.span).part.yields first reg from pieces.middle
          (IsFree-less (need a) (le_left (need a) (need b)) free) pieces.front)
          (omega arith) (λ alone. absurd (cc)) (pays-some scene) on (λ v then u n after gave.
          Goes-unit after (λ owing.
          Goes-truth (decided false)
          (ValueIs-truth pointers owing.came.comes.relates a.span a.ty v (u.register reg.0) one_scalar (ValueIs-spent gave.result_is))
          (jump_inside (Lies-zero reg named.number way.branch_lies) small u (IsAt-on owing)) owing (omega arith) (omega (arith, pays scene))
          (and_part (IsFree-less (need b) (le_right (need a) (need b)) free) way owing (omega (arith, pays scene))))));
    };
  }

  or_follows : ValueNode k depth int_type (TNode-F.Binary binary.Or a b)
  unfolding value second_run decided
  or_follows = record {
    at = λ span around. record {
      part = Part-by (λ first reg from to free lies acc now s on.
          let second = (coded_in k b).value first reg in
          let code : Items = labelled (λ l. second_way (item.JumpIfNotZero reg l) reg second l) in
          let pieces = Lies-turn ((coded_in k a).value first reg) (plain (is_other reg) ∷ code ∷ []) lies in
          let rest = Lies-two (plain (is_other reg)) code pieces.back in
          let named = Lies-labelled (λ l. second_way (item.JumpIfNotZero reg l) reg second l) rest.back in
          let way = lies_second (item.JumpIfNotZero reg named.number) reg second named.number named.lies in
          let has : HasInstrs k (is_other reg) pieces.middle rest.middle = Lies-plain (is_other reg) rest.front in
          let small : reg.0 < 31 = omega (arith, free.high) in
          Goes-part ((one.around a.span).part.yields first reg from pieces.middle
          (IsFree-less (need a) (le_left (need a) (need b)) free) pieces.front)
          (omega arith) (λ alone. absurd (cc)) (pays-some scene) on (λ v then u n after gave.
          Goes-unit after (λ owing.
          let start = begins (is_other reg) (omega arith) has in
          let holds : Bool = not (nat_eq (u.register reg.0) 0) in
          Goes-truth (decided true)
          (ValueIs-truth pointers owing.came.comes.relates a.span a.ty v (u.register reg.0) one_scalar (ValueIs-spent gave.result_is))
          (start.has.inside u (IsAt-on owing)) owing (omega arith) (omega (arith, pays scene))
          (let puts : Computes (is_other reg) reg (truth holds) all u =
          is_other-computes reg (u.register reg.0) u small refl (owing.came.comes.relates.injects.in_range.registers reg.0)
          (omega (arith, owing.came.comes.pc, start.has.below)) in
          Goes-computes 41 has (other_listed reg).quiet puts (Suits-own false reg (omega (arith, free.high))) owing (omega arith)
          (omega (arith, pays scene)) (λ there.
          or_part holds puts.holds (IsFree-less (need b) (le_right (need a) (need b)) free) way there (omega arith))))));
    };
  }

pub logical_follows : (k : Scene) → IsScene k → PointersTrue k → (depth : ℕ) (o : BinaryOperator) (a b : TExpr) → group_of o ≡ Logical →
    ValueFollows k depth a → is_scalar a.ty ≡ true → ValueFollows k depth b → is_scalar b.ty ≡ true →
    ValueNode k depth int_type (TNode-F.Binary o a b)
logical_follows k scene pointers depth binary.And a b is one one_scalar other other_scalar =
    and_follows k scene pointers depth a b one one_scalar other other_scalar
logical_follows k scene pointers depth binary.Or a b is one one_scalar other other_scalar =
    or_follows k scene pointers depth a b one one_scalar other other_scalar
logical_follows k scene pointers depth _ a b is one one_scalar other other_scalar = absurd (cc)
