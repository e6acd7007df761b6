-- The lives of a scope's locals end where it is left (this project's own).
use Rattle.std.specs.Prelude.{◌≡◌, ℕ, Bool, true, false, nat_eq, List, [], ◌∷◌, Option, Some, None, refl}
use Rattle.std.specs.List.{Contains}
use Rattle.std.proofs.Common.{arith, ap, sym, subst, inl, inr, ◌∙◌}
use Rattle.std.proofs.Math.Path.{fun_ext}
use Rattle.std.proofs.lemmas.Bool.{eqb-true}
use Rattle.std.proofs.lemmas.Bool.Decides.{nat_tests}
use Rattle.a64_code.specs.State.{State}
use Rattle.block_meaning.specs.Blocks.{ended, changed, with_block}
use Rattle.block_meaning.specs.Locals.{latest, end_locals}
use Rattle.block_meaning.specs.Running.{Call, Context, Run, Goes, and_then, with_blocks, with_some, goes_on, State as MeaningState}
use Rattle.block_meaning.specs.declared.kind.Kind.TheVariants.{Local}
use Rattle.block_meaning.specs.declared.value.Value.{Value}
use Rattle.code_relation.specs.Follows.{Code}
use Rattle.code_relation.specs.Numbers.{Holds}
use Rattle.code_relation.specs.Relates.{Relates}
use Rattle.code_relation.specs.Sites.{Given, units_of}
use Rattle.code_relation.specs.Stands.{AreCalls, IsInScope}
use Rattle.code_runs.specs.Bounded.{Account, Room}
use Rattle.stmt_follows.specs.Parts.{Proceeds}
use Rattle.stmt_follows.specs.Laws.Conditions.{and_then-apart}
use Rattle.stmt_follows.specs.Laws.Locals.Basics.{if_true, if_false, same_some, without, others_stay}
use Rattle.stmt_follows.specs.Laws.Locals.Ended.{with_dead, IsEnding, Holds-ended, Relates-ended}
use Rattle.stmt_follows.specs.Laws.Locals.Entering.{IsSafeCall}
use Rattle.stmt_follows.specs.Laws.Locals.Lists.{contains_none, contains_first, contains_more, contains_cases, AreDifferent}
use Rattle.stmt_follows.specs.Laws.Proceeding.{Proceeds-same, Proceeds-from, Proceeds-stuck}

-- the context without some locals
abbrev pub without_all : List ℕ → Context → Context
without_all [] here = here
without_all (k ∷ ks) here = without_all ks (without k here)

-- ---- the context round the scope

same_context : (x y : Context) → x.program ≡ y.program → x.unit ≡ y.unit → x.open_calls ≡ y.open_calls → x.local ≡ y.local → x ≡ y
same_context x y program unit open_calls local =
    λ i. record { program = program i; unit = unit i; open_calls = open_calls i; local = local i }

-- some context is like another but for locals that have no block there
pub record IsLike (here : Context) (ks : List ℕ) (mid : Context) : Type 0 where
  pub program : mid.program ≡ here.program
  pub unit : mid.unit ≡ here.unit
  pub open_calls : mid.open_calls ≡ here.open_calls
  pub others : (j : ℕ) → (Contains ks j → ⊥) → mid.local j ≡ here.local j
  pub none : (j : ℕ) → Contains ks j → here.local j ≡ None

pub without_is : (ks : List ℕ) (here mid : Context) → IsLike here ks mid → without_all ks mid ≡ here
without_is [] here mid like =
    same_context mid here like.program like.unit like.open_calls (fun_ext (λ j. like.others j (λ has. contains_none j has)))
without_is (k ∷ ks) here mid like = without_is ks here (without k mid) (record {
  program = like.program;
  unit = like.unit;
  open_calls = like.open_calls;
  others = λ j outside. others j outside;
  none = λ j has. like.none j (contains_more k ks j has);
})
  where
    others : (j : ℕ) → (Contains ks j → ⊥) → (without k mid).local j ≡ here.local j
    others j outside = by_number (nat_eq j k) refl
      where
        by_number : (same : Bool) → nat_eq j k ≡ same → (without k mid).local j ≡ here.local j
        by_number true equal =
            if_true (nat_eq j k) None (mid.local j) equal
            ∙ sym (like.none j (subst (λ i. Contains (k ∷ ks) i) (sym (eqb-true j k equal)) (contains_first k ks)))
        by_number false differs =
            if_false (nat_eq j k) None (mid.local j) differs
            ∙ like.others j (λ has. elim (contains_cases k ks j has) [
              | inl same ↦
                  let equal : nat_eq j k ≡ true = grind (arith, nat_tests, same) in
                  absurd (cc)
              | inr more ↦ outside more
            ])

-- ---- all of them end

ending_by : {g : Given} {t : State} (mid : Context) (now : MeaningState) → Relates g mid now t → (call : IsSafeCall g mid) (k number : ℕ) →
    mid.local k ≡ Some number → IsEnding g mid now k number
ending_by {g} mid now relates call k number is =
    let found : IsInScope now (latest mid.open_calls) k number = relates.injects.stands.scope k number is in
    let calls : AreCalls (units_of g) now.calls (call.c ∷ call.cs) =
    subst (λ cs. AreCalls (units_of g) now.calls cs) call.open_is relates.injects.stands.calls in
    let latest_is : latest mid.open_calls ≡ Some call.c = ap latest call.open_is in
    let same : found.of ≡ call.c = same_some found.call_is latest_is in
    record {
      c = call.c;
      latest_is = latest_is;
      call_is = calls.0;
      safe = call.safe;
      block = found.block;
      lives = found.lives;
      kind_is = found.kind_is ∙ ap (λ (d : Call). Local d.number k) same;
      local_is = is;
    }

module _ {A : Type 0} {c : Code} {room : A → Room} {Q : A → MeaningState → State → Type 0} {a : Account} {t : State}
    (f : Unit {0} → Run A) (inner : Context) where
  by_local : (mid : Context) (k : ℕ) (ks : List ℕ) (now : MeaningState) (o : Option ℕ) → IsSafeCall c.given mid → mid.local k ≡ o →
      Relates c.given mid now t →
      ((later : MeaningState) → Relates c.given (without k mid) later t → later.work ≡ now.work →
      ((v : Value) (n : ℕ) → Holds c.given now v n → Holds c.given later v n) →
      Proceeds c room Q a (and_then (end_locals inner ks) f) later t) →
      Proceeds c room Q a (and_then (with_some o (λ b. with_blocks (with_block b ended))) (λ _. and_then (end_locals inner ks) f)) now t
  by_local mid k ks now None call is relates rest = Proceeds-stuck
  by_local mid k ks now (Some number) call is relates rest =
      let ending = ending_by mid now relates call k number is in
      Proceeds-from {n = and_then (end_locals inner ks) f}
      (ap (λ o. goes_on (Goes (tt {0}) (record now { blocks = changed ended o number now.blocks })) (λ _. and_then (end_locals inner ks) f))
      ending.lives.is)
      (rest (with_dead number ending.block now) (Relates-ended ending relates) refl
      (λ v n holds. Holds-ended relates.injects ending v n holds))

  pub Proceeds-leave : (ks : List ℕ) (mid : Context) (now : MeaningState) → Relates c.given mid now t → IsSafeCall c.given mid →
      AreDifferent ks → ((j : ℕ) → Contains ks j → inner.local j ≡ mid.local j) →
      ((later : MeaningState) → Relates c.given (without_all ks mid) later t → later.work ≡ now.work →
      ((v : Value) (n : ℕ) → Holds c.given now v n → Holds c.given later v n) → Proceeds c room Q a (f (tt {0})) later t) →
      Proceeds c room Q a (and_then (end_locals inner ks) f) now t
  Proceeds-leave [] mid now relates call different same more =
      Proceeds-same refl (more now relates refl (λ v n holds. holds))
  Proceeds-leave (k ∷ ks) mid now relates call different same more =
      Proceeds-same
      (and_then-apart (with_some (inner.local k) (λ b. with_blocks (with_block b ended))) (λ _. end_locals inner ks) f now
      ∙ ap (λ o. and_then (with_some o (λ b. with_blocks (with_block b ended))) (λ _. and_then (end_locals inner ks) f) now)
      (same k (contains_first k ks)))
      (by_local mid k ks now (mid.local k) call refl relates (λ later next work_is holds.
      Proceeds-leave ks (without k mid) later next
      (record { c = call.c; cs = call.cs; open_is = call.open_is; safe = call.safe }) different.1
      (λ j has. same j (contains_more k ks j has) ∙ sym (others_stay mid k j (different.0 j has)))
      (λ last relates work_too keeps.
      more last relates (work_too ∙ work_is) (λ v n is. keeps v n (holds v n is)))))
