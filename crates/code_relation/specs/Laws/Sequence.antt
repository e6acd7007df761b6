-- Code of one tree and then of another (this project's own).
use Rattle.std.specs.Prelude.{◌≡◌, ℕ, ◌≤◌, refl}
use Rattle.std.proofs.Common.{arith, ap, sym, subst, ◌∙◌}
use Rattle.a64_code.specs.State.{State}
use Rattle.block_meaning.specs.Running.{Context, Result, Goes, Stops, Stop, Divide}
use Rattle.block_meaning.specs.Running.{Deep, More, IsUndefined, Stuck, and_then, goes_on, State as MeaningState}
use Rattle.code_runs.specs.Bounded.{Account, just, Reaches, later, Bounded}
use Rattle.code_runs.specs.Outcome.{Outcome, Completes}
use Rattle.code_runs.specs.Laws.Bounded.{IsWider, IsWider-same, Reaches-changes, opened, after, changes}
use Rattle.code_relation.specs.Follows.{Code, setting, Tree, Does, Follows}
use Rattle.code_relation.specs.Outcomes.{outcome_of}
use Rattle.code_relation.specs.Relates.{Relates}
use Rattle.code_relation.specs.Laws.Told.{less_work}

-- where the first has completed, the second begins, of states that are related
pub record Meets {A B : Type 0} (c : Code) (rest : A → Tree B) (here : Context) (a : A) (then : MeaningState) (t : State) : Type 0 where
  pub relates : Relates c.given here then t
  pub begins : (rest a).Begins here then t

-- A tree is one and then another, which stands on the first one's value.
pub record Joins {A B : Type 0} (c : Code) (first : Tree A) (rest : A → Tree B) (whole : Tree B) : Type 0 where
  pub run : (here : Context) (now : MeaningState) → whole.run here now ≡ and_then (first.run here) (λ a. (rest a).run here) now
  pub begins : (here : Context) (now : MeaningState) (s : State) → whole.Begins here now s → first.Begins here now s
  pub before : whole.before ≡ first.before
  pub before_rest : (a : A) → (rest a).before ≡ 0
  pub meets : (here : Context) (s : State) (a : A) (then : MeaningState) (t : State) (extra : ℕ) →
      first.Completes here s extra a then t → Meets c rest here a then t
  -- the first leaves nothing over, and the whole no more than the second
  pub room_first : (extra : ℕ) (a : A) → IsWider (first.room extra a) just
  pub room_rest : (extra : ℕ) (a : A) (b : B) → IsWider ((rest a).room extra b) (whole.room extra b)
  pub completes : (here : Context) (s : State) (a : A) (then : MeaningState) (t : State) (b : B) (last : MeaningState) (u : State)
      (before extra : ℕ) → first.Completes here s before a then t → (rest a).Completes here t extra b last u →
      whole.Completes here s extra b last u

abbrev outcome_at : (X : Type 0) → Stop → MeaningState → Outcome MeaningState Stop X
outcome_at X why then = outcome_of (Stops why then)

module _ {A B : Type 0} {c : Code} {first : Tree A} {rest : A → Tree B} {whole : Tree B} (joins : Joins c first rest whole)
    (here : Context) (now : MeaningState) (s : State) where
  -- the first has completed, in a state from which the second goes on
  second_does : (a : A) (then : MeaningState) (extra : ℕ) → first.run here now ≡ Goes a then →
      (r : Reaches (setting c) (later first.before (opened (setting c) now.work)) (first.room extra a) then.work s
      (first.Completes here s extra a then)) →
      Does c (rest a) here then r.to → Does c whole here now s
  second_does a then extra is r does = record {
    extra = does.extra;
    bounded =
        subst (λ q. Bounded (setting c) (later whole.before (opened (setting c) now.work)) (whole.room does.extra) s
        (whole.Completes here s does.extra) (outcome_of q))
        (sym (joins.run here now ∙ ap (λ q. goes_on q (λ a. (rest a).run here)) is))
        (after r.led
        (changes
        (record {
          least = omega (arith, r.least, joins.before, joins.before_rest a);
          most = omega (arith, r.most, (joins.room_first extra a).wider, joins.before, joins.before_rest a);
        })
        (joins.room_rest does.extra a)
        (λ b last u. joins.completes here s a then r.to b last u extra does.extra r.there)
        does.bounded));
  }

  -- it is over before it completes, and so is the whole
  stops_too : (why : Stop) (then : MeaningState) → first.run here now ≡ Stops why then → Does c first here now s → Does c whole here now s
  stops_too why then is does = record {
    extra = does.extra;
    bounded =
        subst (λ q. Bounded (setting c) (later whole.before (opened (setting c) now.work)) (whole.room does.extra) s
        (whole.Completes here s does.extra) (outcome_of q))
        (sym (joins.run here now ∙ ap (λ q. goes_on q (λ a. (rest a).run here)) is))
        (by_stop why
        (subst (λ q. Bounded (setting c) (later first.before (opened (setting c) now.work)) (first.room does.extra) s
        (first.Completes here s does.extra) (outcome_of q)) is does.bounded));
  }
    where
      account : Account
      account = later first.before (opened (setting c) now.work)

      over : {left : ℕ} {P : State → Type 0} → Reaches (setting c) (later 1 account) just left s P →
          Reaches (setting c) (later 1 (later whole.before (opened (setting c) now.work))) just left s P
      over r = Reaches-changes (record { least = omega (arith, joins.before); most = omega (arith, joins.before) }) (IsWider-same just)
          (λ u p. p) r

      wants : {P : State → Type 0} → Reaches (setting c) account just 0 s P →
          Reaches (setting c) (later whole.before (opened (setting c) now.work)) just 0 s P
      wants r = Reaches-changes (record { least = omega (arith, joins.before); most = omega (arith, joins.before) }) (IsWider-same just)
          (λ u p. p) r

      by_stop : (why : Stop) →
          Bounded (setting c) account (first.room does.extra) s (first.Completes here s does.extra) (outcome_at A why then) →
          Bounded (setting c) (later whole.before (opened (setting c) now.work)) (whole.room does.extra) s
          (whole.Completes here s does.extra) (outcome_at B why then)
      by_stop Divide bounded = record { does = over bounded.does }
      by_stop Deep bounded = record { does = over bounded.does }
      by_stop More bounded = record { does = wants bounded.does }
      by_stop (IsUndefined u) bounded = record { does = over bounded.does }
      by_stop Stuck bounded = record { does = tt }

-- what both follow, the whole follows
pub Follows-then : {A B : Type 0} {c : Code} {first : Tree A} {rest : A → Tree B} {whole : Tree B} → Joins c first rest whole → 1 ≤ c.per →
    Follows c first → ((a : A) → Follows c (rest a)) → Follows c whole
Follows-then {A} {B} {c} {first} {rest} {whole} joins pays one two =
    record {
      does = λ here now s within relates begins. by_result here now s within (first.run here now) refl
          (one.does here now s within relates (joins.begins here now s begins));
    }
  where
    completed : (here : Context) (now : MeaningState) (s : State) → now.work ≤ c.reach → (a : A) (then : MeaningState) (extra : ℕ) →
        first.run here now ≡ Goes a then →
        (r : Reaches (setting c) (later first.before (opened (setting c) now.work)) (first.room extra a) then.work s
        (first.Completes here s extra a then)) → Does c whole here now s
    completed here now s within a then extra is r =
        let less : then.work ≤ now.work =
        less_work c.per then.work now.work pays (omega (arith, r.most, (joins.room_first extra a).wider)) in
        let meets = joins.meets here s a then r.to extra r.there in
        second_does joins here now s a then extra is r
        ((two a).does here then r.to (omega (arith, less, within)) meets.relates meets.begins)

    by_result : (here : Context) (now : MeaningState) (s : State) → now.work ≤ c.reach → (r : Result A) → first.run here now ≡ r →
        Does c first here now s → Does c whole here now s
    by_result here now s within (Goes a then) is does =
        let bounded : Bounded (setting c) (later first.before (opened (setting c) now.work)) (first.room does.extra) s
        (first.Completes here s does.extra) (Completes a then) =
        subst (λ q. Bounded (setting c) (later first.before (opened (setting c) now.work)) (first.room does.extra) s
        (first.Completes here s does.extra) (outcome_of q)) is does.bounded in
        completed here now s within a then does.extra is bounded.does
    by_result here now s within (Stops why then) is does = stops_too joins here now s why then is does
