-- What following tells of steps and units (this project's own).
use Rattle.std.specs.Prelude.{◌≡◌, ℕ, zero, suc, ◌+◌, ◌*◌, ◌≤◌}
use Rattle.std.proofs.Common.{arith, ap, subst}
use Rattle.a64_code.specs.State.{State}
use Rattle.block_meaning.specs.Running.{Context, Goes, Stops, More, State as MeaningState}
use Rattle.code_runs.specs.Bounded.{Reaches, later, Bounded}
use Rattle.code_runs.specs.Outcome.{Completes}
use Rattle.code_runs.specs.Within.{StepsWithin}
use Rattle.code_runs.specs.Laws.Bounded.{opened}
use Rattle.code_runs.specs.Laws.Told.{RunsOn, runs_on}
use Rattle.code_relation.specs.Follows.{Code, setting, Tree, Does}
use Rattle.code_relation.specs.Outcomes.{outcome_of}

-- ---- arithmetic

pub product_split : (per left units : ℕ) → per * (left + units) ≡ per * left + per * units
product_split zero left units = omega arith
product_split (suc per) left units = omega (arith, product_split per left units)

-- where a unit pays for some steps, so much less work is left
pub less_work : (per left work : ℕ) → 1 ≤ per → per * left ≤ per * work → left ≤ work
less_work per zero work some less = omega arith
less_work per (suc left) zero some less = absurd (omega (arith, some, less, product_split per left 1))
less_work per (suc left) (suc work) some less =
    let fewer : left ≤ work = less_work per left work some (omega (arith, less, product_split per left 1, product_split per work 1)) in
    omega (arith, fewer)

-- ---- a tree that completes

-- steps lead to a state in which it has completed; what was made before counts
pub record Completed {A : Type 0} (c : Code) (t : Tree A) (here : Context) (s : State) (a : A) (units : ℕ) (then : MeaningState) : Type 0
  where
    pub extra : ℕ
    pub steps : ℕ
    pub to : State
    pub led : StepsWithin c.Inside steps s to
    -- as many steps as units at least, and at most those that they pay for
    pub least : units ≤ t.before + steps
    pub most : t.before + steps + (t.room extra a).spare ≤ c.per * units + (t.room extra a).over
    pub completes : t.Completes here s extra a then to

pub Does-completed : {A : Type 0} {c : Code} {t : Tree A} {here : Context} {now : MeaningState} {s : State} (a : A) (units : ℕ)
    (then : MeaningState) → t.run here now ≡ Goes a then → now.work ≡ then.work + units → Does c t here now s →
    Completed c t here s a units then
Does-completed {A} {c} {t} {here} {now} {s} a units then is work does =
    let bounded : Bounded (setting c) (later t.before (opened (setting c) now.work)) (t.room does.extra) s (t.Completes here s does.extra)
    (Completes a then) =
    subst (λ r. Bounded (setting c) (later t.before (opened (setting c) now.work)) (t.room does.extra) s (t.Completes here s does.extra)
    (outcome_of r)) is does.bounded in
    told bounded.does
  where
    told : Reaches (setting c) (later t.before (opened (setting c) now.work)) (t.room does.extra a) then.work s
        (t.Completes here s does.extra a then) → Completed c t here s a units then
    told r = record {
      extra = does.extra;
      steps = r.steps;
      to = r.to;
      led = r.led;
      least = omega (arith, r.least, work);
      most = omega (arith, r.most, ap (λ w. c.per * w) work, product_split c.per then.work units);
      completes = r.there;
    }

-- one that spends no unit, and leaves nothing over, takes no step
pub no_unit-no_step : {A : Type 0} {c : Code} {t : Tree A} {here : Context} {s : State} {a : A} {then : MeaningState} →
    (done : Completed c t here s a 0 then) → (t.room done.extra a).over ≤ (t.room done.extra a).spare → done.steps ≡ 0
no_unit-no_step {c = c} done room = omega (arith, done.most, room, nothing c.per)
  where
    nothing : (per : ℕ) → per * 0 ≡ 0
    nothing per = omega arith

-- ---- a tree that wants more work

-- As many steps as there was work are made without leaving the code and without an end, and what they have put begins what the meaning
-- has.
pub more-runs : {A : Type 0} {c : Code} {t : Tree A} {here : Context} {now : MeaningState} {s : State} (then : MeaningState) →
    t.run here now ≡ Stops More then → t.before ≡ 0 → Does c t here now s → RunsOn (setting c) now.work s then
more-runs {A} {c} {t} {here} {now} {s} then is none does =
    runs_on now.work (omega arith)
    (subst (λ r. Bounded (setting c) (opened (setting c) now.work) (t.room does.extra) s (t.Completes here s does.extra) (outcome_of r)) is
    (subst (λ before. Bounded (setting c) (later before (opened (setting c) now.work)) (t.room does.extra) s (t.Completes here s does.extra)
    (outcome_of (t.run here now))) none does.bounded))
