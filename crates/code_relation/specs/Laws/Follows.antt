-- How it is proved that code follows a tree: by the parts of the tree, and with bounds that are weakened (this project's own).
use Rattle.std.specs.Prelude.{◌≡◌, ℕ, suc, ◌≤◌}
use Rattle.std.proofs.Common.{arith, sym, subst}
use Rattle.a64_code.specs.State.{State}
use Rattle.block_meaning.specs.Running.{Context, Run, and_then, unit_then, State as MeaningState}
use Rattle.code_runs.specs.Bounded.{Account, Room, just, later, Bounded}
use Rattle.code_runs.specs.Laws.Bounded.{IsWider, Stands, opened, ticks, binds, changes}
use Rattle.code_relation.specs.Follows.{Code, setting, Tree, Does, Follows}
use Rattle.code_relation.specs.Outcomes.{outcome_of}
use Rattle.code_relation.specs.Laws.Outcomes.{outcome_of-then, outcome_of-unit, spent}

-- ---- bounded runs of the meaning

-- one part and then another, which stands on what the first leaves
pub does_then : {A B : Type 0} (c : Code) {a : Account} {first_room : A → Room} {room : B → Room} {s : State}
    {P : A → MeaningState → State → Type 0} {Q : B → MeaningState → State → Type 0} (m : Run A) (f : A → Run B) (now : MeaningState) →
    Bounded (setting c) a first_room s P (outcome_of (m now)) →
    ((value : A) (then : MeaningState) (t : State) (n : ℕ) → Stands (setting c) (later n a) (first_room value) then → P value then t →
    Bounded (setting c) (later n a) room t Q (outcome_of (f value then))) →
    Bounded (setting c) a room s Q (outcome_of (and_then m f now))
does_then c {a} {room = room} {s = s} {Q = Q} m f now first more =
    subst (λ r. Bounded (setting c) a room s Q r) (sym (outcome_of-then m f now)) (binds first more)

-- A unit of work is spent here. Where none is left, the output is what was put so far.
pub does_unit : {A : Type 0} (c : Code) {a : Account} {room : A → Room} {s : State} {Q : A → MeaningState → State → Type 0} (m : Run A)
    (now : MeaningState) → Stands (setting c) a just now → s.outside.output ≡ now.output →
    ((left : ℕ) → now.work ≡ suc left → Bounded (setting c) a room s Q (outcome_of (m (spent now)))) →
    Bounded (setting c) a room s Q (outcome_of (unit_then m now))
does_unit c {a} {room} {s} {Q} m now bounds output more =
    subst (λ r. Bounded (setting c) a room s Q r) (sym (outcome_of-unit m now))
    (ticks spent (λ then. outcome_of (m then)) bounds output more)

-- With no work left, what begins with a unit of work is followed by no step.
pub without_work : {A : Type 0} (c : Code) {a : Account} {room : A → Room} {s : State} {Q : A → MeaningState → State → Type 0} (m : Run A)
    (now : MeaningState) → now.work ≡ 0 → Stands (setting c) a just now → s.outside.output ≡ now.output →
    Bounded (setting c) a room s Q (outcome_of (unit_then m now))
without_work c m now none bounds output = does_unit c m now bounds output (λ left some. absurd (omega (arith, none, some)))

-- ---- following

-- the code follows the tree as far as less work reaches
pub Follows-reach : {A : Type 0} {c : Code} {t : Tree A} {fewer : ℕ} → fewer ≤ c.reach → Follows c t →
    Follows (record c { reach = fewer }) t
Follows-reach less follows = record {
  does = λ here now s within relates begins. again (follows.does here now s (omega (arith, within, less)) relates begins);
}
  where
    again : {A : Type 0} {c : Code} {t : Tree A} {fewer : ℕ} {here : Context} {now : MeaningState} {s : State} → Does c t here now s →
        Does (record c { reach = fewer }) t here now s
    again does = record { extra = does.extra; bounded = does.bounded }

-- One tree asks no more than another: it begins where the other does, leaves no more of its bound, and promises no more.
pub record AsksLess {A : Type 0} (c : Code) (t u : Tree A) : Type 0 where
  pub run : (here : Context) (now : MeaningState) → u.run here now ≡ t.run here now
  pub begins : (here : Context) (now : MeaningState) (s : State) → u.Begins here now s → t.Begins here now s
  pub before : u.before ≡ t.before
  pub room : (extra : ℕ) (value : A) → IsWider (t.room extra value) (u.room extra value)
  pub completes : (here : Context) (s : State) (extra : ℕ) (value : A) (then : MeaningState) (last : State) →
      t.Completes here s extra value then last → u.Completes here s extra value then last

-- code that follows a tree follows one that asks less
pub Follows-less : {A : Type 0} {c : Code} {t u : Tree A} → AsksLess c t u → Follows c t → Follows c u
Follows-less {A} {c} {t} {u} less follows = record {
  does = λ here now s within relates begins. weaker here now s
      (follows.does here now s within relates (less.begins here now s begins));
}
  where
    weaker : (here : Context) (now : MeaningState) (s : State) → Does c t here now s → Does c u here now s
    weaker here now s does = record {
      extra = does.extra;
      bounded =
          subst (λ r. Bounded (setting c) (later u.before (opened (setting c) now.work)) (u.room does.extra) s
          (u.Completes here s does.extra)
          (outcome_of r))
          (sym (less.run here now))
          (changes (record { least = omega (arith, less.before); most = omega (arith, less.before) }) (less.room does.extra)
          (less.completes here s does.extra) does.bounded);
    }
