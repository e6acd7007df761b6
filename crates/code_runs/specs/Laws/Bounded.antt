-- How such a run is proved: by what the source is made of, and without a look at its outcome (this project's own).
use Rattle.std.specs.Prelude.{◌≡◌, ℕ, zero, suc, ◌+◌, ◌*◌, ◌≤◌, refl}
use Rattle.std.proofs.Common.{arith}
use Rattle.a64_code.specs.State.{State}
use Rattle.code_runs.specs.Outcome.{Outcome, Completes, Finishes, Lacks, Unsaid, Meaning, followed_by, where_left, spends}
use Rattle.code_runs.specs.Within.{StepsWithin}
use Rattle.code_runs.specs.Bounded.{Setting, Account, Room, just, Reaches, later, IsOver, Case, Bounded}
use Rattle.code_runs.specs.Laws.Within.{StepsWithin-none, StepsWithin-add}

-- ---- states that are reached

-- the second account asks no more than the first
pub record IsLooser (a b : Account) : Type 0 where
  pub least : b.least + a.so_far ≤ a.least + b.so_far
  pub most : a.most + b.so_far ≤ b.most + a.so_far

-- nor does the second room
pub record IsWider (first second : Room) : Type 0 where
  pub wider : second.spare + first.over ≤ first.spare + second.over

pub IsWider-same : (room : Room) → IsWider room room
IsWider-same room = record { wider = omega arith }

pub Reaches-changes : {Now End : Type 0} {c : Setting Now End} {a b : Account} {first second : Room} {left : ℕ} {s : State}
    {P R : State → Type 0} →
    IsLooser a b → IsWider first second → ((t : State) → P t → R t) → Reaches c a first left s P → Reaches c b second left s R
Reaches-changes {c = c} {a} {b} {first} {second} {left} looser room weaker r = record {
  steps = r.steps;
  to = r.to;
  led = r.led;
  least = omega (arith, r.least, looser.least);
  most = omega (arith, r.most, looser.most, room.wider);
  there = weaker r.to r.there;
}

pub Reaches-after : {Now End : Type 0} {c : Setting Now End} {a : Account} {room : Room} {left n : ℕ} {s t : State} {P : State → Type 0} →
    StepsWithin c.Inside n s t → Reaches c (later n a) room left t P → Reaches c a room left s P
Reaches-after {c = c} {a} {room} {left} {n} led r = record {
  steps = n + r.steps;
  to = r.to;
  led = StepsWithin-add led r.led;
  least = omega (arith, r.least);
  most = omega (arith, r.most);
  there = r.there;
}

-- ---- the bounds here and now

-- they hold where the source's state is this and no step more is made, with so much room
pub record Stands {Now End : Type 0} (c : Setting Now End) (a : Account) (room : Room) (now : Now) : Type 0 where
  pub least : a.least ≤ c.work now + a.so_far
  pub most : a.so_far + room.spare + c.per * c.work now ≤ a.most + room.over

-- no step has been made, from a state with so much work
abbrev pub opened : {Now End : Type 0} → Setting Now End → ℕ → Account
opened c work = record { so_far = 0; least = work; most = c.per * work }

pub Stands-opened : {Now End : Type 0} (c : Setting Now End) (now : Now) → Stands c (opened c (c.work now)) just now
Stands-opened c now = record { least = omega arith; most = omega arith }

-- ---- the parts of a source

-- it has completed
pub done : {Now End Value : Type 0} {c : Setting Now End} {a : Account} {room : Value → Room} {s : State} {Q : Value → Now → State →
    Type 0} {value : Value} {now : Now} →
    Stands c a (room value) now → Q value now s → Bounded c a room s Q (Completes value now)
done {c = c} {a} {s = s} bounds holds = record {
  does = record {
    steps = 0;
    to = s;
    led = StepsWithin-none c.Inside s;
    least = omega (arith, bounds.least);
    most = omega (arith, bounds.most);
    there = holds;
  };
}

-- it is over with the next step, which counts
pub finishes : {Now End Value : Type 0} {c : Setting Now End} {a : Account} {room : Value → Room} {s : State} {Q : Value → Now → State →
    Type 0} {end : End} {now : Now} →
    Stands c (later 1 a) just now → IsOver c end now s → Bounded c a room s Q (Finishes end now)
finishes {c = c} {a} {s = s} bounds over = record {
  does = record {
    steps = 0;
    to = s;
    led = StepsWithin-none c.Inside s;
    least = omega (arith, bounds.least);
    most = omega (arith, bounds.most);
    there = over;
  };
}

-- nothing is said
pub unsaid : {Now End Value : Type 0} {c : Setting Now End} {a : Account} {room : Value → Room} {s : State} {Q : Value → Now → State →
    Type 0} → Bounded c a room s Q Unsaid
unsaid = record { does = tt }

-- some steps have been made
pub after : {Now End Value : Type 0} {c : Setting Now End} {a : Account} {room : Value → Room} {n : ℕ} {s t : State} {Q : Value → Now →
    State → Type 0} {r : Outcome Now End Value} →
    StepsWithin c.Inside n s t → Bounded c (later n a) room t Q r → Bounded c a room s Q r
after {Now} {End} {Value} {c} {a} {room} {n} {s} {t} {Q} {r} led rest = record { does = by_outcome r rest.does }
  where
    by_outcome : (r : Outcome Now End Value) → Case c (later n a) room t Q r → Case c a room s Q r
    by_outcome (Completes value now) does = Reaches-after led does
    by_outcome (Finishes end now) does =
        Reaches-after {a = later 1 a} led
        (Reaches-changes {b = later n (later 1 a)} (record { least = omega arith; most = omega arith }) (IsWider-same just)
        (λ u over. over) does)
    by_outcome (Lacks now) does = Reaches-after led does
    by_outcome Unsaid does = tt

-- A unit is spent: where none is left, the output is what was put so far. A step has to be made before the next unit.
pub ticks : {Now End Value : Type 0} {c : Setting Now End} {a : Account} {room : Value → Room} {s : State} {Q : Value → Now → State →
    Type 0} {now : Now}
    (spent : Now → Now) (rest : Meaning Now End Value) →
    Stands c a just now → s.outside.output ≡ c.output now → ((left : ℕ) → c.work now ≡ suc left →
    Bounded c a room s Q (rest (spent now))) →
    Bounded c a room s Q (spends c.work spent rest now)
ticks {Now} {End} {Value} {c} {a} {room} {s} {Q} {now} spent rest bounds output more = by_work (c.work now) refl
  where
    by_work : (left : ℕ) → c.work now ≡ left → Bounded c a room s Q (where_left left now (rest (spent now)))
    by_work zero is = record {
      does = record {
        steps = 0;
        to = s;
        led = StepsWithin-none c.Inside s;
        least = omega (arith, bounds.least, is);
        most = omega (arith, bounds.most);
        there = output;
      };
    }
    by_work (suc left) is = more left is

-- one part and then another, which stands on what the first leaves
pub binds : {Now End First Value : Type 0} {c : Setting Now End} {a : Account} {first_room : First → Room} {room : Value →
    Room} {s : State}
    {P : First → Now → State → Type 0} {Q : Value → Now → State → Type 0} {r : Outcome Now End First} {rest : First →
    Meaning Now End Value} →
    Bounded c a first_room s P r →
    ((value : First) (now : Now) (t : State) (n : ℕ) → Stands c (later n a) (first_room value) now → P value now t →
    Bounded c (later n a) room t Q (rest value now)) →
    Bounded c a room s Q (followed_by r rest)
binds {Now} {End} {First} {Value} {c} {a} {first_room} {room} {s} {P} {Q} {r} {rest} first more = by_outcome r first.does
  where
    by_outcome : (r : Outcome Now End First) → Case c a first_room s P r → Bounded c a room s Q (followed_by r rest)
    by_outcome (Completes value now) does =
        after does.led (more value now does.to does.steps (record {
          least = omega (arith, does.least);
          most = omega (arith, does.most);
        }) does.there)
    by_outcome (Finishes end now) does = record { does = does }
    by_outcome (Lacks now) does = record { does = does }
    by_outcome Unsaid does = record { does = tt }

-- another reference, more room, and less of what holds
pub changes : {Now End Value : Type 0} {c : Setting Now End} {a b : Account} {first second : Value → Room} {s : State} {P Q : Value →
    Now → State → Type 0}
    {r : Outcome Now End Value} →
    IsLooser a b → ((value : Value) → IsWider (first value) (second value)) →
    ((value : Value) (now : Now) (t : State) → P value now t → Q value now t) →
    Bounded c a first s P r → Bounded c b second s Q r
changes {Now} {End} {Value} {c} {a} {b} {first} {second} {s} {P} {Q} {r} looser room weaker bounded =
    record { does = by_outcome r bounded.does }
  where
    by_outcome : (r : Outcome Now End Value) → Case c a first s P r → Case c b second s Q r
    by_outcome (Completes value now) does = Reaches-changes looser (room value) (weaker value now) does
    by_outcome (Finishes end now) does =
        Reaches-changes (record { least = omega (arith, looser.least); most = omega (arith, looser.most) }) (IsWider-same just)
        (λ u over. over) does
    by_outcome (Lacks now) does = Reaches-changes looser (IsWider-same just) (λ u same. same) does
    by_outcome Unsaid does = tt
