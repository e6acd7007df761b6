-- What code does, against the outcome of its source, with bounds on its steps from below and from above (this project's own).
-- The bounds are told without subtraction. They refer to some earlier state, from which `so_far` steps have led to here: with
-- `left` the work that is left where the source is then, and `steps` the steps from here,
--     least ≤ left + (so_far + steps)    and    so_far + steps + per * left ≤ most.
-- So from a state in which the work is w and no step has been made, `least` is w and `most` is per * w: a source that spends u
-- units is then code of at least u and at most per * u steps.
use Rattle.std.specs.Prelude.{◌≡◌, ℕ, ◌+◌, ◌*◌, ◌≤◌, List}
use Rattle.a64_code.specs.State.{State}
use Rattle.code_runs.specs.Outcome.{Outcome, Completes, Finishes, Lacks, Unsaid}
use Rattle.code_runs.specs.Within.{StepsWithin}

-- what stays the same in a whole proof
pub record Setting (Now End : Type 0) : Type 1 where
  -- the work that is left, and the bytes that were put
  pub work : Now → ℕ
  pub output : Now → List ℕ
  -- the machine stands where the source is over: its next step is that of the end
  pub Over : End → Now → State → Type 0
  -- the states that the code may go through
  pub Inside : State → Type 0
  -- how many steps one unit of work pays at most
  pub per : ℕ

-- the reference: the steps since then, and the bounds that refer to it
pub record Account : Type 0 where
  pub so_far : ℕ
  pub least : ℕ
  pub most : ℕ

-- What is left of the bound from above where a source completes: a spare, as that of an expression, which pays for the branches
-- around it, or some steps over, as those of a statement that leaves a loop.
pub record Room : Type 0 where
  pub spare : ℕ
  pub over : ℕ

abbrev pub just : Room
just = record { spare = 0; over = 0 }

abbrev pub sparing : ℕ → Room
sparing n = record { spare = n; over = 0 }

abbrev pub exceeding : ℕ → Room
exceeding n = record { spare = 0; over = n }

-- steps lead from a state, inside, to one with a property, and the bounds hold with so much work left
pub record Reaches {Now End : Type 0} (c : Setting Now End) (a : Account) (room : Room) (left : ℕ) (from : State)
    (P : State → Type 0) : Type 0 where
  pub steps : ℕ
  pub to : State
  pub led : StepsWithin c.Inside steps from to
  pub least : a.least ≤ left + (a.so_far + steps)
  pub most : a.so_far + steps + room.spare + c.per * left ≤ a.most + room.over
  pub there : P to

-- so many steps more were made
abbrev pub later : ℕ → Account → Account
later n a = record a { so_far = a.so_far + n }

-- what is promised at the end of a source: its output, and the next step
pub record IsOver {Now End : Type 0} (c : Setting Now End) (end : End) (now : Now) (s : State) : Type 0 where
  pub inside : c.Inside s
  pub output : s.outside.output ≡ c.output now
  pub over : c.Over end now s

-- What the code does for each outcome. Where the source is over, the step that ends counts. Where work is lacking, some state
-- on the way has just the output; the bound from below says that as many steps as there was work lead no further than there.
abbrev pub Case : {Now End Value : Type 0} → Setting Now End → Account → (Value → Room) → State → (Value → Now → State → Type 0) →
    Outcome Now End Value → Type 0
Case c a room s Q (Completes value now) = Reaches c a (room value) (c.work now) s (Q value now)
Case c a room s Q (Finishes end now) = Reaches c (later 1 a) just (c.work now) s (IsOver c end now)
Case c a room s Q (Lacks now) = Reaches c a just 0 s (λ t. t.outside.output ≡ c.output now)
Case c a room s Q Unsaid = Unit {0}

-- From this state the code does what the outcome says, within the bounds; where the source completes, Q holds of the value, the
-- source's state and the machine's.
pub record Bounded {Now End Value : Type 0} (c : Setting Now End) (a : Account) (room : Value → Room) (s : State)
    (Q : Value → Now → State → Type 0)
    (r : Outcome Now End Value) : Type 0 where
  pub does : Case c a room s Q r
