-- The meaning of a source that spends work: from the state of now it gives an outcome (this project's own). `Now` is what a
-- step of the source may change, with the work that is left and the output among it. `End` is how the source may end.
use Rattle.std.specs.Prelude.{ℕ, zero, suc}

pub data Outcome (Now End Value : Type 0) : Type 0 where
  -- it completes with a value
  Completes : Value → Now → Outcome Now End Value
  -- it is over
  Finishes : End → Now → Outcome Now End Value
  -- it wants work where none is left
  Lacks : Now → Outcome Now End Value
  -- the number on which the definition recurses is used up: of this nothing is said, and it has to be shown elsewhere that it never comes
  Unsaid : Outcome Now End Value

abbrev pub Meaning : Type 0 → Type 0 → Type 0 → Type 0
Meaning Now End Value = Now → Outcome Now End Value

-- a value, and the state left as it is
abbrev pub gives : {Now End Value : Type 0} → Value → Meaning Now End Value
gives value now = Completes value now

-- what comes behind an outcome, where it completes
abbrev pub followed_by : {Now End First Value : Type 0} → Outcome Now End First → (First → Meaning Now End Value) → Outcome Now End Value
followed_by (Completes value now) rest = rest value now
followed_by (Finishes end now) rest = Finishes end now
followed_by (Lacks now) rest = Lacks now
followed_by Unsaid rest = Unsaid

-- one meaning and then another, which sees the value of the first
abbrev pub then : {Now End First Value : Type 0} → Meaning Now End First → (First → Meaning Now End Value) → Meaning Now End Value
then first rest now = followed_by (first now) rest

-- what comes where so much work is left
abbrev pub where_left : {Now End Value : Type 0} → ℕ → Now → Outcome Now End Value → Outcome Now End Value
where_left zero now rest = Lacks now
where_left (suc left) now rest = rest

-- One unit of work, and then the rest. The first argument tells what is left, the second takes a unit away.
abbrev pub spends : {Now End Value : Type 0} → (Now → ℕ) → (Now → Now) → Meaning Now End Value → Meaning Now End Value
spends work spent rest now = where_left (work now) now (rest (spent now))
