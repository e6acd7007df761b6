-- Conditions in order, each with the refusal that it is where it fails (this project's own).
use Rattle.std.specs.Prelude.{Bool, List, [], ◌∷◌, Option, Some, None, if◌then◌else◌}

-- a condition, and the refusal where it fails
pub record Condition (R : Type 0) : Type 0 where
  pub holds : Bool
  pub refusal : R

abbrev pub condition : {R : Type 0} → Bool → R → Condition R
condition holds refusal = record { holds = holds; refusal = refusal }

-- the refusal of the first condition that fails, if any does
abbrev pub first_fault : {R : Type 0} → List (Condition R) → Option R
first_fault [] = None
first_fault (c ∷ cs) = if c.holds then first_fault cs else Some c.refusal
