-- Steps of which each is made from a state of some kind, as one whose PC is in some code (this project's own).
use Rattle.std.specs.Prelude.{ℕ, ◌<◌}
use Rattle.a64_code.specs.State.{State}
use Rattle.mte_machine.specs.Run.{Steps}

-- n steps lead from one state to another, and each state but the last is inside
pub record StepsWithin (Inside : State → Type 0) (n : ℕ) (from to : State) : Type 0 where
  pub steps : Steps n from to
  pub inside : (k : ℕ) → k < n → (s : State) → Steps k from s → Inside s
