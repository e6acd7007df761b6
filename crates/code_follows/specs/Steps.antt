-- Steps that leave the relation as it is, and what lists of instructions compute (this project's own).
use Rattle.std.specs.Prelude.{◌≡◌, ◌≢◌, ℕ, ◌<◌, Bool, true}
use Rattle.a64_code.specs.declared.instr.Reg.{Reg}
use Rattle.a64_code.specs.State.{State}
use Rattle.code_relation.specs.Laws.Kept.{SameInjected}
use Rattle.code_runs.specs.Within.{StepsWithin}
use Rattle.code_follows.specs.Scene.{Scene}

-- what the relation speaks of and the outside are the same in both states
pub record SameMachine (s t : State) : Type 0 where
  pub injected : SameInjected s t
  pub outside : t.outside ≡ s.outside

-- so many steps lead to an address, and what the relation speaks of is then the same
pub record Walks (k : Scene) (to n : ℕ) (s t : State) : Type 0 where
  pub led : StepsWithin k.code.Inside n s t
  pub pc : t.pc ≡ to
  pub same : SameMachine s t

-- Such a list may stand in the code of a part: it leaves X28, and all registers but the part's own where that is alone.
pub record Suits (alone : Bool) (reg into : Reg) (spares : ℕ → Type 0) : Type 0 where
  pub low : into.0 < 28
  pub base : spares 28
  pub others : alone ≡ true → (into.0 ≡ reg.0) × ((r : ℕ) → r ≢ reg.0 → spares r)
