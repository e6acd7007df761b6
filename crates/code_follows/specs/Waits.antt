-- Values that wait in the temps of the innermost frame (this project's own): what has to hold of the lists that keep and fetch them.
use Rattle.std.specs.Prelude.{◌≡◌, ℕ, ◌+◌, ◌*◌, ◌<◌, ◌≤◌, Some}
use Rattle.mt_base.specs.Memory.{load}
use Rattle.a64_code.specs.declared.instr.Reg.{Reg}
use Rattle.a64_code.specs.State.{State}
use Rattle.block_meaning.specs.Locals.{latest}
use Rattle.block_meaning.specs.Running.{Call, State as MeaningState}
use Rattle.code_relation.specs.Calls.{lowest}
use Rattle.code_relation.specs.Relates.{Relates}
use Rattle.code_relation.specs.Trees.{Comes}
use Rattle.code_runs.specs.Within.{StepsWithin}
use Rattle.gen_base.specs.Waiting.{keep, fetch}
use Rattle.gen_laws.specs.Computes.{Computes, all}
use Rattle.code_follows.specs.Scene.{Scene, given_in, frame_in}
use Rattle.code_follows.specs.Laws.Lying.{HasInstrs}

-- a temp of the innermost frame has a number
pub record HasTemp (k : Scene) (t value : ℕ) (s : State) : Type 0 where
  pub is : (c : Call) → latest k.here.open_calls ≡ Some c → load 8 s.byte (lowest c + (24 + 8 * t)) ≡ value

-- A register is kept in a temp: no other word of the frames is another, and registers are as they were.
pub record KeptIn (k : Scene) (t : ℕ) (r : Reg) (to : ℕ) (now : MeaningState) (s : State) : Type 0 where
  pub steps : ℕ
  pub some : 1 ≤ steps
  pub few : steps ≤ 1
  pub state : State
  pub led : StepsWithin k.code.Inside steps s state
  pub comes : Comes (given_in k) t to k.here s now state
  pub registers : state.register ≡ s.register
  pub has : HasTemp k t (s.register r.0) state

-- the temp is one of the frame, and loads and stores reach it from SP
pub record IsTemp (k : Scene) (t : ℕ) : Type 0 where
  pub within : t < (frame_in k).temps
  pub near : t ≤ 4092

pub record WaitingLaws (k : Scene) : Type 0 where
  pub keeps : (t : ℕ) (r : Reg) (from to : ℕ) (now : MeaningState) (s : State) → IsTemp k t → r.0 ≤ 15 → HasInstrs k (keep t r) from to →
      Relates (given_in k) k.here now s → s.pc ≡ from → KeptIn k t r to now s
  pub fetches : (t value : ℕ) (into : Reg) (from to : ℕ) (now : MeaningState) (s : State) → IsTemp k t → into.0 < 28 →
      HasInstrs k (fetch t into) from to → Relates (given_in k) k.here now s → s.pc ≡ from → HasTemp k t value s →
      Computes (fetch t into) into value all s
