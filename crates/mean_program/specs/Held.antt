-- What a run of the code keeps from step to step.
use Rattle.std.specs.Prelude.{◌≡◌, ℕ, List, ◌++◌, Option, Some}
use Rattle.block_meaning.specs.Laws.Settled.{IsWhole}
use Rattle.block_meaning.specs.Meaning.{outcome_of}
use Rattle.block_meaning.specs.Running.{Program, Context, State}
use Rattle.block_meaning.specs.Running as meaning
use Rattle.block_meaning.specs.declared.value.Value.{Value}
use Rattle.mean_machine.specs.Frames as machine
use Rattle.mean_machine.specs.Laws.Computes.{Leads}
use Rattle.mean_machine.specs.Laws.Programs.{last}
use Rattle.mean_expressions.specs.Stacked.{standing}
use Rattle.mean_run.specs.Processes.{IsProcess}
use Rattle.mean_expressions.specs.declared.frames.Control.{Control}
use Rattle.mean_run.specs.declared.process.Process.{Process}
use Rattle.mean_program.specs.Answers.{MeanGives}
use Rattle.mean_program.specs.declared.turn.Turn.{Turn}
use Rattle.mean_program.specs.declared.turn.Turn.TheVariants.{Goes, Ends}

-- a program, what its run gives, and what the sink had taken before
pub record Aim : Type 0 where
  pub program : Program
  pub result : meaning.Result Value
  pub whole : IsWhole result
  pub before : List ℕ

-- the machine in whose place the code stands leads to what the run gives, over what the source has left and the sink has taken
pub record Holds (aim : Aim) (p : Process) (c : Control) (input output : Option (List ℕ)) : Type 0 where
  pub here : Context
  pub waiting : List machine.Frame
  pub now : State
  pub is : IsProcess p here waiting now
  pub leads : Leads (standing c here waiting now) (last aim.program aim.result)
  pub left : input ≡ Some now.input
  pub taken : output ≡ Some (aim.before ++ now.output)

-- a turn goes on, or ends as the run does
abbrev pub TurnGives : Aim → Process → Turn → Option (List ℕ) → Option (List ℕ) → Type 0
TurnGives aim p (Goes c) input output = Holds aim p c input output
TurnGives aim p (Ends r) input output = MeanGives aim.before (outcome_of aim.result) r input output
