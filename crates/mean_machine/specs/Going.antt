-- How the machine goes on after a run of the meaning (this project's own).
use Rattle.std.specs.Prelude.{ℕ, zero, suc, Bool, true, false, List}
use Rattle.block_meaning.specs.declared.value.Pointer.{Pointer}
use Rattle.block_meaning.specs.Running.{More, Stuck, State, Result, Goes, Stops, Run, Context}
use Rattle.block_meaning.specs.Statements.{Flow}
use Rattle.block_meaning.specs.declared.value.Value.{Value}
use Rattle.mean_machine.specs.Frames.{GivesValue, GivesPlace, GivesFlow, Finished, Frame, Machine, Runs, Ended}

-- how the machine stands, by the state
abbrev pub Stand : Type 0
Stand = State → Machine

abbrev pub go_by : {A : Type 0} → Result A → (A → Stand) → Machine
go_by (Goes a now) f = f a now
go_by (Stops why now) f = Ended why now

-- a run that needs no stack, and what follows for its value
abbrev pub by : {A : Type 0} → Run A → (A → Stand) → Stand
by m f now = go_by (m now) f

abbrev pub spend_of : ℕ → Stand → Stand
spend_of zero next now = Ended More now
spend_of (suc rest) next now = next (record now { work = rest })

-- a unit of work, and what follows
abbrev pub spend : Stand → Stand
spend next now = spend_of now.work next now

-- the one where a condition holds, and else the other
abbrev pub either : Bool → Stand → Stand → Stand
either true a b now = a now
either false a b now = b now

-- there is nothing to do that a well-typed program has
abbrev pub nowhere : Stand
nowhere now = Ended Stuck now

abbrev pub value : Context → List Frame → Value → Stand
value here k v = Runs (GivesValue v) here k

abbrev pub place : Context → List Frame → Pointer → Stand
place here k p = Runs (GivesPlace p) here k

abbrev pub flow : Context → List Frame → Flow → Stand
flow here k f = Runs (GivesFlow f) here k

abbrev pub finished : Context → List Frame → Unit {0} → Stand
finished here k u = Runs Finished here k
