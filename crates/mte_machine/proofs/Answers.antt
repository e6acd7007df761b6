-- What the answer of a step tells of the step.
use Rattle.std.proofs.Common.{◌≡◌, sym, ap}
use Rattle.a64_code.specs.State.{State}
use Rattle.a64_code.specs.Stepped.{Stepped, Leads, Ends}
use Rattle.a64_code.specs.declared.end.MachineEnd.{MachineEnd}
use Rattle.mte_machine.specs.declared.step.Step.TheVariants.{Ran, Ended}
use Rattle.mte_machine.specs.Run.{StepsAs}

-- one that ran leads to where the machine stands
pub StepsAs-ran : (first : Stepped) (old new : State) → StepsAs first old Ran new → first ≡ Leads new
StepsAs-ran (Leads next) old new said = ap Leads (sym said.1)
StepsAs-ran (Ends end) old new said = let differ : Ran ≡ Ended end = said.0 in absurd (cc)

pub record EndsSo (first : Stepped) (end : MachineEnd) (old new : State) : Type 0 where
  pub ends : first ≡ Ends end
  pub state : new ≡ old

-- one that ended the run left the machine as it was
pub StepsAs-ended : (first : Stepped) (end : MachineEnd) (old new : State) → StepsAs first old (Ended end) new → EndsSo first end old new
StepsAs-ended (Leads next) end old new said = let differ : Ended end ≡ Ran = said.0 in absurd (cc)
StepsAs-ended (Ends other) end old new said = let same : Ended end ≡ Ended other = said.0 in record { ends = cc; state = said.1 }
