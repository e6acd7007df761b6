use Rattle.std.proofs.Common.{refl, ap}
use Rattle.a64_code.specs.State.{at_pc}
use Rattle.mte_machine.specs.Machine.{state_of}
use Rattle.mte_machine.proofs.machine.Machine.branch_to_link.Goals as goal

pub returns : goal.returns
returns g c = λ w. (refl, ap (λ pc. at_pc pc (state_of g.M.TagMemory c.args.self.now w)) (c.general-self.ensures w))
