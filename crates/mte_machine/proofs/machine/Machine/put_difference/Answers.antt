use Rattle.std.proofs.Common.{ℕ, subst, false}
use Rattle.a64_alu.specs.declared.flags.Flags.{Flags}
use Rattle.a64_code.specs.Shape.{PutsWithFlags, done}
use Rattle.a64_code.specs.Results.{result_of}
use Rattle.mte_machine.specs.Machine.{state_of}
use Rattle.mte_machine.specs.Run.{StepsAs}
use Rattle.mte_machine.proofs.machine.Machine.put_difference.Goals as goal

pub returns : goal.returns
returns g c = λ w.
    let old = state_of g.M.TagMemory c.args.self.now w in
    subst (λ (outcome : ℕ × Flags). StepsAs
    (done (PutsWithFlags outcome.1 (result_of false c.args.wide c.args.register outcome.0)) old) old c.put.result
    (state_of g.M.TagMemory c.put.new.self w))
    c.subtract_with_flags-difference.ensures (c.put.ensures w)
