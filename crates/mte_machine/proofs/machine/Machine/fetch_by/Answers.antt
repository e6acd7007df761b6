use Rattle.std.proofs.Common.{ap, sym, refl, ◌∙◌}
use Rattle.a64_code.specs.Instruction.{instruction_of}
use Rattle.mte_machine.specs.Machine.{state_of}
use Rattle.mte_machine.proofs.Fetched.{is_false, fetched_nowhere, fetched_there, instruction_fits}
use Rattle.mte_machine.proofs.machine.Machine.fetch_by.Goals as goal

pub returns-in_err-fetch-clause-instr : goal.returns-in_err-fetch-clause-instr
returns-in_err-fetch-clause-instr g c = λ w.
    let answer = c.in_err-fetch.ensures in
    c.from_residual.ensures ∙ sym (fetched_nowhere (state_of g.M.TagMemory c.args.self.now w) (is_false _ answer.there.1))

pub returns-clause-instr : goal.returns-clause-instr
returns-clause-instr g c = λ w.
    let answer = c.in_ok-fetch.ensures in
    c.decode.ensures.instruction ∙ ap instruction_of answer.value
    ∙ sym (fetched_there (state_of g.M.TagMemory c.args.self.now w) (answer.there.0 refl))

pub returns-clause-fields : goal.returns-clause-fields
returns-clause-fields g c = instruction_fits _ _ c.decode.ensures.instruction
