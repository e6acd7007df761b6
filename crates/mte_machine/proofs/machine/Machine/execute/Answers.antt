use Rattle.std.proofs.Common.{rules, refl, sym, ap, ◌∙◌, subst}
use Rattle.a64_code.specs.Outside.{Outside}
use Rattle.a64_code.specs.Step.{carried_out}
use Rattle.mte_machine.specs.Machine.{state_of}
use Rattle.mte_machine.specs.Groups.{IsQuiet}
use Rattle.mte_machine.specs.Run.{StepsAs}
use Rattle.mte_machine.proofs.Asked.{ends_alone, quiet_answers}
use Rattle.mte_machine.proofs.NoFault.{effect-no_fault}
use Rattle.mte_machine.proofs.machine.Machine.execute.Goals as goal

pub returns-in-None : goal.returns-in-None
returns-in-None g c =
    ends_alone _ (λ (w : Outside). state_of g.M.TagMemory c.args.self.now w) _ _ _ (λ w. refl) tt
    (λ w. ap (λ found. carried_out found (state_of g.M.TagMemory c.args.self.now w)) (sym (c.requires.instr w) ∙ c.in-None.is)) (λ w. refl)

pub returns-in-Some : goal.returns-in-Some
returns-in-Some g c =
    let instr = c.in-Some.instr in
    let quiet : IsQuiet instr = search rules in
    let does = λ (w : Outside). ap (λ found. carried_out found (state_of g.M.TagMemory c.args.self.now w))
    (sym (c.requires.instr w) ∙ c.in-Some.is) in
    quiet_answers _ _ _ _ _ (λ w. refl)
    (λ w end ends. effect-no_fault instr (state_of g.M.TagMemory c.args.self.now w) end quiet (sym (does w) ∙ ends))
    (λ w. subst
    (λ done. StepsAs done (state_of g.M.TagMemory c.args.self.now w) c.carry_out.result
    (state_of g.M.TagMemory c.carry_out.new.self w))
    (sym (does w)) (c.carry_out.ensures w))
