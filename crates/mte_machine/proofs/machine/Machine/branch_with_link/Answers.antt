use Rattle.std.proofs.Common.{refl, ap, ◌∙◌}
use Rattle.a64_code.specs.State.{at_pc}
use Rattle.a64_code.specs.Branches.{target}
use Rattle.mte_machine.specs.Machine.{state_of}
use Rattle.mte_machine.proofs.machine.Machine.branch_with_link.Goals as goal

pub returns : goal.returns
returns g c = λ w.
    let old = state_of g.M.TagMemory c.args.self.now w in (
      refl,
      ap (λ pc. at_pc pc (state_of g.M.TagMemory c.set_general.new.self w)) (c.target-target.ensures w)
          ∙ ap (at_pc (target c.args.bits c.args.words old)) (c.set_general.ensures w),
    )
