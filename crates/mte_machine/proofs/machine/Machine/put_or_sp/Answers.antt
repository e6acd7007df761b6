use Rattle.std.proofs.Common.{◌∙◌, ap}
use Rattle.a64_code.specs.State.{with_general_or_sp, advanced}
use Rattle.mte_machine.specs.Machine.{state_of}
use Rattle.mte_machine.proofs.machine.Machine.put_or_sp.Goals as goal

pub returns : goal.returns
returns g c = λ w. (
  c.advance.ensures.ran,
  c.advance.ensures.state w ∙ ap advanced (c.set_general_or_sp.ensures w)
      ∙ ap (λ value. advanced (with_general_or_sp c.args.register value (state_of g.M.TagMemory c.args.self.now w)))
      c.of_width.ensures.value,
)
