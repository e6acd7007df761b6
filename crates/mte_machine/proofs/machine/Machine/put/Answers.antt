use Rattle.std.proofs.Common.{◌∙◌, ap}
use Rattle.a64_code.specs.State.{with_general, advanced}
use Rattle.mte_machine.specs.Machine.{state_of}
use Rattle.mte_machine.proofs.machine.Machine.put.Goals as goal

pub returns : goal.returns
returns g c = λ w. (
  c.advance.ensures.ran,
  c.advance.ensures.state w ∙ ap advanced (c.set_general.ensures w)
      ∙ ap (λ value. advanced (with_general c.args.register value (state_of g.M.TagMemory c.args.self.now w))) c.of_width.ensures.value,
)
