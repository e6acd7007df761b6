use Rattle.std.proofs.Common.{ap, ◌∙◌}
use Rattle.a64_alu.specs.Width.{of_width}
use Rattle.mte_machine.proofs.machine.Machine.number.Goals as goal

pub returns : goal.returns
returns g c = λ w. c.of_width.ensures.value ∙ ap (of_width c.args.wide) (c.general.ensures w)
