use Rattle.std.proofs.Common.{◌∙◌, ap}
use Rattle.mt_base.specs.Shifts.{shift_left}
use Rattle.a64_alu.specs.Width.{width, of_width}
use Rattle.a64_alu.proofs.Narrow.{shift_left_is}
use Rattle.a64_alu.proofs.shifting.shift_left.Goals as goal

pub returns-clause-value : goal.returns-clause-value
returns-clause-value c =
    c.of_width.ensures.value
    ∙ shift_left_is c.args.wide c.args.x c.places.result
    ∙ ap (shift_left (width c.args.wide) (of_width c.args.wide c.args.x)) c.places.ensures.value
