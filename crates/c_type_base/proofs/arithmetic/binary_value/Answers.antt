use Rattle.std.proofs.Common.{◌∙◌, ap, ◌+◌, ◌*◌, Some}
use Rattle.c_type_base.specs.Conversions.{wrap}
use Rattle.c_type_base.specs.Arithmetic.{negated}
use Rattle.c_type_base.proofs.WrapLaws.{wrap_low, minus_low}
use Rattle.c_type_base.proofs.arithmetic.binary_value.Goals as goal

pub returns-in-Multiply : goal.returns-in-Multiply
returns-in-Multiply c = rw c.in-Multiply.is (ap Some (c.wrap.ensures ∙ wrap_low c.args.t (c.args.a * c.args.b)))

pub returns-in-Subtract : goal.returns-in-Subtract
returns-in-Subtract c =
    rw c.in-Subtract.is (ap Some (c.wrap-in-Subtract.ensures ∙ ap (wrap c.args.t) (minus_low c.args.a c.args.b)
    ∙ wrap_low c.args.t (c.args.a + negated c.args.b)))
