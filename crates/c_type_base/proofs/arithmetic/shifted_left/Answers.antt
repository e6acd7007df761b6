use Rattle.std.proofs.Common.{◌∙◌, ap, ℕ, ◌*◌, ◌%◌, ◌^◌}
use Rattle.c_type_base.specs.Conversions.{wrap}
use Rattle.c_type_base.proofs.WrapLaws.{wrap_low}
use Rattle.c_type_base.proofs.arithmetic.shifted_left.Goals as goal

pub returns : goal.returns
returns c =
    c.wrap.ensures
    ∙ wrap_low c.args.t (c.args.a * 2 ^ (c.args.count % c.bits_of.result))
    ∙ ap (λ (b : ℕ). wrap c.args.t (c.args.a * 2 ^ (c.args.count % b))) c.bits_of.ensures
