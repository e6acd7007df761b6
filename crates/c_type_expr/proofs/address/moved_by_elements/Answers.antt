use Rattle.std.proofs.Common.{◌∙◌, ap, ℕ}
use Rattle.c_type_base.specs.Sizes.{size}
use Rattle.c_type_base.specs.Constants.{moved, direction}
use Rattle.c_type_expr.proofs.OperandLaws.{moved_low}
use Rattle.c_type_expr.proofs.address.moved_by_elements.Goals as goal

pub returns : goal.returns
returns c =
    c.moved.ensures
    ∙ ap (λ (bytes : ℕ). moved (direction c.args.back) bytes c.args.fixed c.args.constant) c.wrapped_size.ensures
    ∙ moved_low (direction c.args.back) (size c.args.structs.now c.args.element.now) c.args.fixed c.args.constant
