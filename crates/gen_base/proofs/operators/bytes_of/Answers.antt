use Rattle.std.proofs.Common.{◌≡◌, subst}
use Rattle.gen_base.specs.Operators.{wrapped_size}
use Rattle.gen_base.proofs.operators.bytes_of.Goals as goal

pub returns : goal.returns
returns c =
    subst (λ structs. c.wrapped_size.result ≡ wrapped_size structs c.args.ty.now) c.as_slice.ensures c.wrapped_size.ensures
