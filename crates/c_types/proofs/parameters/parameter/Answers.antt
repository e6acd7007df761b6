use Rattle.std.proofs.lemmas.Result.{IfOk-weaker}
use Rattle.c_types.proofs.ParameterLaws.{parameter_walked}
use Rattle.c_types.proofs.parameters.parameter.Goals as goal

pub returns : goal.returns
returns c =
    IfOk-weaker c.declare_parameter.result _ _
    (λ k next. parameter_walked c.args.defines c.args.d.now _ _ _ c.in_ok-t.t k c.in_ok-t.ensures next) c.declare_parameter.ensures
