use Rattle.std.proofs.Common.{rules}
use Rattle.c_types.proofs.ParameterLaws.{parameter_known}
use Rattle.c_types.proofs.parameters.declare_parameter.Goals as goal

pub returns-in_ok-bind_local-in-Some : goal.returns-in_ok-bind_local-in-Some
returns-in_ok-bind_local-in-Some c =
    rw c.in-Some.is
    (parameter_known c.args.defines c.args.d.now c.in-Some.t c.in_ok-t-in-Some.t c.in-Ok.number c.is_new_parameter-new.result
    c.is_small-small.result c.ask_parameter-kept.result c.args.walk.now c.ask_parameter-kept.new.walk c.bind_local-in-Some.new.walk
    c.kept_type.result c.in_ok-t-in-Some.ensures (search rules) (rw c.as_slice.ensures at c.is_new_parameter-new.ensures)
    (rw (c.counted.ensures, c.as_slice-in-Some.ensures) at c.is_small-small.ensures) c.ask_parameter-kept.ensures.kept
    c.ask_parameter-kept.ensures.blames c.in_ok-bind_local-in-Some.ensures c.kept_type.ensures)
