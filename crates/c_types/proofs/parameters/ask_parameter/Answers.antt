use Rattle.c_types.proofs.ParameterLaws.{asked_four}
use Rattle.c_types.proofs.parameters.ask_parameter.Goals as goal

pub returns-else-complete-clause-blames : goal.returns-else-complete-clause-blames
returns-else-complete-clause-blames c =
    asked_four c.args.walk.now c.ask_both.new.self c.ask_both-2.new.self c.args.span c.args.new c.is_scalar-scalar.result
    c.is_complete-complete.result c.args.small c.args.t.now c.ask_both.ensures c.ask_both-2.ensures c.is_scalar-scalar.ensures
    (rw c.as_slice.ensures at c.is_complete-complete.ensures)
