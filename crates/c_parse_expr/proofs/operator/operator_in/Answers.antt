use Rattle.std.proofs.Common.{◌∙◌, sym}
use Rattle.c_parse_expr.specs.Laws.OperatorLaws.{operator_at_mark}
use Rattle.c_parse_expr.proofs.operator.operator_in.Goals as goal

pub returns-in-Some : goal.returns-in-Some
returns-in-Some c =
    c.operator_of.ensures ∙ sym (operator_at_mark c.args.kind.now c.in-Some.mark c.in-Punct.number c.in-Punct.is c.in-Some.ensures.some)
