use Rattle.c_ast.specs.Seen.{seen}
use Rattle.c_parse_expr.specs.Laws.OperatorLaws.{next_in_tier}
use Rattle.c_parse_expr.proofs.operator.tier_operator.Goals as goal

pub returns-in-Some : goal.returns-in-Some
returns-in-Some c =
    let told = next_in_tier c.args.tier c.args.cursor.now (seen c.in-Some.token.now) c.in-Some.ensures in
    let found = c.operator_in.ensures in
    let among = c.in_tier.ensures in
    cc
