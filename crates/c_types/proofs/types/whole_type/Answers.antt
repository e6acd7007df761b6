use Rattle.c_type_expr.specs.Expressions.{written}
use Rattle.c_type_expr.specs.Laws.WalkedLaws.{walked_followed}
use Rattle.c_type_expr.specs.Said.{whole}
use Rattle.c_types.proofs.types.whole_type.Goals as goal

pub returns : goal.returns
returns c =
    walked_followed (written c.args.t.now c.args.span) (whole c.args.span) _ _ _ c.in_ok-t.t c.whole_on.result c.in_ok-t.ensures
    c.whole_on.ensures
