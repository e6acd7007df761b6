use Rattle.c_type_stmt.proofs.BraceLaws.{zero_unknown, zero_known}
use Rattle.c_type_stmt.proofs.initial.zero_list.Goals as goal

pub returns-in-None : goal.returns-in-None
returns-in-None c = zero_unknown c.args.span c.args.t.now c.args.e.now _ _ _ c.in-None.is c.in_ok-expression_for.ensures

pub returns-in_ok-push-in-Some-2 : goal.returns-in_ok-push-in-Some-2
returns-in_ok-push-in-Some-2 c =
    rw (c.in_ok-push-in-Some-2.ensures.ok, c.in_ok-push-in-Some.ensures.ok, c.new-pieces.ensures, c.new-trees.ensures)
    (zero_known c.args.span c.args.t.now c.args.e.now c.first_scalar-bytes.result _ _ _ c.in-Some.fitted c.in-Some.is
    c.in_ok-expression_for.ensures (rw (← c.as_slice.ensures) c.first_scalar-bytes.ensures))
