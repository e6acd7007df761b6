use Rattle.std.proofs.Common.{◌++◌, ◌∷◌, []}
use Rattle.c_type_stmt.proofs.ExpressionInitialLaws.{text_known}
use Rattle.c_type_stmt.proofs.initial_expression.text_for.Goals as goal

pub returns-in_ok-spelled-in-Some : goal.returns-in_ok-spelled-in-Some
returns-in_ok-spelled-in-Some c =
    text_known c.args.e.now c.args.n (c.args.bytes.now ++ 0 ∷ []) _ _ _ _ c.in-Some.k c.in_ok-spelled-in-Some.field-0 c.in-Some.is
    c.in_ok-expression.ensures c.in_ok-spelled-in-Some.ensures
