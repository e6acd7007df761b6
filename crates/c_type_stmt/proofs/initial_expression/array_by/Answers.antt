use Rattle.std.proofs.Common.{rules}
use Rattle.std.proofs.lemmas.Result.{IfOk-weaker}
use Rattle.c_type_stmt.proofs.ExpressionInitialLaws.{array_false}
use Rattle.c_type_stmt.proofs.initial_expression.array_by.Goals as goal

pub returns-then-not-chars : goal.returns-then-not-chars
returns-then-not-chars c =
    IfOk-weaker c.no_text.result _ _
    (λ f walked. array_false c.args.e.now c.args.chars c.args.n _ _ f (search rules) walked) c.no_text.ensures
