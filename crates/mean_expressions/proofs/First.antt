-- What comes first in an expression, by its level and by its operator.
use Rattle.std.proofs.Common.{◌≡◌, ◌≢◌, refl, sym, subst, ◌∙◌, List, Result}
use Rattle.c_ast.specs.declared.operator.BinaryOperator.{BinaryOperator}
use Rattle.c_ast.specs.declared.operator.BinaryOperator.TheVariants as binary
use Rattle.c_ast.specs.declared.operator.UnaryOperator.{UnaryOperator}
use Rattle.c_ast.specs.declared.operator.UnaryOperator.TheVariants as unary
use Rattle.c_ast.specs.declared.token.Span.{Span}
use Rattle.c_type_base.specs.declared.expr.TExpr.{TExpr}
use Rattle.c_type_base.specs.declared.expr.TNode.{TNode, out-TNode}
use Rattle.block_meaning.specs.Running.{Context, State}
use Rattle.mean_machine.specs.Evaluation.{evaluate, locate, evaluate_unary, evaluate_binary, operand_first}
use Rattle.mean_machine.specs.Execution.{enter}
use Rattle.mean_machine.specs.Frames as machine
use Rattle.mean_expressions.specs.declared.frames.Control.{Control}
use Rattle.mean_expressions.specs.declared.frames.Frame.{Frame}
use Rattle.mean_effects.specs.declared.now.Ending.{Ending}
use Rattle.mean_effects.specs.declared.now.Now.{Now}
use Rattle.mean_expressions.specs.Stacked.{World, Stands}

-- how the code stands before the value of an expression that is so
abbrev pub Evaluates : Now → List Frame → World → Context → State → Result Control Ending → List machine.Frame → Span → TExpr →
    TNode → Type 0
Evaluates n frames w here now r k around e node = Stands n frames w here now r (evaluate enter here k around e (out-TNode node) now)

pub as-value : {n : Now} {frames : List Frame} {w : World} {here : Context} {now : State} {r : Result Control Ending}
    {node shape : TNode} (k : List machine.Frame) (around : Span) (e : TExpr) → node ≡ shape → node ≡ e.node →
    Evaluates n frames w here now r k around e shape → Evaluates n frames w here now r k around e e.node
as-value {n = n} {frames = frames} {w = w} {here = here} {now = now} {r = r} k around e same is first =
    subst (Evaluates n frames w here now r k around e) (sym same ∙ is) first

-- how the code stands before the place of an expression that is so
abbrev pub Locates : Now → List Frame → World → Context → State → Result Control Ending → List machine.Frame → TExpr → TNode → Type 0
Locates n frames w here now r k e node = Stands n frames w here now r (locate here k e (out-TNode node) now)

pub as-located : {n : Now} {frames : List Frame} {w : World} {here : Context} {now : State} {r : Result Control Ending}
    {node shape : TNode} (k : List machine.Frame) (e : TExpr) → node ≡ shape → node ≡ e.node →
    Locates n frames w here now r k e shape → Locates n frames w here now r k e e.node
as-located {n = n} {frames = frames} {w = w} {here = here} {now = now} {r = r} k e same is first =
    subst (Locates n frames w here now r k e) (sym same ∙ is) first

pub plain_unary : (here : Context) (k : List machine.Frame) (o : UnaryOperator) (e : TExpr) (now : State) → o ≢ unary.AddressOf →
    o ≢ unary.Dereference → evaluate_unary here k o e now ≡ operand_first here k e (machine.Unary o e) now
plain_unary here k unary.AddressOf e now no_address no_object = absurd (no_address refl)
plain_unary here k unary.Dereference e now no_address no_object = absurd (no_object refl)
plain_unary here k _ e now no_address no_object = refl

pub plain_binary : (here : Context) (k : List machine.Frame) (span : Span) (o : BinaryOperator) (a b : TExpr) (now : State) →
    o ≢ binary.And → o ≢ binary.Or → evaluate_binary here k span o a b now ≡ operand_first here k a (machine.BinaryLeft span o a b) now
plain_binary here k span binary.And a b now no_and no_or = absurd (no_and refl)
plain_binary here k span binary.Or a b now no_and no_or = absurd (no_or refl)
plain_binary here k span _ a b now no_and no_or = refl
