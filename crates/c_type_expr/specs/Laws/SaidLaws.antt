-- What is said of expressions and types, one equation a construct.
use Rattle.std.proofs.Common.{◌≡◌, ℕ, List, map, Option, Some, None, ap, ◌∙◌}
use Rattle.c_ast.specs.Tree.{expr}
use Rattle.c_ast.specs.Laws.Opened.{given_trees}
use Rattle.c_ast.specs.declared.token.Span.{Span}
use Rattle.c_ast.specs.declared.int_type.IntType.{IntType}
use Rattle.c_ast.specs.declared.operator.UnaryOperator.{UnaryOperator}
use Rattle.c_ast.specs.declared.operator.BinaryOperator.{BinaryOperator}
use Rattle.c_ast.specs.declared.operator.AssignOperator.{AssignOperator}
use Rattle.c_ast.specs.declared.operator.Step.{Step}
use Rattle.c_ast.specs.declared.expr.CType.{CType}
use Rattle.c_ast.specs.declared.expr.CType.TheVariants as ctype
use Rattle.c_ast.specs.declared.expr.Expr.{Expr}
use Rattle.c_ast.specs.declared.expr.Node.{Node}
use Rattle.c_ast.specs.declared.expr.Node.TheVariants as node
use Rattle.c_ast.specs.declared.expr.CType.TheOpen.{CType-F, Node-F}
use Rattle.c_ast.specs.declared.expr.CType.TheFolds.{fold-Node, fold-roll-CType, fold-roll-Node, fold_out-Expr}
use Rattle.c_type_expr.specs.Outcomes.{Judged}
use Rattle.c_type_base.specs.declared.known.Written.{Written}
use Rattle.c_type_expr.specs.Said.{Said, NodeSaid, type_step}
use Rattle.c_type_expr.specs.Expressions.{node_step, expr_step, expression, written}

-- ---- types

pub written-void : written ctype.Void ≡ type_step CType-F.Void
unfolding given_trees
written-void = fold-roll-CType (Span → Judged Written) NodeSaid Said type_step node_step expr_step CType-F.Void

pub written-int : (t : IntType) → written (ctype.Int t) ≡ type_step (CType-F.Int t)
unfolding given_trees
written-int t = fold-roll-CType (Span → Judged Written) NodeSaid Said type_step node_step expr_step (CType-F.Int t)

pub written-struct : (tag : List ℕ) → written (ctype.Struct tag) ≡ type_step (CType-F.Struct tag)
unfolding given_trees
written-struct tag = fold-roll-CType (Span → Judged Written) NodeSaid Said type_step node_step expr_step (CType-F.Struct tag)

pub written-pointer : (t : CType) → written (ctype.Pointer t) ≡ type_step (CType-F.Pointer (written t))
unfolding given_trees
written-pointer t = fold-roll-CType (Span → Judged Written) NodeSaid Said type_step node_step expr_step (CType-F.Pointer t)

pub written-array : (t : CType) (e : Expr) → written (ctype.Array t (Some e)) ≡ type_step (CType-F.Array (written t) (Some (expression e)))
unfolding given_trees
written-array t e = fold-roll-CType (Span → Judged Written) NodeSaid Said type_step node_step expr_step (CType-F.Array t (Some e))

pub written-open : (t : CType) → written (ctype.Array t None) ≡ type_step (CType-F.Array (written t) None)
unfolding given_trees
written-open t = fold-roll-CType (Span → Judged Written) NodeSaid Said type_step node_step expr_step (CType-F.Array t None)

-- ---- expressions

said_by : (span : Span) (n : Node) → expression (expr span n) ≡ expr_step (record {
  span =
      span;
  node = fold-Node (Span → Judged Written) NodeSaid Said type_step node_step expr_step n;
})
unfolding given_trees
said_by span n = fold_out-Expr (Span → Judged Written) NodeSaid Said type_step node_step expr_step (expr span n)

-- where it stands is where its tree stands
pub said-span : (e : Expr) → (expression e).span ≡ e.span
unfolding given_trees
said-span e = ap (λ s. s.span) (fold_out-Expr (Span → Judged Written) NodeSaid Said type_step node_step expr_step e)

pub said-constant : (span : Span) (n : ℕ) (t : IntType) → expression (expr span (node.Constant n t)) ≡
    expr_step (record { span = span; node = node_step (Node-F.Constant n t) })
unfolding given_trees
said-constant span n t =
    said_by span (node.Constant n t)
    ∙ ap (λ n. expr_step (record { span = span; node = n }))
    (fold-roll-Node (Span → Judged Written) NodeSaid Said type_step node_step expr_step (Node-F.Constant n t))

pub said-text : (span : Span) (bytes : List ℕ) → expression (expr span (node.Text bytes)) ≡
    expr_step (record { span = span; node = node_step (Node-F.Text bytes) })
unfolding given_trees
said-text span bytes =
    said_by span (node.Text bytes)
    ∙ ap (λ n. expr_step (record { span = span; node = n }))
    (fold-roll-Node (Span → Judged Written) NodeSaid Said type_step node_step expr_step (Node-F.Text bytes))

pub said-variable : (span : Span) (name : List ℕ) → expression (expr span (node.Variable name)) ≡
    expr_step (record { span = span; node = node_step (Node-F.Variable name) })
unfolding given_trees
said-variable span name =
    said_by span (node.Variable name)
    ∙ ap (λ n. expr_step (record { span = span; node = n }))
    (fold-roll-Node (Span → Judged Written) NodeSaid Said type_step node_step expr_step (Node-F.Variable name))

pub said-paren : (span : Span) (e : Expr) → expression (expr span (node.Paren e)) ≡
    expr_step (record { span = span; node = node_step (Node-F.Paren (expression e)) })
unfolding given_trees
said-paren span e =
    said_by span (node.Paren e)
    ∙ ap (λ n. expr_step (record { span = span; node = n }))
    (fold-roll-Node (Span → Judged Written) NodeSaid Said type_step node_step expr_step (Node-F.Paren e))

pub said-unary : (span : Span) (o : UnaryOperator) (e : Expr) → expression (expr span (node.Unary o e)) ≡
    expr_step (record { span = span; node = node_step (Node-F.Unary o (expression e)) })
unfolding given_trees
said-unary span o e =
    said_by span (node.Unary o e)
    ∙ ap (λ n. expr_step (record { span = span; node = n }))
    (fold-roll-Node (Span → Judged Written) NodeSaid Said type_step node_step expr_step (Node-F.Unary o e))

pub said-binary : (span : Span) (o : BinaryOperator) (a : Expr) (b : Expr) → expression (expr span (node.Binary o a b)) ≡
    expr_step (record { span = span; node = node_step (Node-F.Binary o (expression a) (expression b)) })
unfolding given_trees
said-binary span o a b =
    said_by span (node.Binary o a b)
    ∙ ap (λ n. expr_step (record { span = span; node = n }))
    (fold-roll-Node (Span → Judged Written) NodeSaid Said type_step node_step expr_step (Node-F.Binary o a b))

pub said-assign : (span : Span) (o : Option AssignOperator) (a : Expr) (b : Expr) → expression (expr span (node.Assign o a b)) ≡
    expr_step (record { span = span; node = node_step (Node-F.Assign o (expression a) (expression b)) })
unfolding given_trees
said-assign span o a b =
    said_by span (node.Assign o a b)
    ∙ ap (λ n. expr_step (record { span = span; node = n }))
    (fold-roll-Node (Span → Judged Written) NodeSaid Said type_step node_step expr_step (Node-F.Assign o a b))

pub said-cond : (span : Span) (c : Expr) (a : Expr) (b : Expr) → expression (expr span (node.Cond c a b)) ≡
    expr_step (record { span = span; node = node_step (Node-F.Cond (expression c) (expression a) (expression b)) })
unfolding given_trees
said-cond span c a b =
    said_by span (node.Cond c a b)
    ∙ ap (λ n. expr_step (record { span = span; node = n }))
    (fold-roll-Node (Span → Judged Written) NodeSaid Said type_step node_step expr_step (Node-F.Cond c a b))

pub said-cast : (span : Span) (t : CType) (e : Expr) → expression (expr span (node.Cast t e)) ≡
    expr_step (record { span = span; node = node_step (Node-F.Cast (written t) (expression e)) })
unfolding given_trees
said-cast span t e =
    said_by span (node.Cast t e)
    ∙ ap (λ n. expr_step (record { span = span; node = n }))
    (fold-roll-Node (Span → Judged Written) NodeSaid Said type_step node_step expr_step (Node-F.Cast t e))

pub said-sizeof : (span : Span) (e : Expr) → expression (expr span (node.SizeofExpr e)) ≡
    expr_step (record { span = span; node = node_step (Node-F.SizeofExpr (expression e)) })
unfolding given_trees
said-sizeof span e =
    said_by span (node.SizeofExpr e)
    ∙ ap (λ n. expr_step (record { span = span; node = n }))
    (fold-roll-Node (Span → Judged Written) NodeSaid Said type_step node_step expr_step (Node-F.SizeofExpr e))

pub said-sizeof_name : (span : Span) (t : CType) → expression (expr span (node.SizeofName t)) ≡
    expr_step (record { span = span; node = node_step (Node-F.SizeofName (written t)) })
unfolding given_trees
said-sizeof_name span t =
    said_by span (node.SizeofName t)
    ∙ ap (λ n. expr_step (record { span = span; node = n }))
    (fold-roll-Node (Span → Judged Written) NodeSaid Said type_step node_step expr_step (Node-F.SizeofName t))

pub said-call : (span : Span) (f : Expr) (es : List Expr) → expression (expr span (node.Call f es)) ≡
    expr_step (record { span = span; node = node_step (Node-F.Call (expression f) (map expression es)) })
unfolding given_trees
said-call span f es =
    said_by span (node.Call f es)
    ∙ ap (λ n. expr_step (record { span = span; node = n }))
    (fold-roll-Node (Span → Judged Written) NodeSaid Said type_step node_step expr_step (Node-F.Call f es))

pub said-index : (span : Span) (a : Expr) (i : Expr) → expression (expr span (node.Index a i)) ≡
    expr_step (record { span = span; node = node_step (Node-F.Index (expression a) (expression i)) })
unfolding given_trees
said-index span a i =
    said_by span (node.Index a i)
    ∙ ap (λ n. expr_step (record { span = span; node = n }))
    (fold-roll-Node (Span → Judged Written) NodeSaid Said type_step node_step expr_step (Node-F.Index a i))

pub said-member : (span : Span) (e : Expr) (name : List ℕ) → expression (expr span (node.Member e name)) ≡
    expr_step (record { span = span; node = node_step (Node-F.Member (expression e) name) })
unfolding given_trees
said-member span e name =
    said_by span (node.Member e name)
    ∙ ap (λ n. expr_step (record { span = span; node = n }))
    (fold-roll-Node (Span → Judged Written) NodeSaid Said type_step node_step expr_step (Node-F.Member e name))

pub said-arrow : (span : Span) (e : Expr) (name : List ℕ) → expression (expr span (node.Arrow e name)) ≡
    expr_step (record { span = span; node = node_step (Node-F.Arrow (expression e) name) })
unfolding given_trees
said-arrow span e name =
    said_by span (node.Arrow e name)
    ∙ ap (λ n. expr_step (record { span = span; node = n }))
    (fold-roll-Node (Span → Judged Written) NodeSaid Said type_step node_step expr_step (Node-F.Arrow e name))

pub said-step : (span : Span) (s : Step) (e : Expr) → expression (expr span (node.Step s e)) ≡
    expr_step (record { span = span; node = node_step (Node-F.Step s (expression e)) })
unfolding given_trees
said-step span s e =
    said_by span (node.Step s e)
    ∙ ap (λ n. expr_step (record { span = span; node = n }))
    (fold-roll-Node (Span → Judged Written) NodeSaid Said type_step node_step expr_step (Node-F.Step s e))
