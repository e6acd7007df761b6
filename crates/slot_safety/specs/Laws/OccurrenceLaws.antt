-- What is said of expressions and statements, one equation a construct.
use Rattle.std.proofs.Common.{◌≡◌, ℕ, List, ◌++◌, map, Option, Some, None, ap, ◌∙◌}
use Rattle.c_ast.specs.declared.int_type.IntType.{IntType}
use Rattle.c_ast.specs.declared.operator.UnaryOperator.{UnaryOperator}
use Rattle.c_ast.specs.declared.operator.BinaryOperator.{BinaryOperator}
use Rattle.c_ast.specs.declared.operator.AssignOperator.{AssignOperator}
use Rattle.c_type_base.specs.Laws.Opened.{given_typed}
use Rattle.c_type_base.specs.declared.expr.TExpr.{TExpr}
use Rattle.c_type_base.specs.declared.expr.TNode.TheVariants as node
use Rattle.c_type_base.specs.declared.expr.TNode.TheOpen.{TNode-F}
use Rattle.c_type_base.specs.declared.expr.TNode.TheFolds.{fold-roll-TNode, fold_out-TExpr}
use Rattle.c_type_base.specs.declared.statement.TDecl.{TDecl}
use Rattle.c_type_base.specs.declared.statement.TItem.{TItem}
use Rattle.c_type_base.specs.declared.statement.TItem.TheVariants as item
use Rattle.c_type_base.specs.declared.statement.TStmt.{TStmt}
use Rattle.c_type_base.specs.declared.statement.TStmt.TheVariants as stmt
use Rattle.c_type_base.specs.declared.statement.TItem.TheOpen.{TItem-F, TStmt-F}
use Rattle.c_type_base.specs.declared.statement.TItem.TheFolds.{fold-roll-TItem, fold-roll-TStmt}
use Rattle.c_type_base.specs.declared.typed.StructInfo.{StructInfo}
use Rattle.slot_safety.specs.Occurrences.{Uses, NodeUses, node_step, expr_step, uses, node_uses, harmed_in}
use Rattle.slot_safety.specs.Statements.{item_step, stmt_step, stmt_harms, item_harms}

-- ---- expressions

pub said : (structs : List StructInfo) (e : TExpr) →
    uses structs e ≡ expr_step (record { span = e.span; ty = e.ty; node = node_uses structs e.node })
unfolding given_typed
said structs e = fold_out-TExpr NodeUses Uses (node_step structs) expr_step e

pub said-type : (structs : List StructInfo) (e : TExpr) → (uses structs e).ty ≡ e.ty
said-type structs e = ap (λ u. u.ty) (said structs e)

pub said-constant : (structs : List StructInfo) (n : ℕ) (t : IntType) →
    node_uses structs (node.Constant n t) ≡ node_step structs (TNode-F.Constant n t)
unfolding given_typed
said-constant structs n t = fold-roll-TNode NodeUses Uses (node_step structs) expr_step (TNode-F.Constant n t)

pub said-local : (structs : List StructInfo) (k : ℕ) →
    node_uses structs (node.Local k) ≡ node_step structs (TNode-F.Local k)
unfolding given_typed
said-local structs k = fold-roll-TNode NodeUses Uses (node_step structs) expr_step (TNode-F.Local k)

pub said-paren : (structs : List StructInfo) (e : TExpr) →
    node_uses structs (node.Paren e) ≡ node_step structs (TNode-F.Paren (uses structs e))
unfolding given_typed
said-paren structs e = fold-roll-TNode NodeUses Uses (node_step structs) expr_step (TNode-F.Paren e)

pub said-unary : (structs : List StructInfo) (o : UnaryOperator) (e : TExpr) →
    node_uses structs (node.Unary o e) ≡ node_step structs (TNode-F.Unary o (uses structs e))
unfolding given_typed
said-unary structs o e = fold-roll-TNode NodeUses Uses (node_step structs) expr_step (TNode-F.Unary o e)

pub said-binary : (structs : List StructInfo) (o : BinaryOperator) (a : TExpr) (b : TExpr) →
    node_uses structs (node.Binary o a b) ≡ node_step structs (TNode-F.Binary o (uses structs a) (uses structs b))
unfolding given_typed
said-binary structs o a b = fold-roll-TNode NodeUses Uses (node_step structs) expr_step (TNode-F.Binary o a b)

pub said-assign : (structs : List StructInfo) (o : Option AssignOperator) (a : TExpr) (b : TExpr) →
    node_uses structs (node.Assign o a b) ≡ node_step structs (TNode-F.Assign o (uses structs a) (uses structs b))
unfolding given_typed
said-assign structs o a b = fold-roll-TNode NodeUses Uses (node_step structs) expr_step (TNode-F.Assign o a b)

pub said-cond : (structs : List StructInfo) (c : TExpr) (a : TExpr) (b : TExpr) →
    node_uses structs (node.Cond c a b) ≡ node_step structs (TNode-F.Cond (uses structs c) (uses structs a) (uses structs b))
unfolding given_typed
said-cond structs c a b = fold-roll-TNode NodeUses Uses (node_step structs) expr_step (TNode-F.Cond c a b)

pub said-index : (structs : List StructInfo) (a : TExpr) (i : TExpr) →
    node_uses structs (node.Index a i) ≡ node_step structs (TNode-F.Index (uses structs a) (uses structs i))
unfolding given_typed
said-index structs a i = fold-roll-TNode NodeUses Uses (node_step structs) expr_step (TNode-F.Index a i)

pub said-member : (structs : List StructInfo) (e : TExpr) (number : ℕ) →
    node_uses structs (node.Member e number) ≡ node_step structs (TNode-F.Member (uses structs e) number)
unfolding given_typed
said-member structs e number = fold-roll-TNode NodeUses Uses (node_step structs) expr_step (TNode-F.Member e number)

pub said-decay : (structs : List StructInfo) (e : TExpr) →
    node_uses structs (node.Decay e) ≡ node_step structs (TNode-F.Decay (uses structs e))
unfolding given_typed
said-decay structs e = fold-roll-TNode NodeUses Uses (node_step structs) expr_step (TNode-F.Decay e)

pub said-read : (structs : List StructInfo) (e : TExpr) →
    node_uses structs (node.Read e) ≡ node_step structs (TNode-F.Read (uses structs e))
unfolding given_typed
said-read structs e = fold-roll-TNode NodeUses Uses (node_step structs) expr_step (TNode-F.Read e)

pub said-sizeof : (structs : List StructInfo) (e : TExpr) →
    node_uses structs (node.SizeofExpr e) ≡ node_step structs (TNode-F.SizeofExpr (uses structs e))
unfolding given_typed
said-sizeof structs e = fold-roll-TNode NodeUses Uses (node_step structs) expr_step (TNode-F.SizeofExpr e)

-- ---- statements

pub harms-block : (structs : List StructInfo) (is : List TItem) →
    stmt_harms structs (stmt.Block is) ≡ stmt_step structs (TStmt-F.Block (map (item_harms structs) is))
unfolding given_typed
harms-block structs is = fold-roll-TStmt (List ℕ) (List ℕ) (item_step structs) (stmt_step structs) (TStmt-F.Block is)

pub harms-expression : (structs : List StructInfo) (e : TExpr) →
    stmt_harms structs (stmt.Expr e) ≡ stmt_step structs (TStmt-F.Expr e)
unfolding given_typed
harms-expression structs e = fold-roll-TStmt (List ℕ) (List ℕ) (item_step structs) (stmt_step structs) (TStmt-F.Expr e)

pub harms-if : (structs : List StructInfo) (e : TExpr) (s : TStmt) →
    stmt_harms structs (stmt.If e s None) ≡ stmt_step structs (TStmt-F.If e (stmt_harms structs s) None)
unfolding given_typed
harms-if structs e s = fold-roll-TStmt (List ℕ) (List ℕ) (item_step structs) (stmt_step structs) (TStmt-F.If e s None)

pub harms-if_else : (structs : List StructInfo) (e : TExpr) (s : TStmt) (o : TStmt) →
    stmt_harms structs (stmt.If e s (Some o)) ≡ stmt_step structs (TStmt-F.If e (stmt_harms structs s) (Some (stmt_harms structs o)))
unfolding given_typed
harms-if_else structs e s o = fold-roll-TStmt (List ℕ) (List ℕ) (item_step structs) (stmt_step structs) (TStmt-F.If e s (Some o))

-- the same of what stands behind `else`, if anything
pub harms-alone : (structs : List StructInfo) (e : TExpr) (s : TStmt) (o : Option TStmt) → o ≡ None →
    stmt_harms structs (stmt.If e s o) ≡ harmed_in structs e ++ stmt_harms structs s
harms-alone structs e s o is = ap (λ o. stmt_harms structs (stmt.If e s o)) is ∙ harms-if structs e s

pub harms-either : (structs : List StructInfo) (e : TExpr) (s other : TStmt) (o : Option TStmt) → o ≡ Some other →
    stmt_harms structs (stmt.If e s o) ≡ harmed_in structs e ++ (stmt_harms structs s ++ stmt_harms structs other)
harms-either structs e s other o is = ap (λ o. stmt_harms structs (stmt.If e s o)) is ∙ harms-if_else structs e s other

pub harms-while : (structs : List StructInfo) (e : TExpr) (s : TStmt) →
    stmt_harms structs (stmt.While e s) ≡ stmt_step structs (TStmt-F.While e (stmt_harms structs s))
unfolding given_typed
harms-while structs e s = fold-roll-TStmt (List ℕ) (List ℕ) (item_step structs) (stmt_step structs) (TStmt-F.While e s)

pub harms-do : (structs : List StructInfo) (s : TStmt) (e : TExpr) →
    stmt_harms structs (stmt.DoWhile s e) ≡ stmt_step structs (TStmt-F.DoWhile (stmt_harms structs s) e)
unfolding given_typed
harms-do structs s e = fold-roll-TStmt (List ℕ) (List ℕ) (item_step structs) (stmt_step structs) (TStmt-F.DoWhile s e)

pub harms-for : (structs : List StructInfo) (ds : List TDecl) (a : Option TExpr) (c : Option TExpr) (n : Option TExpr) (s : TStmt) →
    stmt_harms structs (stmt.For ds a c n s) ≡ stmt_step structs (TStmt-F.For ds a c n (stmt_harms structs s))
unfolding given_typed
harms-for structs ds a c n s = fold-roll-TStmt (List ℕ) (List ℕ) (item_step structs) (stmt_step structs) (TStmt-F.For ds a c n s)

pub harms-statement : (structs : List StructInfo) (s : TStmt) →
    item_harms structs (item.Stmt s) ≡ item_step structs (TItem-F.Stmt (stmt_harms structs s))
unfolding given_typed
harms-statement structs s = fold-roll-TItem (List ℕ) (List ℕ) (item_step structs) (stmt_step structs) (TItem-F.Stmt s)
