-- The code of expressions, one equation a construct.
use Rattle.std.proofs.Common.{◌≡◌, refl, ap, ◌∙◌, ℕ, true, false, List, map, Option, slice_get}
use Rattle.c_ast.specs.declared.int_type.IntType.{IntType}
use Rattle.c_ast.specs.declared.operator.AssignOperator.{AssignOperator}
use Rattle.c_ast.specs.declared.operator.BinaryOperator.{BinaryOperator}
use Rattle.c_ast.specs.declared.operator.Step.{Step}
use Rattle.c_ast.specs.declared.operator.UnaryOperator.{UnaryOperator}
use Rattle.c_ast.specs.declared.operator.UnaryOperator.TheVariants as unary
use Rattle.c_type_base.specs.Laws.Opened.{given_typed}
use Rattle.c_type_base.specs.declared.ty.Ty.{Ty}
use Rattle.c_type_base.specs.declared.expr.Callee.{Callee}
use Rattle.c_type_base.specs.declared.expr.TExpr.{TExpr}
use Rattle.c_type_base.specs.declared.expr.TNode.{TNode}
use Rattle.c_type_base.specs.declared.expr.TNode.TheVariants as node
use Rattle.c_type_base.specs.declared.expr.TNode.TheOpen.{TNode-F}
use Rattle.c_type_base.specs.declared.expr.TNode.TheFolds.{fold-roll-TNode, fold_out-TExpr, fold_out-TNode}
use Rattle.c_type_base.specs.declared.typed.StructInfo.{StructInfo}
use Rattle.frame_layout.specs.declared.frame.Frame.{Frame}
use Rattle.sym_code.specs.declared.item.SymItem.TheVariants as item
use Rattle.gen_base.specs.Code.{only}
use Rattle.gen_base.specs.Operators.{wrapped_size}
use Rattle.gen_expr.specs.Coded.{Coded, computed, designated, read}
use Rattle.gen_expr.specs.Nodes.{constant, local, unary_node, binary_value, cond_value, cast_value, converted_value, index_place}
use Rattle.gen_expr.specs.Nodes.{assign_node, step_value, call_value}
use Rattle.gen_expr.specs.Expressions.{NodeCode, node_code, expr_code, coded, coded_node}

module _ (structs : List StructInfo) (f : Frame) where
  abbrev code : TExpr → Coded
  code = coded structs f

  abbrev node_coded : TNode → NodeCode
  node_coded = coded_node structs f

  pub coded-expression : (e : TExpr) → code e ≡ node_coded e.node e.ty
  unfolding given_typed
  coded-expression e = fold_out-TExpr NodeCode Coded (node_code structs f) expr_code e

  pub coded-constant : (n : ℕ) (s : IntType) (ty : Ty) → node_coded (node.Constant n s) ty ≡ computed true (constant n) ty
  unfolding given_typed
  coded-constant n s ty = ap (λ c. c ty) (fold-roll-TNode NodeCode Coded (node_code structs f) expr_code (TNode-F.Constant n s))

  pub coded-text : (n : ℕ) (ty : Ty) → node_coded (node.Text n) ty ≡ designated true (λ t r. only (item.TextAddress n r)) ty
  unfolding given_typed
  coded-text n ty = ap (λ c. c ty) (fold-roll-TNode NodeCode Coded (node_code structs f) expr_code (TNode-F.Text n))

  pub coded-local : (k : ℕ) (ty : Ty) → node_coded (node.Local k) ty ≡ local k (slice_get f.slots k) ty
  unfolding given_typed
  coded-local k ty = ap (λ c. c ty) (fold-roll-TNode NodeCode Coded (node_code structs f) expr_code (TNode-F.Local k))

  pub coded-global : (n : ℕ) (ty : Ty) → node_coded (node.Global n) ty ≡ designated true (λ t r. only (item.GlobalAddress n r)) ty
  unfolding given_typed
  coded-global n ty = ap (λ c. c ty) (fold-roll-TNode NodeCode Coded (node_code structs f) expr_code (TNode-F.Global n))

  pub coded-extern : (n : ℕ) (ty : Ty) → node_coded (node.Extern n) ty ≡ designated true (λ t r. only (item.ExternAddress n r)) ty
  unfolding given_typed
  coded-extern n ty = ap (λ c. c ty) (fold-roll-TNode NodeCode Coded (node_code structs f) expr_code (TNode-F.Extern n))

  pub coded-paren : (e : TExpr) (ty : Ty) → node_coded (node.Paren e) ty ≡ record (code e) { ty = ty }
  unfolding given_typed
  coded-paren e ty = ap (λ c. c ty) (fold-roll-TNode NodeCode Coded (node_code structs f) expr_code (TNode-F.Paren e))

  pub coded-unary : (o : UnaryOperator) (e : TExpr) (ty : Ty) → node_coded (node.Unary o e) ty ≡ unary_node o (code e) ty
  unfolding given_typed
  coded-unary o e ty = ap (λ c. c ty) (fold-roll-TNode NodeCode Coded (node_code structs f) expr_code (TNode-F.Unary o e))

  pub coded-binary : (o : BinaryOperator) (a b : TExpr) (ty : Ty) → node_coded (node.Binary o a b) ty ≡ computed false
      (binary_value structs o (code a) (code b)) ty
  unfolding given_typed
  coded-binary o a b ty = ap (λ c. c ty) (fold-roll-TNode NodeCode Coded (node_code structs f) expr_code (TNode-F.Binary o a b))

  pub coded-assign : (o : Option AssignOperator) (a b : TExpr) (ty : Ty) → node_coded (node.Assign o a b) ty ≡ computed false
      (assign_node structs o (code a) (code b)) ty
  unfolding given_typed
  coded-assign o a b ty = ap (λ c. c ty) (fold-roll-TNode NodeCode Coded (node_code structs f) expr_code (TNode-F.Assign o a b))

  pub coded-cond : (c a b : TExpr) (ty : Ty) → node_coded (node.Cond c a b) ty ≡ computed false (cond_value (code c) (code a) (code b)) ty
  unfolding given_typed
  coded-cond c a b ty = ap (λ c. c ty) (fold-roll-TNode NodeCode Coded (node_code structs f) expr_code (TNode-F.Cond c a b))

  pub coded-cast : (s : Ty) (e : TExpr) (ty : Ty) → node_coded (node.Cast s e) ty ≡ computed (code e).alone (cast_value s (code e)) ty
  unfolding given_typed
  coded-cast s e ty = ap (λ c. c ty) (fold-roll-TNode NodeCode Coded (node_code structs f) expr_code (TNode-F.Cast s e))

  pub coded-sizeof_expr : (e : TExpr) (ty : Ty) → node_coded (node.SizeofExpr e) ty ≡ computed true (constant (wrapped_size structs
      (code e).ty)) ty
  unfolding given_typed
  coded-sizeof_expr e ty = ap (λ c. c ty) (fold-roll-TNode NodeCode Coded (node_code structs f) expr_code (TNode-F.SizeofExpr e))

  pub coded-sizeof_name : (s : Ty) (ty : Ty) → node_coded (node.SizeofName s) ty ≡ computed true (constant (wrapped_size structs s)) ty
  unfolding given_typed
  coded-sizeof_name s ty = ap (λ c. c ty) (fold-roll-TNode NodeCode Coded (node_code structs f) expr_code (TNode-F.SizeofName s))

  pub coded-call : (callee : Callee) (es : List TExpr) (ty : Ty) → node_coded (node.Call callee es) ty ≡ computed false
      (call_value callee (map code es)) ty
  unfolding given_typed
  coded-call callee es ty = ap (λ c. c ty) (fold-roll-TNode NodeCode Coded (node_code structs f) expr_code (TNode-F.Call callee es))

  pub coded-index : (a i : TExpr) (ty : Ty) → node_coded (node.Index a i) ty ≡ designated false (index_place structs (code a)
      (code i) ty) ty
  unfolding given_typed
  coded-index a i ty = ap (λ c. c ty) (fold-roll-TNode NodeCode Coded (node_code structs f) expr_code (TNode-F.Index a i))

  pub coded-step : (s : Step) (e : TExpr) (ty : Ty) → node_coded (node.Step s e) ty ≡ computed false (step_value structs s
      (code e).slot (code e)) ty
  unfolding given_typed
  coded-step s e ty = ap (λ c. c ty) (fold-roll-TNode NodeCode Coded (node_code structs f) expr_code (TNode-F.Step s e))

  pub coded-read : (e : TExpr) (ty : Ty) → node_coded (node.Read e) ty ≡ computed (code e).alone (read (code e)) ty
  unfolding given_typed
  coded-read e ty = ap (λ c. c ty) (fold-roll-TNode NodeCode Coded (node_code structs f) expr_code (TNode-F.Read e))

  pub coded-decay : (e : TExpr) (ty : Ty) → node_coded (node.Decay e) ty ≡ computed (code e).alone (code e).place ty
  unfolding given_typed
  coded-decay e ty = ap (λ c. c ty) (fold-roll-TNode NodeCode Coded (node_code structs f) expr_code (TNode-F.Decay e))

  pub coded-convert : (e : TExpr) (ty : Ty) → node_coded (node.Convert e) ty ≡ computed (code e).alone (converted_value ty (code e)) ty
  unfolding given_typed
  coded-convert e ty = ap (λ c. c ty) (fold-roll-TNode NodeCode Coded (node_code structs f) expr_code (TNode-F.Convert e))

  -- ---- types

  unary-ty : (o : UnaryOperator) (e : Coded) (ty : Ty) → (unary_node o e ty).ty ≡ ty
  unary-ty unary.Dereference e ty = refl
  unary-ty _ e ty = refl

  layer-ty : (n : TNode-F NodeCode Coded) (ty : Ty) → (node_code structs f n ty).ty ≡ ty
  layer-ty (TNode-F.Unary o e) ty = unary-ty o e ty
  layer-ty _ ty = refl

  node-ty : (n : TNode) (ty : Ty) → (node_coded n ty).ty ≡ ty
  unfolding given_typed
  node-ty n ty = ap (λ c. (c ty).ty) (fold_out-TNode NodeCode Coded (node_code structs f) expr_code n) ∙ layer-ty _ ty

  pub coded_ty : (e : TExpr) → (code e).ty ≡ e.ty
  coded_ty e = ap (λ c. c.ty) (coded-expression e) ∙ node-ty e.node e.ty

  -- ---- an operator leaves the registers alone where its operand does

  pub unary-alone : (o : UnaryOperator) (e : Coded) (ty : Ty) → (unary_node o e ty).alone ≡ e.alone
  unary-alone unary.Dereference e ty = refl
  unary-alone _ e ty = refl
