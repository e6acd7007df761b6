-- The code of an expression (this project's own). Structs, and texts and lists as initialisers, have no code yet.
use Rattle.std.specs.Prelude.{ℕ, true, false, List, slice_get}
use Rattle.c_type_base.specs.declared.ty.Ty.{Ty}
use Rattle.c_type_base.specs.declared.expr.TExpr.{TExpr}
use Rattle.c_type_base.specs.declared.expr.TNode.{TNode}
use Rattle.c_type_base.specs.declared.expr.TNode.TheOpen.{TNode-F, TExpr-F}
use Rattle.c_type_base.specs.declared.expr.TNode.TheFolds.{fold-TNode, fold-TExpr}
use Rattle.c_type_base.specs.declared.typed.StructInfo.{StructInfo}
use Rattle.a64_code.specs.declared.instr.Reg.{Reg}
use Rattle.frame_layout.specs.declared.frame.Frame.{Frame}
use Rattle.sym_code.specs.declared.item.SymItem.TheVariants as item
use Rattle.gen_base.specs.Code.{Code, only}
use Rattle.gen_base.specs.Operators.{wrapped_size}
use Rattle.gen_expr.specs.Coded.{Coded, computed, designated, no_code, read}
use Rattle.gen_expr.specs.Nodes.{constant, local, unary_node, binary_value, cond_value, cast_value, converted_value, index_place}
use Rattle.gen_expr.specs.Nodes.{assign_node, step_value, call_value}

-- by the type of its expression
abbrev pub NodeCode : Type 0
NodeCode = Ty → Coded

abbrev pub node_code : List StructInfo → Frame → TNode-F NodeCode Coded → NodeCode
node_code structs f (TNode-F.Constant n s) ty = computed true (constant n) ty
node_code structs f (TNode-F.Text n) ty = designated true (λ t r. only (item.TextAddress n r)) ty
node_code structs f (TNode-F.Local k) ty = local k (slice_get f.slots k) ty
node_code structs f (TNode-F.Global n) ty = designated true (λ t r. only (item.GlobalAddress n r)) ty
node_code structs f (TNode-F.Extern n) ty = designated true (λ t r. only (item.ExternAddress n r)) ty
node_code structs f (TNode-F.Paren e) ty = record e { ty = ty }
node_code structs f (TNode-F.Unary o e) ty = unary_node o e ty
node_code structs f (TNode-F.Binary o a b) ty = computed false (binary_value structs o a b) ty
node_code structs f (TNode-F.Assign o a b) ty = computed false (assign_node structs o a b) ty
node_code structs f (TNode-F.Cond c a b) ty = computed false (cond_value c a b) ty
node_code structs f (TNode-F.Cast s e) ty = computed e.alone (cast_value s e) ty
node_code structs f (TNode-F.SizeofExpr e) ty = computed true (constant (wrapped_size structs e.ty)) ty
node_code structs f (TNode-F.SizeofName s) ty = computed true (constant (wrapped_size structs s)) ty
node_code structs f (TNode-F.Call callee as') ty = computed false (call_value callee as') ty
node_code structs f (TNode-F.Index a i) ty = designated false (index_place structs a i ty) ty
node_code structs f (TNode-F.Member e member) ty = computed false no_code ty
node_code structs f (TNode-F.Arrow e member) ty = computed false no_code ty
node_code structs f (TNode-F.Step s e) ty = computed false (step_value structs s e.slot e) ty
node_code structs f (TNode-F.Read e) ty = computed e.alone (read e) ty
node_code structs f (TNode-F.Decay e) ty = computed e.alone e.place ty
node_code structs f (TNode-F.Convert e) ty = computed e.alone (converted_value ty e) ty

abbrev pub expr_code : TExpr-F NodeCode Coded → Coded
expr_code e = e.node e.ty

-- in a file with these structs and in a function with this frame
abbrev pub coded : List StructInfo → Frame → TExpr → Coded
coded structs f = fold-TExpr NodeCode Coded (node_code structs f) expr_code

abbrev pub coded_node : List StructInfo → Frame → TNode → NodeCode
coded_node structs f = fold-TNode NodeCode Coded (node_code structs f) expr_code

-- its value into a register, with the temps from a number on
abbrev pub expression_code : List StructInfo → Frame → TExpr → ℕ → Reg → Code
expression_code structs f e t r = (coded structs f e).value t r
