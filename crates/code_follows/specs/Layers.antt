-- The code of one level of an expression, and the temps that it needs (this project's own).
use Rattle.std.specs.Prelude.{ℕ, List}
use Rattle.c_type_base.specs.declared.expr.TExpr.{TExpr}
use Rattle.c_type_base.specs.declared.expr.TNode.{TNode, map-TNode}
use Rattle.c_type_base.specs.declared.ty.Ty.{Ty}
use Rattle.c_type_base.specs.declared.typed.StructInfo.{StructInfo}
use Rattle.frame_layout.specs.declared.frame.Frame.{Frame}
use Rattle.frame_layout.specs.Needs.{need, node_need, need_step}
use Rattle.block_meaning.specs.Expressions.{NodeLayer}
use Rattle.gen_expr.specs.Coded.{Coded}
use Rattle.gen_expr.specs.Expressions.{NodeCode, node_code, coded, coded_node}

abbrev pub layer_code : List StructInfo → Frame → NodeLayer → Ty → Coded
layer_code structs f l = node_code structs f (map-TNode TNode TExpr NodeCode Coded (coded_node structs f) (coded structs f) l)

abbrev pub layer_need : NodeLayer → ℕ
layer_need l = need_step (map-TNode TNode TExpr ℕ ℕ node_need need l)
