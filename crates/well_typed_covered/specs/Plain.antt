-- Expressions without what has no code yet: no member of a struct, nothing but scalars that are assigned, and no call with more than eight
-- arguments (this project's own).
use Rattle.std.specs.Prelude.{Bool, true, false, ◌&&◌, nat_le, List, [], ◌∷◌, length}
use Rattle.c_type_base.specs.Types.{is_scalar}
use Rattle.c_type_base.specs.declared.expr.TExpr.{TExpr}
use Rattle.c_type_base.specs.declared.expr.TNode.{TNode, map-TNode}
use Rattle.c_type_base.specs.declared.expr.TNode.TheFolds.{fold-TNode, fold-TExpr}
use Rattle.c_type_base.specs.declared.expr.TNode.TheOpen.{TNode-F, TExpr-F}
use Rattle.c_type_base.specs.declared.ty.Ty.{Ty}
use Rattle.block_meaning.specs.Expressions.{NodeLayer}

-- of a node, by the type of its expression
abbrev pub NodePlain : Type 0
NodePlain = Ty → Bool

abbrev pub all_plain : List Bool → Bool
all_plain [] = true
all_plain (e ∷ es) = e && all_plain es

abbrev pub node_plain : TNode-F NodePlain Bool → NodePlain
node_plain (TNode-F.Paren e) ty = e
node_plain (TNode-F.Unary o e) ty = e
node_plain (TNode-F.Binary o a b) ty = a && b
node_plain (TNode-F.Assign o a b) ty = is_scalar ty && (a && b)
node_plain (TNode-F.Cond c a b) ty = c && (a && b)
node_plain (TNode-F.Cast t e) ty = e
node_plain (TNode-F.Call f es) ty = nat_le (length es) 8 && all_plain es
node_plain (TNode-F.Index a i) ty = a && i
node_plain (TNode-F.Member e n) ty = false
node_plain (TNode-F.Arrow e n) ty = false
node_plain (TNode-F.Step s e) ty = e
node_plain (TNode-F.Read e) ty = e
node_plain (TNode-F.Decay e) ty = e
node_plain (TNode-F.Convert e) ty = e
node_plain _ ty = true

abbrev pub expr_plain : TExpr-F NodePlain Bool → Bool
expr_plain e = e.node e.ty

abbrev pub is_plain : TExpr → Bool
is_plain = fold-TExpr NodePlain Bool node_plain expr_plain

abbrev pub is_plain_node : TNode → NodePlain
is_plain_node = fold-TNode NodePlain Bool node_plain expr_plain

abbrev pub layer_plain : NodeLayer → Ty → Bool
layer_plain l = node_plain (map-TNode TNode TExpr NodePlain Bool is_plain_node is_plain l)
