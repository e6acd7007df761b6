-- The expressions of which it is shown that their code does what they mean (this project's own): all but those with members of structs, or
-- structs that are assigned, which have no code yet. Each constant is a value of its type, as the text has it, and operators compute in
-- promoted types (ISO C11 6.3.1.8); conversions do not stand deep in one another. So the type checker makes them (`well_typed_covered`).
-- A call has eight arguments at most.
use Rattle.std.specs.Prelude.{ℕ, ◌-◌, nat_le, nat_lt, Bool, true, false, ◌&&◌, ◌||◌, nat_eq, List, [], ◌∷◌, length, Option, Some, None}
use Rattle.std.specs.Prelude.{if◌then◌else◌}
use Rattle.c_ast.specs.declared.int_type.IntType.{IntType}
use Rattle.c_ast.specs.declared.operator.AssignOperator.{AssignOperator}
use Rattle.c_type_base.specs.Conversions.{bits_of, wrap}
use Rattle.c_type_base.specs.Types.{int_of, is_pointer, is_scalar}
use Rattle.c_type_base.specs.declared.expr.TExpr.{TExpr}
use Rattle.c_type_base.specs.declared.expr.TNode.{TNode, map-TNode}
use Rattle.c_type_base.specs.declared.expr.TNode.TheFolds.{fold-TNode, fold-TExpr}
use Rattle.c_type_base.specs.declared.expr.TNode.TheOpen.{TNode-F, TExpr-F}
use Rattle.c_type_base.specs.declared.ty.Ty.{Ty}
use Rattle.block_meaning.specs.Expressions.{NodeLayer}
use Rattle.block_meaning.specs.ExpressionsInOrder.{Group, Logical, group_of, is_sign}
use Rattle.block_meaning.specs.Operators.{int_in, binary_of, computing_type}
use Rattle.code_follows.specs.Leaves.{bare_leaves, value_leaves}

-- ---- types in which operators compute

-- of 32 bits or more
abbrev pub is_promoted : IntType → Bool
is_promoted t = nat_le 32 (bits_of t)

abbrev pub is_promoted_in : Option IntType → Bool
is_promoted_in None = true
is_promoted_in (Some t) = is_promoted t

-- such an integer type, or no integer type
abbrev pub computes_in : Ty → Bool
computes_in t = is_promoted_in (int_of t)

-- an operator on operands of these types
abbrev pub operates_in : Ty → Ty → Bool
operates_in s t = is_pointer t || computes_in s

-- `&&` and `||` compare each operand with 0 in its own type
abbrev pub operates_by : Group → Ty → Ty → Bool
operates_by Logical s t = true
operates_by _ s t = operates_in s t

-- an operator with `=`, on an object of the first type
abbrev pub combines_in : AssignOperator → Ty → Ty → Bool
combines_in o s t = is_pointer s || is_promoted (computing_type (binary_of o) (int_in s) (int_in t))

abbrev pub combines_by : Option AssignOperator → Ty → Ty → Bool
combines_by None s t = true
combines_by (Some o) s t = combines_in o s t

-- ---- trees

-- of an expression: its type, the steps that its code leaves, and whether it is covered
pub record Covering : Type 0 where
  pub ty : Ty
  pub leaves : ℕ
  pub is : Bool

-- by the type of its expression
pub record NodeCovering : Type 0 where
  pub leaves : ℕ
  pub is : Ty → Bool

abbrev pub all_covered : List Covering → Bool
all_covered [] = true
all_covered (e ∷ es) = e.is && all_covered es

abbrev pub node_covered : TNode-F NodeCovering Covering → Ty → Bool
node_covered (TNode-F.Constant n i) ty = nat_eq n (wrap i n)
node_covered (TNode-F.Text n) ty = true
node_covered (TNode-F.Local n) ty = true
node_covered (TNode-F.Global n) ty = true
node_covered (TNode-F.Extern n) ty = true
node_covered (TNode-F.Paren e) ty = e.is
node_covered (TNode-F.Unary o e) ty = (if is_sign o then computes_in ty else true) && e.is
node_covered (TNode-F.Binary o a b) ty = operates_by (group_of o) a.ty b.ty && (a.is && b.is)
node_covered (TNode-F.Assign o a b) ty = (is_scalar ty && combines_by o a.ty b.ty) && (a.is && b.is)
node_covered (TNode-F.Cond c a b) ty = c.is && (a.is && b.is)
node_covered (TNode-F.Cast t e) ty = e.is
node_covered (TNode-F.SizeofExpr e) ty = true
node_covered (TNode-F.SizeofName t) ty = true
node_covered (TNode-F.Call f es) ty = nat_le (length es) 8 && all_covered es
node_covered (TNode-F.Index a i) ty = a.is && i.is
node_covered (TNode-F.Member e n) ty = false
node_covered (TNode-F.Arrow e n) ty = false
node_covered (TNode-F.Step s e) ty = e.is
node_covered (TNode-F.Read e) ty = e.is
node_covered (TNode-F.Decay e) ty = e.is
node_covered (TNode-F.Convert e) ty = nat_lt bare_leaves e.leaves && e.is

-- the steps that a node's code leaves
abbrev pub left_of : TNode-F NodeCovering Covering → ℕ
left_of (TNode-F.Paren e) = e.leaves
left_of (TNode-F.Convert e) = e.leaves - 1
left_of _ = value_leaves

abbrev pub node_covering : TNode-F NodeCovering Covering → NodeCovering
node_covering n = record { leaves = left_of n; is = node_covered n }

abbrev pub expr_covering : TExpr-F NodeCovering Covering → Covering
expr_covering e = record { ty = e.ty; leaves = e.node.leaves; is = e.node.is e.ty }

abbrev pub covering : TExpr → Covering
covering = fold-TExpr NodeCovering Covering node_covering expr_covering

abbrev pub covering_node : TNode → NodeCovering
covering_node = fold-TNode NodeCovering Covering node_covering expr_covering

abbrev pub layer_covering : NodeLayer → NodeCovering
layer_covering l = node_covering (map-TNode TNode TExpr NodeCovering Covering covering_node covering l)

abbrev pub layer_covered : NodeLayer → Ty → Bool
layer_covered l = (layer_covering l).is

abbrev pub layer_leaves : NodeLayer → ℕ
layer_leaves l = (layer_covering l).leaves

abbrev pub covered : TExpr → Bool
covered e = (covering e).is

abbrev pub leaves : TExpr → ℕ
leaves e = (covering e).leaves
