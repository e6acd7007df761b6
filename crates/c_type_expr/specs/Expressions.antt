-- Which rules an expression keeps, and what it is with its types (ISO C11 6.5). One case a construct: its parts are judged in order,
-- and then its own rules.
use Rattle.std.specs.Prelude.{ℕ, ◌%◌, ◌^◌, ◌++◌, Bool, true, false, ◌&&◌, ◌||◌, List, [], ◌∷◌, Option, Some, None, if◌then◌else◌}
use Rattle.c_ast.specs.declared.token.Span.{Span}
use Rattle.c_ast.specs.declared.int_type.IntType.{IntType}
use Rattle.c_ast.specs.declared.int_type.IntType.TheVariants as int
use Rattle.c_ast.specs.declared.operator.UnaryOperator.{UnaryOperator}
use Rattle.c_ast.specs.declared.operator.UnaryOperator.TheVariants as unary
use Rattle.c_ast.specs.declared.operator.BinaryOperator.{BinaryOperator}
use Rattle.c_ast.specs.declared.operator.BinaryOperator.TheVariants as binary
use Rattle.c_ast.specs.declared.operator.AssignOperator.{AssignOperator}
use Rattle.c_ast.specs.declared.operator.AssignOperator.TheVariants as assign
use Rattle.c_ast.specs.declared.operator.Step.{Step}
use Rattle.c_ast.specs.declared.expr.CType.{CType}
use Rattle.c_ast.specs.declared.expr.Expr.{Expr}
use Rattle.c_ast.specs.declared.expr.CType.TheOpen.{Node-F, Expr-F}
use Rattle.c_ast.specs.declared.expr.CType.TheFolds.{fold-CType, fold-Expr}
use Rattle.c_type_base.specs.declared.ty.Ty.{Ty}
use Rattle.c_type_base.specs.declared.ty.Ty.TheVariants as ty
use Rattle.c_type_base.specs.declared.expr.TNode.TheVariants as node
use Rattle.c_type_base.specs.Sizes.{size, is_complete}
use Rattle.c_type_base.specs.Types.{int_of, target_of, struct_of, is_integer, is_pointer, is_void}
use Rattle.c_type_base.specs.Conversions.{promoted, usual}
use Rattle.c_type_expr.specs.Faults.{rule}
use Rattle.c_type_expr.specs.Outcomes.{Judged, sure, both, on, asked, ruled, only_kept}
use Rattle.c_type_base.specs.declared.known.Known.{Known}
use Rattle.c_type_base.specs.declared.known.Fixed.{Fixed}
use Rattle.c_type_base.specs.declared.known.Constancy.TheVariants.{Varies, Is}
use Rattle.c_type_base.specs.Known.{texpr, plain, designates, value, wrapped, converted, is_null, is_value, assignable, is_changeable}
use Rattle.c_type_expr.specs.Operators.{misfit, converted_as, Sort, Integer, Points, Neither, sort_of, complete_target, binary_judged}
use Rattle.c_type_expr.specs.Operators.{signed_row, not_row, cond_judged}
use Rattle.c_type_base.specs.declared.known.Written.{Written}
use Rattle.c_type_expr.specs.Said.{Said, NodeSaid, said, computing, type_step, whole, constant_known, variable, text}
use Rattle.c_type_expr.specs.Postfix.{index_row, member_row, struct_pointed, arrow_row, call}

-- ---- unary operators (6.5.3)

-- `& e` (6.5.3.2)
abbrev pub address_known : Span → Known → Known
address_known span e = record (plain (texpr span (ty.Pointer e.tree.ty) (node.Unary unary.AddressOf e.tree)) Varies) { fixed = e.fixed }

abbrev pub address_row : Span → Known → Judged Known
address_row span e = ruled span (rule 11 e.lvalue ∷ []) (address_known span e)

-- `* e` (6.5.3.2)
abbrev pub target_row : Span → Known → Sort → Judged Known
target_row span e (Points t) = λ env.
    ruled span (complete_target env.structs t ∷ []) (designates (texpr span t (node.Unary unary.Dereference e.tree)) None) env
target_row span e _ = misfit span

abbrev pub unary_row : UnaryOperator → Span → Known → Judged Known
unary_row unary.AddressOf span e = address_row span e
unary_row unary.Dereference span e = target_row span (value e) (sort_of (value e))
unary_row unary.Not span e = not_row span (value e) (sort_of (value e))
unary_row o span e = signed_row o span (value e) (sort_of (value e))

-- a cast (6.5.4): between integers, between pointers, of the null constant, and to void
abbrev pub castable : Ty → Known → Bool
castable t k = is_void t || (is_integer t && is_integer k.tree.ty) || (is_pointer t && (is_pointer k.tree.ty || is_null k))

-- the null constant in a pointer's type points to the null block
abbrev pub cast_fixed : Ty → Known → Option Fixed
cast_fixed t k = (if is_pointer t then (if is_null k then Some (record { target = None; offset = 0 }) else k.fixed) else None)

abbrev pub cast_known : Span → Ty → Known → Known
cast_known span t k = record (plain (texpr span t (node.Cast t k.tree)) (wrapped (int_of t) k.constant)) { fixed = cast_fixed t k }

abbrev pub cast_row : Span → Ty → Known → Judged Known
cast_row span t k = ruled span (rule 12 (castable t k) ∷ []) (cast_known span t k)

-- `sizeof` (6.5.3.4), a constant of type unsigned long, modulo 2^64; its value is not known where the type has no size
abbrev pub size_known : Span → node.the_data → ℕ → Known
size_known span n bytes = plain (texpr span (ty.Int int.ULong) n) (Is bytes)

abbrev pub sizeof_row : Span → Known → Judged Known
sizeof_row span e env =
    only_kept span (rule 12 (is_value e) ∷ rule 15 (is_complete env.structs e.tree.ty) ∷ [])
    (size_known span (node.SizeofExpr e.tree) (size env.structs e.tree.ty % 2 ^ 64)) env

abbrev pub sizeof_type : Span → Ty → Judged Known
sizeof_type span t env =
    only_kept span (rule 15 (is_complete env.structs t) ∷ []) (size_known span (node.SizeofName t) (size env.structs t % 2 ^ 64)) env

-- ---- assignment (6.5.16), and `++` and `--` (6.5.2.4, 6.5.3.1)

-- the left side with what is assigned to it
abbrev pub assigned : Option AssignOperator → Span → Known → Known → Known
assigned o span a b = plain (texpr span a.tree.ty (node.Assign o a.tree b.tree)) Varies

abbrev pub simple_row : Span → Known → Known → Judged Known
simple_row span a b =
    ruled span (rule 11 (is_changeable a) ∷ rule 12 (assignable a.tree.ty b) ∷ []) (assigned None span a (converted_as a b))

abbrev pub binary_of : AssignOperator → BinaryOperator
binary_of assign.Add = binary.Add
binary_of assign.Subtract = binary.Subtract
binary_of assign.Multiply = binary.Multiply
binary_of assign.Divide = binary.Divide
binary_of assign.Remainder = binary.Remainder
binary_of assign.ShiftLeft = binary.ShiftLeft
binary_of assign.ShiftRight = binary.ShiftRight
binary_of assign.BitAnd = binary.BitAnd
binary_of assign.BitXor = binary.BitXor
binary_of assign.BitOr = binary.BitOr

-- the type that the right side of an operator has, where the left side is of the other: the count of a shift is promoted by itself
abbrev pub right_type : BinaryOperator → IntType → IntType → IntType
right_type binary.ShiftLeft s t = promoted t
right_type binary.ShiftRight s t = promoted t
right_type o s t = usual s t

abbrev pub moves : AssignOperator → Bool
moves assign.Add = true
moves assign.Subtract = true
moves _ = false

-- what the left side is assigned is what its operator gives: two integers, or a pointer and an integer for `+` and `-`
abbrev pub compound_row : AssignOperator → Span → Known → Known → Sort → Sort → Judged Known
compound_row o span a b (Integer s) (Integer t) =
    ruled span (rule 11 (is_changeable a) ∷ [])
    (assigned (Some o) span a (converted (ty.Int (right_type (binary_of o) s t)) b))
compound_row o span a b (Points u) (Integer t) = λ env.
    ruled span (rule 11 (is_changeable a) ∷ rule 12 (moves o) ∷ complete_target env.structs u ∷ [])
    (assigned (Some o) span a b) env
compound_row o span a b _ _ = asked span (rule 11 (is_changeable a) ∷ rule 12 false ∷ [])

abbrev pub assign_row : Option AssignOperator → Span → Known → Known → Judged Known
assign_row None span a b = simple_row span a (value b)
assign_row (Some o) span a b = compound_row o span a (value b) (sort_of a) (sort_of (value b))

abbrev pub stepped : Step → Span → Known → Known
stepped s span e = plain (texpr span e.tree.ty (node.Step s e.tree)) Varies

abbrev pub step_row : Step → Span → Known → Sort → Judged Known
step_row s span e (Integer t) = ruled span (rule 11 (is_changeable e) ∷ []) (stepped s span e)
step_row s span e (Points t) = λ env. ruled span (rule 11 (is_changeable e) ∷ complete_target env.structs t ∷ []) (stepped s span e) env
step_row s span e Neither = asked span (rule 11 (is_changeable e) ∷ rule 12 false ∷ [])

-- ---- all of them

-- in parentheses it is what it is without (6.5.1 paragraph 5)
abbrev pub in_parentheses : Span → Known → Known
in_parentheses span k = record k { tree = texpr span k.tree.ty (node.Paren k.tree) }

-- all but `&` and `*` may stand in an integer constant expression
abbrev pub computes_by : UnaryOperator → Bool
computes_by unary.AddressOf = false
computes_by unary.Dereference = false
computes_by _ = true

abbrev pub conditional : Said → Said → Said → Span → Judged Known
conditional c a b span =
    on (both c.judged (both a.judged b.judged)) (λ (x, y). cond_judged span (value x) (value y.0) (value y.1))

abbrev pub cast_judged : (Span → Judged Written) → Said → Span → Judged Known
cast_judged t e span = on (both (on (t span) (whole span)) e.judged) (λ (t, k). cast_row span t (value k))

abbrev pub index_of : Span → Known → Known → Judged Known
index_of span a i = index_row span (value a) (value i) (sort_of (value a)) (sort_of (value i))

abbrev pub arrow_of : Span → Known → List ℕ → Judged Known
arrow_of span e name = arrow_row span (value e) name (struct_pointed (target_of (value e).tree.ty))

abbrev pub node_step : Node-F (Span → Judged Written) NodeSaid Said → NodeSaid
node_step (Node-F.Constant n t) = computing (λ span. sure (constant_known span n t))
node_step (Node-F.Text bytes) = record { name = None; text = Some (bytes ++ 0 ∷ []); computes = false; judged = text (bytes ++ 0 ∷ []) }
node_step (Node-F.Variable name) = record { name = Some name; text = None; computes = false; judged = variable name }
node_step (Node-F.Paren e) =
    record { name = None; text = None; computes = e.computes; judged = λ span. on e.judged (λ k. sure (in_parentheses span k)) }
node_step (Node-F.Unary o e) =
    record { name = None; text = None; computes = computes_by o; judged = λ span. on e.judged (unary_row o span) }
node_step (Node-F.Binary o a b) = computing (λ span. on (both a.judged b.judged) (λ (x, y). binary_judged o span (value x) (value y)))
node_step (Node-F.Assign o a b) = said (λ span. on (both a.judged b.judged) (λ (x, y). assign_row o span x y))
node_step (Node-F.Cond c a b) = computing (conditional c a b)
node_step (Node-F.Cast t e) = computing (cast_judged t e)
node_step (Node-F.SizeofExpr e) = computing (λ span. on e.judged (sizeof_row span))
node_step (Node-F.SizeofName t) = computing (λ span. on (on (t span) (whole span)) (sizeof_type span))
node_step (Node-F.Call function arguments) = said (call function arguments)
node_step (Node-F.Index a i) =
    said (λ span. on (both a.judged i.judged) (λ (x, y). index_of span x y))
node_step (Node-F.Member e name) = said (λ span. on e.judged (λ k. member_row span k name (struct_of k.tree.ty)))
node_step (Node-F.Arrow e name) =
    said (λ span. on e.judged (λ k. arrow_of span k name))
node_step (Node-F.Step s e) = said (λ span. on e.judged (λ k. step_row s span k (sort_of k)))

abbrev pub expr_step : Expr-F (Span → Judged Written) NodeSaid Said → Said
expr_step e = record {
  span = e.span;
  name = e.node.name;
  text = e.node.text;
  computes = e.node.computes;
  judged = e.node.judged e.span;
}

-- what is said of an expression
abbrev pub expression : Expr → Said
expression = fold-Expr (Span → Judged Written) NodeSaid Said type_step node_step expr_step

-- what is judged of the type of a construct
abbrev pub written : CType → Span → Judged Written
written = fold-CType (Span → Judged Written) NodeSaid Said type_step node_step expr_step

-- the value of an expression
abbrev pub judged_value : Expr → Judged Known
judged_value e = on (expression e).judged (λ k. sure (value k))
