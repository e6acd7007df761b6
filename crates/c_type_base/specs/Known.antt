-- What is known of an expression whose type can be told, its value (ISO C11 6.3.2.1), and its value in another type.
use Rattle.std.specs.Prelude.{Bool, true, false, ◌&&◌, ◌||◌, nat_eq, Option, Some, None, if◌then◌else◌}
use Rattle.c_ast.specs.declared.token.Span.{Span}
use Rattle.c_ast.specs.declared.int_type.IntType.{IntType}
use Rattle.c_type_base.specs.declared.ty.Ty.{Ty}
use Rattle.c_type_base.specs.declared.ty.Ty.TheVariants as ty
use Rattle.c_type_base.specs.declared.expr.TExpr.{TExpr}
use Rattle.c_type_base.specs.declared.expr.TNode.{TNode}
use Rattle.c_type_base.specs.declared.expr.TNode.TheVariants as node
use Rattle.c_type_base.specs.declared.known.Constancy.{Constancy}
use Rattle.c_type_base.specs.declared.known.Constancy.TheVariants.{Varies, Is}
use Rattle.c_type_base.specs.declared.known.Fixed.{Fixed}
use Rattle.c_type_base.specs.declared.known.Known.{Known}
use Rattle.c_type_base.specs.Types.{same_type, is_integer, is_pointer, is_struct, is_array, is_void, element_of, int_of}
use Rattle.c_type_base.specs.Conversions.{wrap}

abbrev pub texpr : Span → Ty → TNode → TExpr
texpr span ty node = record { span = span; ty = ty; node = node }

-- a value that no address constant has
abbrev pub plain : TExpr → Constancy → Known
plain tree constant = record { tree = tree; lvalue = false; constant = constant; fixed = None; path = false }

-- an expression that designates an object
abbrev pub designates : TExpr → Option Fixed → Known
designates tree fixed = record { tree = tree; lvalue = true; constant = Varies; fixed = fixed; path = true }

abbrev pub read : Known → Known
read k = plain (texpr k.tree.span k.tree.ty (node.Read k.tree)) Varies

-- the pointer to the first element of an array
abbrev pub decayed : Ty → Known → Known
decayed element k = record k {
  tree = texpr k.tree.span (ty.Pointer element) (node.Decay k.tree);
  lvalue = false;
}

abbrev pub value_by : Option Ty → Known → Known
value_by (Some element) k = decayed element k
value_by None k = (if k.lvalue then read k else k)

-- Outside `sizeof`, `&`, the left of `.` and of assignments, and the operand of `++` and `--`: an array is the pointer to its first
-- element, and an object is the value that is stored in it (6.3.2.1 paragraphs 2 and 3).
abbrev pub value : Known → Known
value k = value_by (element_of k.tree.ty) k

abbrev pub wrapped : Option IntType → Constancy → Constancy
wrapped (Some t) (Is n) = Is (wrap t n)
wrapped (Some t) other = other
wrapped None other = Varies

abbrev pub as_type : Ty → Known → Known
as_type t k = record k { tree = texpr k.tree.span t (node.Convert k.tree); constant = wrapped (int_of t) k.constant; fixed = None }

-- a value in a type, as by assignment (6.3.1.3, 6.3.2.3): without a node of its own where it has the type
abbrev pub converted : Ty → Known → Known
converted t k = (if same_type k.tree.ty t then k else as_type t k)

abbrev pub is_zero : Constancy → Bool
is_zero (Is n) = nat_eq n 0
is_zero _ = false

-- the null constant is an integer constant expression of value 0 (6.3.2.3 paragraph 3, without the cast)
abbrev pub is_null : Known → Bool
is_null k = is_zero k.constant

-- a void call is no value (6.3.2.2)
abbrev pub is_value : Known → Bool
is_value k = (if is_void k.tree.ty then false else true)

-- a value can be assigned to an object of a type (6.5.16.1)
abbrev pub assignable : Ty → Known → Bool
assignable t k =
    (is_integer t && is_integer k.tree.ty)
    || (is_pointer t && (same_type t k.tree.ty || is_null k))
    || (is_struct t && same_type t k.tree.ty)

-- it designates an object that may stand to the left of an assignment and at `++` and `--`: no array
abbrev pub is_changeable : Known → Bool
is_changeable k = k.lvalue && (if is_array k.tree.ty then false else true)
