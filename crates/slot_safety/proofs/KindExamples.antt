-- What is harmed in given expressions, where `int a[4]` is the local 0, `int i` the local 1, and 2 and 3 are of a struct.
use Rattle.std.proofs.Common.{◌≡◌, refl, ℕ, [], ◌∷◌, List, None, false}
use Rattle.std.specs.Prelude.{codes}
use Rattle.c_ast.specs.declared.token.Span.{Span}
use Rattle.c_ast.specs.declared.int_type.IntType.TheVariants as int
use Rattle.c_ast.specs.declared.operator.UnaryOperator.TheVariants as unary
use Rattle.c_type_base.specs.Laws.Opened.{given_types, given_typed}
use Rattle.c_type_base.specs.declared.ty.Ty.{Ty}
use Rattle.c_type_base.specs.declared.ty.Ty.TheVariants as ty
use Rattle.c_type_base.specs.declared.expr.TExpr.{TExpr}
use Rattle.c_type_base.specs.declared.expr.TNode.TheVariants as node
use Rattle.c_type_base.specs.declared.statement.TItem.TheVariants as item
use Rattle.c_type_base.specs.declared.statement.TStmt.TheVariants as stmt
use Rattle.c_type_base.specs.declared.typed.LocalInfo.{LocalInfo}
use Rattle.c_type_base.specs.declared.typed.TFunction.{TFunction}
use Rattle.c_type_base.specs.Known.{texpr}
use Rattle.slot_safety.specs.declared.kind.Kind.TheVariants.{Safe, Tagged}
use Rattle.slot_safety.specs.Kinds.{kinds}
use Rattle.slot_safety.specs.Occurrences.{harmed_in}
use Rattle.slot_safety.specs.Laws.OccurrenceLaws.{said, said-constant, said-local, said-unary, said-assign, said-index}
use Rattle.slot_safety.specs.Laws.OccurrenceLaws.{said-decay, said-read, said-sizeof, harms-block, harms-statement, harms-expression}

abbrev nowhere : Span
nowhere = record { start = 0; end = 0 }

abbrev int_ty : Ty
int_ty = ty.Int int.Int

abbrev pair_ty : Ty
pair_ty = ty.Struct 0

abbrev a : TExpr
a = texpr nowhere (ty.Array int_ty 4) (node.Local 0)

abbrev first_element : TExpr
first_element = texpr nowhere (ty.Pointer int_ty) (node.Decay a)

abbrev i : TExpr
i = texpr nowhere int_ty (node.Read (texpr nowhere int_ty (node.Local 1)))

abbrev number : ℕ → TExpr
number n = texpr nowhere int_ty (node.Constant n int.Int)

abbrev pair : ℕ → TExpr
pair k = texpr nowhere pair_ty (node.Local k)

-- a[..], and its value
abbrev element : TExpr → TExpr
element at = texpr nowhere int_ty (node.Index first_element at)

abbrev value_of : TExpr → TExpr
value_of e = texpr nowhere int_ty (node.Read e)

-- i is read whole
scalar_is_safe : harmed_in [] i ≡ []
unfolding given_types given_typed
scalar_is_safe = rw (said, said-read, said, said-local) refl

-- a[i] may leave the array
variable_index_is_tagged : harmed_in [] (value_of (element i)) ≡ 0 ∷ []
unfolding given_types given_typed
variable_index_is_tagged =
    rw (said, said-read, said, said-index, said [] first_element, said-decay, said [] a, said-local, said, said-read, said, said-local) refl

-- a[3] does not
constant_index_is_safe : harmed_in [] (value_of (element (number 3))) ≡ []
unfolding given_types given_typed
constant_index_is_safe =
    rw (said, said-read, said, said-index, said [] first_element, said-decay, said [] a, said-local, said, said-constant) refl

-- a[4] does
index_out_of_range_is_tagged : harmed_in [] (value_of (element (number 4))) ≡ 0 ∷ []
unfolding given_types given_typed
index_out_of_range_is_tagged =
    rw (said, said-read, said, said-index, said [] first_element, said-decay, said [] a, said-local, said, said-constant) refl

-- &i
address_is_tagged : harmed_in [] (texpr nowhere (ty.Pointer int_ty) (node.Unary unary.AddressOf (texpr nowhere int_ty (node.Local 1))))
    ≡ 1 ∷ []
unfolding given_types given_typed
address_is_tagged = rw (said, said-unary, said, said-local) refl

-- one struct is assigned to the other
struct_assigned_whole_is_tagged : harmed_in []
    (texpr nowhere pair_ty (node.Assign None (pair 2) (texpr nowhere pair_ty (node.Read (pair 3))))) ≡ 2 ∷ 3 ∷ []
unfolding given_types given_typed
struct_assigned_whole_is_tagged = rw (said, said-assign, said [] (pair 2), said-local, said, said-read, said, said-local) refl

-- sizeof a[i]
sizeof_harms_nothing : harmed_in [] (texpr nowhere (ty.Int int.ULong) (node.SizeofExpr (element i))) ≡ []
unfolding given_types given_typed
sizeof_harms_nothing = rw (said, said-sizeof) refl

-- void f(void) { int a[4]; int i; a[i]; }
abbrev local : List ℕ → Ty → LocalInfo
local name t = record { name = name; ty = t; span = nowhere }

abbrev function : TFunction
function = record {
  name = codes "f";
  local = false;
  params = 0;
  result = ty.Void;
  locals = local (codes "a") (ty.Array int_ty 4) ∷ local (codes "i") int_ty ∷ [];
  body = stmt.Block (item.Stmt (stmt.Expr (value_of (element i))) ∷ []);
  span = nowhere;
}

array_is_tagged : kinds [] function ≡ Tagged ∷ Safe ∷ []
unfolding given_types given_typed
array_is_tagged = rw (harms-block, harms-statement, harms-expression, variable_index_is_tagged) refl
