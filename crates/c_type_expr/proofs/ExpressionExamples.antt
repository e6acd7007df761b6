-- Given expressions where an int x, an int *p, a char c and a function int f(int) are declared.
use Rattle.std.proofs.Common.{◌≡◌, refl, [], ◌∷◌, Some, None, false}
use Rattle.std.specs.Prelude.{codes}
use Rattle.c_ast.specs.Tree.{expr}
use Rattle.c_ast.specs.declared.int_type.IntType.TheVariants as int
use Rattle.c_ast.specs.declared.operator.BinaryOperator.TheVariants as binary
use Rattle.c_ast.specs.declared.operator.UnaryOperator.TheVariants as unary
use Rattle.c_ast.specs.declared.expr.Node.TheVariants as node
use Rattle.c_type_base.specs.declared.ty.Ty.TheVariants as ty
use Rattle.c_type_base.specs.declared.expr.TNode.TheVariants as tnode
use Rattle.c_type_base.specs.declared.expr.Callee.TheVariants as callee
use Rattle.c_type_expr.specs.Faults.{fault}
use Rattle.c_type_expr.specs.declared.scopes.Meaning.TheVariants as means
use Rattle.c_type_expr.specs.declared.scopes.Place.TheVariants as place
use Rattle.c_type_expr.specs.Environment.{Env, binds}
use Rattle.c_type_base.specs.declared.known.Constancy.TheVariants.{Varies, Is}
use Rattle.c_type_base.specs.Known.{texpr, plain, designates}
use Rattle.c_type_expr.specs.Expressions.{expression}
use Rattle.c_type_expr.specs.Laws.SaidLaws.{said-constant, said-variable, said-unary, said-binary, said-call, said-sizeof, said-index}
use Rattle.c_type_expr.specs.Laws.SaidLaws.{said-member}
use Rattle.c_type_base.specs.Laws.SizeLaws.{size-int, complete-int}
use Rattle.c_type_base.specs.Laws.TypeLaws.{same-int}
use Rattle.c_type_base.specs.Laws.Opened.{given_types}
use Rattle.c_type_expr.specs.Laws.GivenTrees.{span, constant, name}

abbrev int_ty : ty.the_data
int_ty = ty.Int int.Int

abbrev here : Env
here = record {
  structs = [];
  scopes = (
      binds (codes "x") (means.Object (place.Local 0) (Some int_ty)) ∷
      binds (codes "p") (means.Object (place.Local 1) (Some (ty.Pointer int_ty))) ∷
      binds (codes "c") (means.Object (place.Local 2) (Some (ty.Int int.Char))) ∷ []) ∷ (
      binds (codes "f") (means.Function (callee.Function 0) (Some (record { result = int_ty; params = int_ty ∷ [] }))) ∷ []) ∷ [];
  texts = 0;
  locals = 3;
  result = Some int_ty;
  stdio = false;
}

-- x designates an object
variable_is : ((expression (name 0 1 (codes "x"))).judged here).known ≡ Some (designates (texpr (span 0 1) int_ty (tnode.Local 0)) None)
variable_is = rw said-variable refl

-- c+1: the char is read, and then an int
char_plus_one : ((expression (expr (span 0 3) (node.Binary binary.Add (name 0 1 (codes "c"))
    (constant 2 3 1)))).judged here).known ≡ Some (plain
    (texpr (span 0 3) int_ty (tnode.Binary binary.Add
    (texpr (span 0 1) int_ty (tnode.Convert (texpr (span 0 1) (ty.Int int.Char) (tnode.Read (texpr (span 0 1) (ty.Int int.Char)
    (tnode.Local 2))))))
    (texpr (span 2 3) int_ty (tnode.Constant 1 int.Int)))) Varies)
unfolding given_types
char_plus_one = rw (said-binary, said-variable, said-constant, same-int, same-int) refl

-- p-p is a long
pointer_difference : ((expression (expr (span 0 3) (node.Binary binary.Subtract (name 0 1 (codes "p")) (name 2 3
    (codes "p"))))).judged here).faults ≡ []
unfolding given_types
pointer_difference = rw (said-binary, said-variable, said-variable, same-int, complete-int) refl

-- p+p, *x and x.m
pointer_sum : ((expression (expr (span 0 3) (node.Binary binary.Add (name 0 1 (codes "p")) (name 2 3
    (codes "p"))))).judged here).faults ≡ fault 12 (span 0 3) ∷ []
unfolding given_types
pointer_sum = rw (said-binary, said-variable, said-variable) refl

no_pointer : ((expression (expr (span 0 2) (node.Unary unary.Dereference (name 1 2 (codes "x"))))).judged here).faults ≡ fault 12
    (span 0 2) ∷ []
unfolding given_types
no_pointer = rw (said-unary, said-variable) refl

no_struct : ((expression (expr (span 0 3) (node.Member (name 0 1 (codes "x")) (codes "m")))).judged here).faults ≡ fault 12 (span 0 3) ∷ []
unfolding given_types
no_struct = rw (said-member, said-variable) refl

-- &1
no_object : ((expression (expr (span 0 2) (node.Unary unary.AddressOf (constant 1 2 1)))).judged here).faults ≡ fault 11 (span 0 2) ∷ []
no_object = rw (said-unary, said-constant) refl

-- f, x(1) and f(1,2)
name_alone : ((expression (name 0 1 (codes "f"))).judged here).faults ≡ fault 13 (span 0 1) ∷ []
name_alone = rw said-variable refl

no_function : ((expression (expr (span 0 4) (node.Call (name 0 1 (codes "x")) (constant 2 3 1 ∷
    [])))).judged here).faults ≡ fault 13 (span 0 4) ∷ []
unfolding given_types
no_function = rw (said-call, said-variable, said-constant) refl

too_many : ((expression (expr (span 0 6) (node.Call (name 0 1 (codes "f")) (constant 2 3 1 ∷ constant 4 5 2 ∷
    [])))).judged here).faults ≡ fault 14 (span 0 6) ∷ []
unfolding given_types
too_many = rw (said-call, said-variable, said-constant, said-constant) refl

-- f(p) breaks the rule on its argument at the call
pointer_passed : ((expression (expr (span 0 4) (node.Call (name 0 1 (codes "f")) (name 2 3 (codes "p") ∷
    [])))).judged here).faults ≡ fault 12
    (span 0 4) ∷ []
unfolding given_types
pointer_passed = rw (said-call, said-variable, said-variable) refl

-- sizeof c is a constant of type unsigned long
size_of_char : ((expression (expr (span 0 8) (node.SizeofExpr (name 7 8 (codes "c"))))).judged here).known ≡ Some (plain
    (texpr (span 0 8) (ty.Int int.ULong) (tnode.SizeofExpr (texpr (span 7 8) (ty.Int int.Char) (tnode.Local 2)))) (Is 1))
unfolding given_types
size_of_char = rw (said-sizeof, said-variable, complete-int, size-int) refl

-- 1[p] is the element, as p[1] is
index_first : ((expression (expr (span 0 4) (node.Index (constant 0 1 1) (name 2 3 (codes "p"))))).judged here).faults ≡ []
unfolding given_types
index_first = rw (said-index, said-constant, said-variable, complete-int) refl
