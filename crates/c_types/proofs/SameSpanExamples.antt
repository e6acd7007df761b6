-- Given programs in which a construct and a part of it break a rule at one span, and rules that need no type.
use Rattle.std.proofs.Common.{◌≡◌, refl, sym, subst, arith, lit≤, ℕ, ◌+◌, true, false, List, [], ◌∷◌, map, Option, Some, None}
use Rattle.std.specs.Prelude.{codes}
use Rattle.c_ast.specs.Tree.{expr}
use Rattle.c_ast.specs.Laws.Opened.{given_trees}
use Rattle.c_ast.specs.declared.int_type.IntType.TheVariants as int
use Rattle.c_ast.specs.declared.operator.UnaryOperator.TheVariants as unary
use Rattle.c_ast.specs.declared.expr.CType.{CType}
use Rattle.c_ast.specs.declared.expr.CType.TheVariants as ctype
use Rattle.c_ast.specs.declared.expr.Expr.{Expr}
use Rattle.c_ast.specs.declared.expr.Node.TheVariants as node
use Rattle.c_ast.specs.declared.declaration.Decl.{Decl}
use Rattle.c_ast.specs.declared.declaration.Init.{Init}
use Rattle.c_ast.specs.declared.declaration.Init.TheVariants as init
use Rattle.c_type_base.specs.declared.ty.Ty.TheVariants as ty
use Rattle.c_type_base.specs.declared.expr.Callee.TheVariants as callee
use Rattle.c_type_base.specs.declared.typed.StructInfo.{StructInfo}
use Rattle.std.proofs.lemmas.List.Elements.{All-cons}
use Rattle.c_ast.specs.declared.declaration.Storage.TheVariants as storage
use Rattle.c_ast.specs.declared.program.Program.{Program}
use Rattle.c_ast.specs.declared.program.External.TheVariants as external
use Rattle.c_type_expr.specs.declared.fault.Fault.{Fault}
use Rattle.c_type_expr.specs.Faults.{fault, NoLater, smaller, IsFirst}
use Rattle.c_types.specs.Units.{judged}
use Rattle.c_types.specs.WellTyped.{FirstBroken}
use Rattle.c_type_expr.specs.Laws.FirstLaws.{no_later-itself}
use Rattle.c_type_base.specs.Layout.{first_scalar}
use Rattle.c_type_expr.specs.declared.scopes.Signature.{Signature}
use Rattle.c_type_expr.specs.declared.scopes.Meaning.TheVariants as means
use Rattle.c_type_expr.specs.declared.scopes.Place.TheVariants as place
use Rattle.c_type_expr.specs.Environment.{Env, binds}
use Rattle.c_type_expr.specs.Expressions.{expression, written}
use Rattle.c_type_expr.specs.Outcomes.{Outcome}
use Rattle.c_type_stmt.specs.declared.fitted.Fitted.{Fitted}
use Rattle.c_type_stmt.specs.Initials.{initialiser, piece}
use Rattle.c_type_base.specs.declared.typed.InitPiece.{InitPiece}
use Rattle.c_type_base.specs.declared.typed.InitValue.TheVariants as initial_value
use Rattle.c_type_stmt.specs.Declarations.{local}
use Rattle.c_type_expr.specs.Laws.SaidLaws.{written-int, written-open, written-void, written-struct, written-pointer, written-array}
use Rattle.c_type_expr.specs.Laws.SaidLaws.{said-constant, said-variable, said-unary, said-call, said-cast, said-member}
use Rattle.c_type_stmt.specs.Laws.SaidLaws.{said-one, said-list}
use Rattle.c_type_base.specs.Laws.SizeLaws.{size-int, size-array, size-struct, complete-int, complete-array, complete-struct}
use Rattle.c_type_base.specs.Laws.FirstScalarLaws.{first-int, first-array, first-struct}
use Rattle.c_type_base.specs.Laws.TypeLaws.{same-struct}
use Rattle.c_type_base.specs.Laws.Opened.{given_types}
use Rattle.c_type_expr.specs.Laws.GivenTrees.{span, int_type, constant, name, decl, program}

-- struct s{int a;}x; struct q; struct q*p; int f(void); void g(void);
abbrev has_a : StructInfo
has_a = record { name = codes "s"; members = record { name = codes "a"; ty = ty.Int int.Int; offset = 0 } ∷ []; bytes = 4; align = 4 }

abbrev bare : StructInfo
bare = record { name = codes "q"; members = []; bytes = 0; align = 1 }

abbrev no_parameters : ty.the_data → Option Signature
no_parameters t = Some (record { result = t; params = [] })

abbrev here : Env
here = record {
  structs = has_a ∷ bare ∷ [];
  scopes = [] ∷ (
      binds (codes "x") (means.Object (place.Global 0) (Some (ty.Struct 0))) ∷
      binds (codes "p") (means.Object (place.Global 1) (Some (ty.Pointer (ty.Struct 1)))) ∷
      binds (codes "f") (means.Function (callee.Function 0) (no_parameters (ty.Int int.Int))) ∷
      binds (codes "g") (means.Function (callee.Function 1) (no_parameters ty.Void)) ∷ []) ∷ [];
  texts = 0;
  locals = 0;
  result = Some (ty.Int int.Int);
  stdio = false;
}

abbrev found : Outcome Fitted → List Fitted
found o = elim o.known [
  | None ↦ []
  | Some f ↦ f ∷ []
]

abbrev pieces_in_list : Fitted → List InitPiece
pieces_in_list f = f.pieces

abbrev called : ℕ → ℕ → List ℕ → List Expr → Expr
called start end f arguments = expr (span start end) (node.Call (name start (start + 1) f) arguments)

abbrev member_b : ℕ → ℕ → Expr
member_b start end = expr (span start end) (node.Member (name start (start + 1) (codes "x")) (codes "b"))

-- ---- lengths

abbrev array_of : Expr → CType
array_of length = ctype.Array int_type (Some length)

-- int a[f]; a function's name is no constant, and not called
function_length : (written (array_of (name 6 7 (codes "f"))) (span 4 8) here).faults ≡ fault 13 (span 6 7) ∷ fault 12 (span 6 7) ∷ []
unfolding given_types
function_length = rw (written-array, said-variable, written-int) refl

-- int a[f(1)];
call_length : (written (array_of (called 6 10 (codes "f") (constant 8 9 1 ∷ []))) (span 4 11) here).faults ≡
    fault 14 (span 6 10) ∷ fault 12 (span 6 10) ∷ []
unfolding given_types
call_length = rw (written-array, said-call, said-variable, said-constant, written-int) refl

-- int a[x.b];
member_length : (written (array_of (member_b 6 9)) (span 4 10) here).faults ≡ fault 18 (span 6 9) ∷ fault 12 (span 6 9) ∷ []
unfolding given_types
member_length = rw (written-array, said-member, said-variable, complete-struct, written-int) refl

-- int a[*p];
target_length : (written (array_of (expr (span 6 8) (node.Unary unary.Dereference (name 7 8 (codes "p"))))) (span 4 9) here).faults ≡
    fault 15 (span 6 8) ∷ fault 12 (span 6 8) ∷ []
unfolding given_types
target_length = rw (written-array, said-unary, said-variable, complete-struct, written-int) refl

-- ---- casts

-- (void*)5
void_pointer_of_5 : ((expression (expr (span 0 8) (node.Cast (ctype.Pointer ctype.Void) (constant 7 8 5)))).judged here).faults ≡
    fault 15 (span 0 8) ∷ fault 12 (span 0 8) ∷ []
unfolding given_types
void_pointer_of_5 = rw (said-cast, written-pointer, written-void, said-constant) refl

-- ---- void calls

-- f(g())
void_argument : ((expression (called 0 6 (codes "f") (called 2 5 (codes "g") [] ∷ []))).judged here).faults ≡
    fault 12 (span 0 6) ∷ fault 14 (span 0 6) ∷ []
unfolding given_types
void_argument = rw (said-call, said-variable, said-call, said-variable) refl

abbrev ints : ℕ → ty.the_data
ints n = ty.Array (ty.Int int.Int) n

-- int a[2]=g();
void_for_array : ((initialiser (init.One (called 9 12 (codes "g") []))).fitted false (ints 2) here).faults ≡
    fault 12 (span 9 12) ∷ fault 16 (span 9 12) ∷ []
unfolding given_types
void_for_array = rw (said-one, said-call, said-variable) refl

-- int x={g()};
void_in_braces : ((initialiser (init.List (init.One (called 7 10 (codes "g") []) ∷ []) (span 6 11))).fitted false (ty.Int int.Int)
    here).faults ≡ fault 12 (span 7 10) ∷ fault 16 (span 6 11) ∷ []
unfolding given_types
void_in_braces = rw (said-list, said-one, said-call, said-variable) refl

-- ---- initialisers

-- int a[2]=x.b;
member_for_array : ((initialiser (init.One (member_b 9 12))).fitted false (ints 2) here).faults ≡
    fault 18 (span 9 12) ∷ fault 16 (span 9 12) ∷ []
unfolding given_types
member_for_array = rw (said-one, said-member, said-variable, complete-struct) refl

-- int y=x.b; in a file, and in a block
member_from_start : ((initialiser (init.One (member_b 6 9))).fitted true (ty.Int int.Int) here).faults ≡
    fault 18 (span 6 9) ∷ fault 16 (span 6 9) ∷ []
unfolding given_types
member_from_start = rw (said-one, said-member, said-variable, complete-struct) refl

member_in_block : ((initialiser (init.One (member_b 6 9))).fitted false (ty.Int int.Int) here).faults ≡ fault 18 (span 6 9) ∷ []
unfolding given_types
member_in_block = rw (said-one, said-member, said-variable, complete-struct) refl

-- ---- objects of incomplete types

abbrev object : ℕ → ℕ → CType → Init → Decl
object start end t i = decl start end (codes "y") t (Some i)

-- struct q y=5;
incomplete_by_5 : (local (object 9 12 (ctype.Struct (codes "q")) (init.One (constant 11 12 5))) here).faults ≡
    fault 15 (span 9 12) ∷ fault 16 (span 11 12) ∷ []
unfolding given_types
incomplete_by_5 = rw (written-struct, said-one, said-constant, complete-struct, size-struct, same-struct) refl

-- struct t y=5; without a struct t
undeclared_by_5 : (local (object 9 12 (ctype.Struct (codes "t")) (init.One (constant 11 12 5))) here).faults ≡
    fault 9 (span 9 12) ∷ fault 15 (span 9 12) ∷ fault 16 (span 11 12) ∷ []
unfolding given_types
undeclared_by_5 = rw (written-struct, said-one, said-constant, complete-struct, size-struct, same-struct) refl

-- int y[]=5;
no_length_by_5 : (local (object 4 9 (ctype.Array int_type None) (init.One (constant 8 9 5))) here).faults ≡
    fault 15 (span 4 9) ∷ fault 16 (span 8 9) ∷ []
unfolding given_types
no_length_by_5 = rw (written-open, written-int, said-one, said-constant, complete-int, complete-array, size-array, size-int) refl

-- struct q y={y.a};
incomplete_in_itself : (local (object 9 16 (ctype.Struct (codes "q")) (init.List (init.One (expr (span 12 15)
    (node.Member (name 12 13 (codes "y")) (codes "a"))) ∷ []) (span 11 16))) here).faults ≡ fault 15 (span 9 16) ∷ fault 15
    (span 12 15) ∷ []
unfolding given_types
incomplete_in_itself = rw (written-struct, said-list, said-one, said-member, said-variable, complete-struct, size-struct) refl

-- ---- the first scalar

-- int a[2][2]={0}; begins with an int of value 0
zero_begins_with_int : map pieces_in_list (found ((initialiser (init.List (init.One (constant 13 14 0) ∷ []) (span 12 15))).fitted true
    (ty.Array (ints 2) 2) here)) ≡ (piece 0 (initial_value.Number 0 4) ∷ []) ∷ []
unfolding given_types given_trees
zero_begins_with_int = rw (said-list, said-one, said-constant, first-array, first-array, first-int) refl

-- int a[2][2]={0}; begins with an int, and an array of struct s as well
first_of_ints : first_scalar [] (ty.Array (ints 2) 2) ≡ 4
unfolding given_types
first_of_ints = rw (first-array, first-array, first-int) refl

first_of_structs : first_scalar here.structs (ty.Array (ty.Struct 0) 3) ≡ 4
unfolding given_types
first_of_structs = rw (first-array, first-struct, first-int) refl

-- ---- the first rule of a whole program

second_is_first : (f g : Fault) → NoLater g f → IsFirst (f ∷ g ∷ []) g
second_is_first f g before = record {
  among = (1, omega arith, refl);
  least = All-cons (NoLater g) f (g ∷ []) before (All-cons (NoLater g) g [] (no_later-itself g) (λ k d below. absurd (omega arith)));
}

-- int f(void);int a[f];
abbrev by_function : Program
by_function = program (external.Function (record {
  storage = storage.None;
  name = codes "f";
  result = int_type;
  params = [];
  body = None;
  span = span 0 12;
}) ∷ external.Objects storage.None (decl 16 20 (codes "a") (array_of (name 18 19 (codes "f"))) None ∷ []) ∷ [])

by_function_is : (judged by_function).faults ≡ fault 13 (span 18 19) ∷ fault 12 (span 18 19) ∷ []
unfolding given_types
by_function_is = rw (written-int, written-array, said-variable, written-int) refl

by_function_first : FirstBroken by_function 12 (span 18 19)
by_function_first =
    subst (λ (fs : List Fault). IsFirst fs (fault 12 (span 18 19))) (sym by_function_is) (second_is_first (fault 13 (span 18 19))
    (fault 12 (span 18 19)) (smaller refl refl (lit≤ tt)))
