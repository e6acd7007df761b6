-- Given programs, what they are with their types, and the faults of those that break rules.
use Rattle.std.proofs.Common.{◌≡◌, refl, ℕ, List, [], ◌∷◌, Some, None, false, lit≤}
use Rattle.std.specs.Prelude.{codes}
use Rattle.c_ast.specs.Tree.{expr}
use Rattle.c_ast.specs.Laws.Opened.{given_trees}
use Rattle.c_ast.specs.declared.int_type.IntType.TheVariants as int
use Rattle.c_ast.specs.declared.expr.Node.TheVariants as node
use Rattle.c_ast.specs.declared.expr.CType.TheVariants as ctype
use Rattle.c_ast.specs.declared.declaration.Init.TheVariants as init
use Rattle.c_ast.specs.declared.declaration.Storage.TheVariants as storage
use Rattle.c_ast.specs.declared.statement.Stmt.TheVariants as stmt
use Rattle.c_ast.specs.declared.statement.Item.TheVariants as item
use Rattle.c_ast.specs.declared.program.Program.{Program}
use Rattle.c_ast.specs.declared.program.External.{External}
use Rattle.c_ast.specs.declared.program.External.TheVariants as external
use Rattle.c_type_base.specs.declared.ty.Ty.TheVariants as ty
use Rattle.c_type_base.specs.declared.expr.TNode.TheVariants as tnode
use Rattle.c_type_base.specs.declared.statement.TStmt.TheVariants as tstmt
use Rattle.c_type_base.specs.declared.statement.TItem.TheVariants as titem
use Rattle.c_type_expr.specs.Faults.{fault, NoLater, ends_first, starts_last}
use Rattle.c_type_base.specs.Known.{texpr}
use Rattle.c_types.specs.Files.{file_names}
use Rattle.c_types.specs.Units.{judged, typed_by}
use Rattle.c_type_expr.specs.Laws.SaidLaws.{written-void, written-int, written-struct, written-pointer, written-array, written-open}
use Rattle.c_type_expr.specs.Laws.SaidLaws.{said-constant, said-text, said-variable, said-assign}
use Rattle.c_type_stmt.specs.Laws.SaidLaws.{said-one, said-block, said-expression, said-return, judged-statement}
use Rattle.c_type_base.specs.Laws.SizeLaws.{size-int, size-pointer, size-array, size-struct, complete-int, complete-pointer}
use Rattle.c_type_base.specs.Laws.SizeLaws.{complete-array, complete-struct}
use Rattle.c_type_base.specs.Laws.TypeLaws.{same-int}
use Rattle.c_type_base.specs.Laws.Opened.{given_types}
use Rattle.c_type_expr.specs.Laws.GivenTrees.{span, int_type, constant, name, decl, main_at, program, returns}

-- ---- functions

-- int main(void){return 42;}
abbrev forty_two : Program
forty_two = program (main_at 0 26 (returns 15 25 (constant 22 24 42) ∷ []) ∷ [])

forty_two_kept : (judged forty_two).faults ≡ []
unfolding given_types
forty_two_kept = rw (written-int, said-block, judged-statement, said-return, said-constant, same-int) refl

forty_two_typed : (typed_by (file_names forty_two) (judged forty_two)).functions ≡ record {
  name = codes "main";
  local = false;
  params = 0;
  result = ty.Int int.Int;
  locals = [];
  body = tstmt.Block (titem.Stmt (tstmt.Return (Some (texpr (span 22 24) (ty.Int int.Int) (tnode.Constant 42 int.Int)))
      (span 15 25)) ∷ []);
  span = span 0 26;
} ∷ []
unfolding given_types
forty_two_typed = rw (written-int, said-block, judged-statement, said-return, said-constant, same-int) refl

-- int main(void){return x;}
abbrev undeclared : Program
undeclared = program (main_at 0 25 (returns 15 24 (name 22 23 (codes "x")) ∷ []) ∷ [])

undeclared_is : (judged undeclared).faults ≡ fault 9 (span 22 23) ∷ []
unfolding given_types
undeclared_is = rw (written-int, said-block, judged-statement, said-return, said-variable, same-int) refl

-- int main(void){5=6;}
abbrev no_place : Program
no_place = program (main_at 0 20 (item.Stmt (stmt.Expr (expr (span 15 18) (node.Assign None (constant 15 16 5)
    (constant 17 18 6)))) ∷ []) ∷ [])

no_place_is : (judged no_place).faults ≡ fault 11 (span 15 18) ∷ []
unfolding given_types
no_place_is = rw (written-int, said-block, judged-statement, said-expression, said-assign, said-constant, said-constant, same-int) refl

-- ---- objects

abbrev objects : List External → Program
objects = program

abbrev plain : ℕ → ℕ → List ℕ → ctype.the_data → External
plain start end bytes t = external.Objects storage.None (decl start end bytes t None ∷ [])

-- int x;char x;
redeclared_is : (judged (program (plain 4 5 (codes "x") int_type ∷ plain 11 12 (codes "x") (ctype.Int int.Char) ∷
    []))).faults ≡ fault 10 (span 11 12) ∷ []
unfolding given_types
redeclared_is = rw (written-int, written-int, size-int, size-int, complete-int, complete-int, same-int) refl

-- extern int x;int x; is one object
extern_then_defined : (judged (program (external.Objects storage.Extern (decl 11 12 (codes "x") int_type None ∷ []) ∷ plain 17 18
    (codes "x") int_type ∷ []))).faults ≡ []
unfolding given_types
extern_then_defined = rw (written-int, size-int, complete-int, same-int) refl

-- void *p;
void_pointer_is : (judged (program (plain 5 7 (codes "p") (ctype.Pointer ctype.Void) ∷ []))).faults ≡ fault 15 (span 5 7) ∷ []
unfolding given_types
void_pointer_is = rw (written-pointer, written-void, complete-pointer, size-pointer) refl

-- int a[0]; the rule on a length belongs to the length
zero_length_is : (judged (program (plain 4 8 (codes "a") (ctype.Array int_type (Some (constant 6 7 0))) ∷ []))).faults ≡ fault 12
    (span 6 7) ∷ []
unfolding given_types
zero_length_is = rw (written-array, said-constant, written-int) refl

-- int a[];
no_length_is : (judged (program (plain 4 7 (codes "a") (ctype.Array int_type None) ∷ []))).faults ≡ fault 15 (span 4 7) ∷ []
unfolding given_types
no_length_is = rw (written-open, written-int, complete-int, complete-array, size-array, size-int) refl

-- long a[2097153]; has 16,777,224 bytes
too_large_is : (judged (program (plain 5 15 (codes "a") (ctype.Array (ctype.Int int.Long) (Some (constant 7 14 2097153))) ∷
    []))).faults ≡ fault 17 (span 5 15) ∷ []
unfolding given_types
too_large_is = rw (written-array, said-constant, written-int, complete-int, complete-array, complete-int, size-array, size-int) refl

-- struct s; struct s x;
incomplete_is : (judged (program (external.Struct (record { name = codes "s"; members = None; span = span 0 8 }) ∷ plain 19 20
    (codes "x") (ctype.Struct (codes "s")) ∷ []))).faults ≡ fault 15 (span 19 20) ∷ []
unfolding given_types
incomplete_is = rw (written-struct, complete-struct, size-struct) refl

-- struct s x; its tag is not declared
no_tag_is : (judged (program (plain 9 10 (codes "x") (ctype.Struct (codes "s")) ∷ []))).faults ≡ fault 9 (span 9 10) ∷ fault 15
    (span 9 10) ∷ []
unfolding given_types
no_tag_is = rw (written-struct, complete-struct, size-struct) refl

-- int main;
main_object_is : (judged (program (plain 4 8 (codes "main") int_type ∷ []))).faults ≡ fault 19 (span 4 8) ∷ []
unfolding given_types
main_object_is = rw (written-int, size-int, complete-int) refl

-- #include <stdio.h> and then int EOF;
eof_is : (judged (program (external.Include ∷ plain 23 26 (codes "EOF") int_type ∷ []))).faults ≡ fault 10 (span 23 26) ∷ []
unfolding given_types
eof_is = rw (written-int, size-int, complete-int) refl

-- ---- initialisers

abbrev starts_with : ℕ → ℕ → List ℕ → ctype.the_data → init.the_data → External
starts_with start end bytes t i = external.Objects storage.None (decl start end bytes t (Some i) ∷ [])

-- int x=5;
abbrev five : Program
five = program (starts_with 4 7 (codes "x") int_type (init.One (constant 6 7 5)) ∷ [])

five_kept : (judged five).faults ≡ []
unfolding given_types
five_kept = rw (written-int, said-one, said-constant, size-int, complete-int) refl

-- char a[2]="abc"; the bytes without the final zero do not fit
abbrev text_in : ℕ → Program
text_in n = program (starts_with 5 15 (codes "a") (ctype.Array (ctype.Int int.Char) (Some (constant 7 8 n))) (init.One (expr
    (span 10 15) (node.Text (codes "abc")))) ∷ [])

long_text_is : (judged (text_in 2)).faults ≡ fault 16 (span 10 15) ∷ []
unfolding given_types given_trees
long_text_is =
    rw (written-array, said-constant, written-int, said-one, said-text, complete-int, complete-array, complete-int, size-array, size-int)
    refl

-- char a[3]="abc"; they do
text_kept : (judged (text_in 3)).faults ≡ []
unfolding given_types given_trees
text_kept =
    rw (written-array, said-constant, written-int, said-one, said-text, complete-int, complete-array, complete-int, size-array, size-int)
    refl

-- ---- the order of faults

-- what ends first comes first, also where it starts later
inner_first : NoLater (fault 12 (span 22 23)) (fault 9 (span 15 30))
inner_first = ends_first (lit≤ tt)

-- of two that end with one token the one inside comes first
inside_first : NoLater (fault 18 (span 8 12)) (fault 10 (span 4 12))
inside_first = starts_last refl (lit≤ tt)
