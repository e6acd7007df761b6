-- Programs that return a constant and programs that do not, by their trees.
use Rattle.std.proofs.Common.{refl, arith, ℕ, List, [], ◌∷◌, Some}
use Rattle.std.specs.Prelude.{codes}
use Rattle.c_ast.specs.Laws.Opened.{given_trees}
use Rattle.c_ast.specs.Tree.{expr}
use Rattle.c_ast.specs.declared.int_type.IntType.{IntType}
use Rattle.c_ast.specs.declared.int_type.IntType.TheVariants as integer
use Rattle.c_ast.specs.declared.token.Span.{Span}
use Rattle.c_ast.specs.declared.expr.CType.TheVariants as type
use Rattle.c_ast.specs.declared.expr.Node.{Node}
use Rattle.c_ast.specs.declared.expr.Node.TheVariants as node
use Rattle.c_ast.specs.declared.declaration.Storage.{Storage}
use Rattle.c_ast.specs.declared.declaration.Storage.TheVariants as storage
use Rattle.c_ast.specs.declared.statement.Item.{Item}
use Rattle.c_ast.specs.declared.statement.Item.TheVariants as item
use Rattle.c_ast.specs.declared.statement.Stmt.TheVariants as stmt
use Rattle.c_ast.specs.declared.program.Program.{Program}
use Rattle.c_ast.specs.declared.program.External.{External}
use Rattle.c_ast.specs.declared.program.External.TheVariants as external
use Rattle.mt_compile.specs.Constant.{IsConstantProgram}

abbrev span : Span
span = record { start = 0; end = 0 }

abbrev returns : Node → Item
returns n = item.Stmt (stmt.Return (Some (expr span n)) span)

-- a function of this name without parameters, whose body is these
abbrev function : Storage → List ℕ → IntType → List Item → External
function storage name ty items =
    external.Function (record {
      storage = storage;
      name = name;
      result = type.Int ty;
      params = [];
      body =
          Some (stmt.Block items);
      span = span;
    })

abbrev alone : External → Program
alone part = record { items = part ∷ [] }

-- int main(void){return 42;}
forty_two : IsConstantProgram (alone (function storage.None (codes "main") integer.Int (returns (node.Constant 42 integer.Int) ∷ []))) 42
unfolding given_trees
forty_two = record { storage = refl; name = refl; result = tt; params = refl; body = (refl, omega arith) }

-- int main(void){return 42u;}
not_unsigned : (n : ℕ) → ¬ IsConstantProgram (alone (function storage.None (codes "main") integer.Int
    (returns (node.Constant 42 integer.UInt) ∷ []))) n
unfolding given_trees
not_unsigned n is = is.body

-- int main(void){return (42);}
not_in_parentheses : (n : ℕ) → ¬ IsConstantProgram (alone (function storage.None (codes "main") integer.Int
    (returns (node.Paren (expr span (node.Constant 42 integer.Int))) ∷ []))) n
unfolding given_trees
not_in_parentheses n is = is.body

-- int main(void){;return 42;}
not_the_second : (n : ℕ) → ¬ IsConstantProgram (alone (function storage.None (codes "main") integer.Int
    (item.Stmt stmt.Empty ∷ returns (node.Constant 42 integer.Int) ∷ []))) n
unfolding given_trees
not_the_second n is = is.body

-- static int main(void){return 42;}
not_static : (n : ℕ) → ¬ IsConstantProgram (alone (function storage.Static (codes "main") integer.Int
    (returns (node.Constant 42 integer.Int) ∷ []))) n
unfolding given_trees
not_static n is = let e = is.storage in cc

-- char main(void){return 42;}
not_char : (n : ℕ) → ¬ IsConstantProgram (alone (function storage.None (codes "main") integer.Char
    (returns (node.Constant 42 integer.Int) ∷ []))) n
unfolding given_trees
not_char n is = is.result

-- #include <stdio.h> before it
not_behind_include : (n : ℕ) → ¬ IsConstantProgram (record {
  items =
      external.Include ∷ function storage.None (codes "main") integer.Int (returns (node.Constant 42 integer.Int) ∷ []) ∷ [];
}) n
not_behind_include n is = is
