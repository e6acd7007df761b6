-- The programs that are taken today: `int main(void)` with the one statement `return N;` (C11 5.1.2.2.1, 6.8.6.4), where
-- N is one constant of type int (6.4.4.1, 6.4.4.4). The tree of `int main()` is the same one. The form is this project's own.
use Rattle.std.specs.Prelude.{◌≡◌, ◌≤◌, ℕ, List, [], ◌∷◌, Option, Some, None, codes}
use Rattle.c_ast.specs.Tree.{TypeLayer, NodeLayer, StmtLayer, ItemLayer}
use Rattle.c_ast.specs.declared.int_type.IntType.TheVariants as integer
use Rattle.c_ast.specs.declared.expr.CType.{out-CType}
use Rattle.c_ast.specs.declared.expr.CType.TheOpen.{CType-F, Node-F}
use Rattle.c_ast.specs.declared.expr.Node.{out-Node}
use Rattle.c_ast.specs.declared.declaration.Storage.TheVariants as storage
use Rattle.c_ast.specs.declared.statement.Item.{out-Item}
use Rattle.c_ast.specs.declared.statement.Item.TheOpen.{Stmt-F, Item-F}
use Rattle.c_ast.specs.declared.statement.Stmt.{Stmt, out-Stmt}
use Rattle.c_ast.specs.declared.program.External.{External}
use Rattle.c_ast.specs.declared.program.External.TheVariants as external
use Rattle.c_ast.specs.declared.program.Function.{Function}
use Rattle.c_ast.specs.declared.program.Program.{Program}

-- N, and nothing around it. The lexer gives a number above 2147483647 another type (6.4.4.1).
abbrev pub IsConstant : NodeLayer → ℕ → Type 0
IsConstant (Node-F.Constant value integer.Int) n = (value ≡ n) × (n ≤ 2147483647)
IsConstant _ n = ⊥

-- return N;
abbrev pub IsReturn : StmtLayer → ℕ → Type 0
IsReturn (Stmt-F.Return (Some e) span) n = IsConstant (out-Node e.node) n
IsReturn _ n = ⊥

-- the same as a part of a block
abbrev pub IsReturnItem : ItemLayer → ℕ → Type 0
IsReturnItem (Item-F.Stmt s) n = IsReturn (out-Stmt s) n
IsReturnItem _ n = ⊥

-- { return N; }
abbrev pub IsBlock : StmtLayer → ℕ → Type 0
IsBlock (Stmt-F.Block (i ∷ [])) n = IsReturnItem (out-Item i) n
IsBlock _ n = ⊥

abbrev pub IsBody : Option Stmt → ℕ → Type 0
IsBody (Some s) n = IsBlock (out-Stmt s) n
IsBody None n = ⊥

abbrev pub IsInt : TypeLayer → Type 0
IsInt (CType-F.Int integer.Int) = Unit {0}
IsInt _ = ⊥

-- int main(void) { return N; }
pub record IsMain (f : Function) (n : ℕ) : Type 0 where
  pub storage : f.storage ≡ storage.None
  pub name : f.name ≡ codes "main"
  pub result : IsInt (out-CType f.result)
  pub params : f.params ≡ []
  pub body : IsBody f.body n

-- the program is this function and nothing else
abbrev pub AreMain : List External → ℕ → Type 0
AreMain (external.Function f ∷ []) n = IsMain f n
AreMain _ n = ⊥

abbrev pub IsConstantProgram : Program → ℕ → Type 0
IsConstantProgram program n = AreMain program.items n
