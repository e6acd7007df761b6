-- The constant of a program is one, and of type int.
use Rattle.std.proofs.Common.{◌≡◌, ◌≤◌, ℕ, List, [], ◌∷◌, Option, Some, None, sym, ◌∙◌}
use Rattle.c_ast.specs.Tree.{NodeLayer, StmtLayer, ItemLayer}
use Rattle.c_ast.specs.declared.int_type.IntType.TheVariants as integer
use Rattle.c_ast.specs.declared.expr.CType.TheOpen.{Node-F}
use Rattle.c_ast.specs.declared.expr.Node.{out-Node}
use Rattle.c_ast.specs.declared.statement.Item.{out-Item}
use Rattle.c_ast.specs.declared.statement.Item.TheOpen.{Stmt-F, Item-F}
use Rattle.c_ast.specs.declared.statement.Stmt.{Stmt, out-Stmt}
use Rattle.c_ast.specs.declared.program.External.{External}
use Rattle.c_ast.specs.declared.program.External.TheVariants as external
use Rattle.c_ast.specs.declared.program.Program.{Program}
use Rattle.mt_compile.specs.Constant.{IsConstant, IsReturn, IsReturnItem, IsBlock, IsBody, AreMain, IsConstantProgram}
use Rattle.mt_compile.specs.Source.{ReturnsConstant}

-- what is said of two constants of one tree
record AreSame (m n : ℕ) : Type 0 where
  pub same : m ≡ n
  pub in_range : m ≤ 2147483647

of_node : (l : NodeLayer) (m n : ℕ) → IsConstant l m → IsConstant l n → AreSame m n
of_node (Node-F.Constant value integer.Int) m n is other = record { same = sym is.0 ∙ other.0; in_range = is.1 }
of_node _ m n is other = absurd is

of_return : (l : StmtLayer) (m n : ℕ) → IsReturn l m → IsReturn l n → AreSame m n
of_return (Stmt-F.Return (Some e) span) m n is other = of_node (out-Node e.node) m n is other
of_return _ m n is other = absurd is

of_item : (l : ItemLayer) (m n : ℕ) → IsReturnItem l m → IsReturnItem l n → AreSame m n
of_item (Item-F.Stmt s) m n is other = of_return (out-Stmt s) m n is other
of_item _ m n is other = absurd is

of_block : (l : StmtLayer) (m n : ℕ) → IsBlock l m → IsBlock l n → AreSame m n
of_block (Stmt-F.Block (i ∷ [])) m n is other = of_item (out-Item i) m n is other
of_block _ m n is other = absurd is

of_body : (s : Option Stmt) (m n : ℕ) → IsBody s m → IsBody s n → AreSame m n
of_body (Some s) m n is other = of_block (out-Stmt s) m n is other
of_body None m n is other = absurd is

of_main : (is : List External) (m n : ℕ) → AreMain is m → AreMain is n → AreSame m n
of_main (external.Function f ∷ []) m n is other = of_body f.body m n is.body other.body
of_main _ m n is other = absurd is

-- a program returns one constant
pub one_constant : (program : Program) (m n : ℕ) → IsConstantProgram program m → IsConstantProgram program n → m ≡ n
one_constant program m n is other = (of_main program.items m n is other).same

pub constant_in_range : {text : List ℕ} {n : ℕ} → ReturnsConstant text n → n ≤ 2147483647
constant_in_range {text} {n} returns = (of_main returns.program.items n n returns.constant returns.constant).in_range
