-- Trees of equal levels are equal.
use Rattle.std.proofs.Common.{◌≡◌, ap, sym, ◌∙◌}
use Rattle.c_ast.specs.declared.expr.CType.{CType, out-CType, roll-CType, roll-out-CType}
use Rattle.c_ast.specs.declared.expr.Node.{Node, out-Node, roll-Node, roll-out-Node}
use Rattle.c_ast.specs.declared.declaration.Init.{Init, out-Init, roll-Init, roll-out-Init}
use Rattle.c_ast.specs.declared.statement.Item.{Item, out-Item, roll-Item, roll-out-Item}
use Rattle.c_ast.specs.declared.statement.Stmt.{Stmt, out-Stmt, roll-Stmt, roll-out-Stmt}

pub type-by_level : (s t : CType) → out-CType s ≡ out-CType t → s ≡ t
type-by_level s t same = sym (roll-out-CType s) ∙ ap roll-CType same ∙ roll-out-CType t

pub node-by_level : (s t : Node) → out-Node s ≡ out-Node t → s ≡ t
node-by_level s t same = sym (roll-out-Node s) ∙ ap roll-Node same ∙ roll-out-Node t

pub init-by_level : (s t : Init) → out-Init s ≡ out-Init t → s ≡ t
init-by_level s t same = sym (roll-out-Init s) ∙ ap roll-Init same ∙ roll-out-Init t

pub item-by_level : (s t : Item) → out-Item s ≡ out-Item t → s ≡ t
item-by_level s t same = sym (roll-out-Item s) ∙ ap roll-Item same ∙ roll-out-Item t

pub stmt-by_level : (s t : Stmt) → out-Stmt s ≡ out-Stmt t → s ≡ t
stmt-by_level s t same = sym (roll-out-Stmt s) ∙ ap roll-Stmt same ∙ roll-out-Stmt t
