-- All that unfolds when a definition over trees runs at a given tree. An `unfolding given_trees` line makes such an
-- example a `refl`.
unfoldable pub given_trees : Unit {0}
unfolding
    Rattle.c_ast.specs.declared.expr.CType.TheBlock.shape-the_row-CType-0
    Rattle.c_ast.specs.declared.expr.CType.TheBlock.hidden-the_row-CType-0
    Rattle.c_ast.specs.declared.expr.CType.TheBlock.shown-the_row-CType-0
    Rattle.c_ast.specs.declared.expr.CType.TheBlock.shape-the_row-Node-1
    Rattle.c_ast.specs.declared.expr.CType.TheBlock.hidden-the_row-Node-1
    Rattle.c_ast.specs.declared.expr.CType.TheBlock.shown-the_row-Node-1
    Rattle.c_ast.specs.declared.expr.CType.TheBlock.shape-the_row-Expr-2
    Rattle.c_ast.specs.declared.expr.CType.TheBlock.hidden-the_row-Expr-2
    Rattle.c_ast.specs.declared.expr.CType.TheBlock.shown-the_row-Expr-2 Rattle.c_ast.specs.declared.expr.CType.TheViews.out-CType
    Rattle.c_ast.specs.declared.expr.CType.TheViews.roll-CType Rattle.c_ast.specs.declared.expr.CType.TheViews.out-Node
    Rattle.c_ast.specs.declared.expr.CType.TheViews.roll-Node Rattle.c_ast.specs.declared.declaration.Init.TheBlock.shape-the_row-Init-0
    Rattle.c_ast.specs.declared.declaration.Init.TheBlock.hidden-the_row-Init-0
    Rattle.c_ast.specs.declared.declaration.Init.TheBlock.shown-the_row-Init-0
    Rattle.c_ast.specs.declared.declaration.Init.TheViews.out-Init Rattle.c_ast.specs.declared.declaration.Init.TheViews.roll-Init
    Rattle.c_ast.specs.declared.statement.Item.TheBlock.shape-the_row-Item-0
    Rattle.c_ast.specs.declared.statement.Item.TheBlock.hidden-the_row-Item-0
    Rattle.c_ast.specs.declared.statement.Item.TheBlock.shown-the_row-Item-0
    Rattle.c_ast.specs.declared.statement.Item.TheBlock.shape-the_row-Stmt-1
    Rattle.c_ast.specs.declared.statement.Item.TheBlock.hidden-the_row-Stmt-1
    Rattle.c_ast.specs.declared.statement.Item.TheBlock.shown-the_row-Stmt-1 Rattle.c_ast.specs.declared.statement.Item.TheViews.out-Item
    Rattle.c_ast.specs.declared.statement.Item.TheViews.roll-Item Rattle.c_ast.specs.declared.statement.Item.TheViews.out-Stmt
    Rattle.c_ast.specs.declared.statement.Item.TheViews.roll-Stmt denote.Hole.Carrier.out denote.Hole.Carrier.roll
    denote.Hole.Carrier.shown denote.Hole.Carrier.hidden
given_trees = tt
