-- All that unfolds when a definition over types runs at a given type. An `unfolding given_types` line makes such an example a `refl`.
unfoldable pub given_types : Unit {0}
unfolding
    Rattle.c_type_base.specs.declared.ty.Ty.TheBlock.shape-the_row-Ty-0 Rattle.c_type_base.specs.declared.ty.Ty.TheBlock.hidden-the_row-Ty-0
    Rattle.c_type_base.specs.declared.ty.Ty.TheBlock.shown-the_row-Ty-0
    Rattle.c_type_base.specs.declared.ty.Ty.TheViews.out-Ty Rattle.c_type_base.specs.declared.ty.Ty.TheViews.roll-Ty
    denote.Hole.Carrier.out denote.Hole.Carrier.roll denote.Hole.Carrier.shown denote.Hole.Carrier.hidden
given_types = tt

-- The same for definitions over typed trees.
unfoldable pub given_typed : Unit {0}
unfolding
    Rattle.c_type_base.specs.declared.expr.TNode.TheBlock.shape-the_row-TNode-0
    Rattle.c_type_base.specs.declared.expr.TNode.TheBlock.hidden-the_row-TNode-0
    Rattle.c_type_base.specs.declared.expr.TNode.TheBlock.shown-the_row-TNode-0
    Rattle.c_type_base.specs.declared.expr.TNode.TheBlock.shape-the_row-TExpr-1
    Rattle.c_type_base.specs.declared.expr.TNode.TheBlock.hidden-the_row-TExpr-1
    Rattle.c_type_base.specs.declared.expr.TNode.TheBlock.shown-the_row-TExpr-1
    Rattle.c_type_base.specs.declared.expr.TNode.TheViews.out-TNode Rattle.c_type_base.specs.declared.expr.TNode.TheViews.roll-TNode
    Rattle.c_type_base.specs.declared.statement.TInit.TheBlock.shape-the_row-TInit-0
    Rattle.c_type_base.specs.declared.statement.TInit.TheBlock.hidden-the_row-TInit-0
    Rattle.c_type_base.specs.declared.statement.TInit.TheBlock.shown-the_row-TInit-0
    Rattle.c_type_base.specs.declared.statement.TInit.TheViews.out-TInit
    Rattle.c_type_base.specs.declared.statement.TInit.TheViews.roll-TInit
    Rattle.c_type_base.specs.declared.statement.TItem.TheBlock.shape-the_row-TItem-0
    Rattle.c_type_base.specs.declared.statement.TItem.TheBlock.hidden-the_row-TItem-0
    Rattle.c_type_base.specs.declared.statement.TItem.TheBlock.shown-the_row-TItem-0
    Rattle.c_type_base.specs.declared.statement.TItem.TheBlock.shape-the_row-TStmt-1
    Rattle.c_type_base.specs.declared.statement.TItem.TheBlock.hidden-the_row-TStmt-1
    Rattle.c_type_base.specs.declared.statement.TItem.TheBlock.shown-the_row-TStmt-1
    Rattle.c_type_base.specs.declared.statement.TItem.TheViews.out-TItem
    Rattle.c_type_base.specs.declared.statement.TItem.TheViews.roll-TItem
    Rattle.c_type_base.specs.declared.statement.TItem.TheViews.out-TStmt
    Rattle.c_type_base.specs.declared.statement.TItem.TheViews.roll-TStmt
    denote.Hole.Carrier.out denote.Hole.Carrier.roll denote.Hole.Carrier.shown denote.Hole.Carrier.hidden
given_typed = tt
