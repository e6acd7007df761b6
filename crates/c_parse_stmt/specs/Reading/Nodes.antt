-- Statements made of their parts.
use Rattle.std.specs.Prelude.{ℕ, suc, max, Bool, true, false, [], ◌∷◌, ◌++◌, Option, Some, None}
use Rattle.c_ast.specs.declared.token.Span.{Span}
use Rattle.c_ast.specs.declared.expr.Expr.{Expr}
use Rattle.c_ast.specs.declared.statement.Stmt.{Stmt}
use Rattle.c_ast.specs.declared.statement.Stmt.TheVariants as stmt
use Rattle.c_ast.specs.declared.statement.Item.TheVariants as item
use Rattle.c_parse_expr.specs.declared.measured.Measured.{Measured}
use Rattle.c_parse_decl.specs.declared.objects.objects_read.ObjectsRead.{ObjectsRead}
use Rattle.c_parse_stmt.specs.declared.block_read.BlockRead.{BlockRead}
use Rattle.c_parse_stmt.specs.declared.statement_read.StatementRead.{StatementRead}
use Rattle.c_parse_stmt.specs.declared.statement_read.ItemRead.{ItemRead}
use Rattle.c_parse_stmt.specs.declared.statement_read.ItemsRead.{ItemsRead}
use Rattle.c_parse_stmt.specs.declared.clause_read.MaybeRead.{MaybeRead}
use Rattle.c_parse_stmt.specs.declared.clause_read.FirstRead.{FirstRead}
use Rattle.c_parse_stmt.specs.declared.clause_read.ForHead.{ForHead}

-- from one byte to another
abbrev pub reach : ℕ → ℕ → Span
reach start end = record { start = start; end = end }

abbrev pub statement_of : Stmt → ℕ → Bool → StatementRead
statement_of s h c = record { tree = s; height = h; closed = c }

-- an expression, and the token that closes it
abbrev pub written_of : Measured × Span → MaybeRead
written_of c = record { tree = Some c.0.tree; height = suc c.0.height; end = c.1.end }

abbrev pub left_out_of : Span → MaybeRead
left_out_of place = record { tree = None; height = 0; end = place.end }

-- declarations in a `for`
abbrev pub first_local : ObjectsRead → FirstRead
first_local o = record { decls = o.decls; tree = None; height = suc o.height }

abbrev pub first_expression : MaybeRead → FirstRead
first_expression m = record { decls = []; tree = m.tree; height = m.height }

-- behind the "(" of a `for`
abbrev pub head_of : Span × (FirstRead × (MaybeRead × MaybeRead)) → ForHead
head_of c = record { first = c.1.0; condition = c.1.1.0; step = c.1.1.1 }

abbrev pub simple_tree : Option Expr → Stmt
simple_tree None = stmt.Empty
simple_tree (Some e) = stmt.Expr e

-- an expression, or none, as a statement
abbrev pub simple_of : MaybeRead → StatementRead
simple_of m = statement_of (simple_tree m.tree) m.height true

-- `return` from a byte on
abbrev pub return_from : ℕ → MaybeRead → StatementRead
return_from start m = statement_of (stmt.Return m.tree (reach start m.end)) m.height true

abbrev pub return_of : Span × MaybeRead → StatementRead
return_of c = return_from c.0.start c.1

abbrev pub break_from : ℕ → Span → StatementRead
break_from start end = statement_of (stmt.Break (reach start end.end)) 0 true

abbrev pub break_of : Span × Span → StatementRead
break_of c = break_from c.0.start c.1

abbrev pub continue_from : ℕ → Span → StatementRead
continue_from start end = statement_of (stmt.Continue (reach start end.end)) 0 true

abbrev pub continue_of : Span × Span → StatementRead
continue_of c = continue_from c.0.start c.1

-- `while`, of its condition and its body
abbrev pub while_made : Measured × StatementRead → StatementRead
while_made c = statement_of (stmt.While c.0.tree c.1.tree) (suc (max c.0.height c.1.height)) c.1.closed

abbrev pub while_of : Span × (Measured × StatementRead) → StatementRead
while_of c = while_made c.1

-- `do`, of its body and its condition
abbrev pub do_made : StatementRead × Measured → StatementRead
do_made c = statement_of (stmt.DoWhile c.0.tree c.1.tree) (suc (max c.0.height c.1.height)) true

abbrev pub do_of : Span × (StatementRead × Measured) → StatementRead
do_of c = do_made c.1

-- `for`, of what stands in its parentheses and its body
abbrev pub for_made : ForHead × StatementRead → StatementRead
for_made c = statement_of (stmt.For c.0.first.decls c.0.first.tree c.0.condition.tree c.0.step.tree c.1.tree)
    (max c.0.first.height (max c.0.condition.height (max c.0.step.height (suc c.1.height)))) c.1.closed

abbrev pub for_of : Span × (ForHead × StatementRead) → StatementRead
for_of c = for_made c.1

-- the condition and the statement of an `if`, and perhaps the one behind `else`
abbrev pub Branches : Type 0
Branches = (Measured × StatementRead) × Option StatementRead

abbrev pub if_then_of : Measured × StatementRead → StatementRead
if_then_of c = statement_of (stmt.If c.0.tree c.1.tree None) (suc (max c.0.height c.1.height)) false

abbrev pub if_else_of : Measured × StatementRead → StatementRead → StatementRead
if_else_of c o = statement_of (stmt.If c.0.tree c.1.tree (Some o.tree)) (suc (max c.0.height (max c.1.height o.height))) o.closed

abbrev pub branches_of : Measured × StatementRead → Option StatementRead → StatementRead
branches_of c None = if_then_of c
branches_of c (Some o) = if_else_of c o

abbrev pub if_of : Branches → StatementRead
if_of b = branches_of b.0 b.1

abbrev pub local_item : ObjectsRead → ItemRead
local_item o = record { item = item.Local o.decls; height = o.height }

abbrev pub statement_item : StatementRead → ItemRead
statement_item s = record { item = item.Stmt s.tree; height = s.height }

abbrev pub empty_items : ItemsRead
empty_items = record { items = []; height = 0 }

abbrev pub no_items : Span → ItemsRead
no_items place = empty_items

-- one more part of a block
abbrev pub with_item : ItemsRead → ItemRead → ItemsRead
with_item a i = record { items = a.items ++ i.item ∷ []; height = max a.height (suc i.height) }

abbrev pub block_of : ItemsRead × Span → BlockRead
block_of c = record { tree = stmt.Block c.0.items; height = c.0.height; end = c.1.end }

abbrev pub compound_of : BlockRead → StatementRead
compound_of b = statement_of b.tree b.height true
