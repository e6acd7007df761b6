-- Trees without their spans: two trees are equal but for spans where they are equal without them (this project's own).
use Rattle.std.specs.Prelude.{map, Option, Some, None}
use Rattle.c_ast.specs.declared.declaration.Init.{Init}
use Rattle.c_ast.specs.declared.declaration.Init.TheVariants as init
use Rattle.c_ast.specs.declared.declaration.Init.TheOpen.{Init-F}
use Rattle.c_ast.specs.declared.declaration.Init.TheFolds.{fold-Init}
use Rattle.c_ast.specs.declared.declaration.Decl.{Decl}
use Rattle.c_ast.specs.declared.declaration.StructDecl.{StructDecl}
use Rattle.c_ast.specs.declared.statement.Stmt.{Stmt}
use Rattle.c_ast.specs.declared.statement.Stmt.TheVariants as stmt
use Rattle.c_ast.specs.declared.statement.Item.{Item}
use Rattle.c_ast.specs.declared.statement.Item.TheVariants as item
use Rattle.c_ast.specs.declared.statement.Item.TheOpen.{Item-F, Stmt-F}
use Rattle.c_ast.specs.declared.statement.Item.TheFolds.{fold-Item, fold-Stmt}
use Rattle.c_ast.specs.declared.program.Program.{Program}
use Rattle.c_ast.specs.declared.program.Function.{Function}
use Rattle.c_ast.specs.declared.program.External.{External}
use Rattle.c_ast.specs.declared.program.External.TheVariants as external
use Rattle.c_ast.specs.declared.token.Span.{Span}
use Rattle.c_ast.specs.declared.expr.CType.{CType, roll-CType}
use Rattle.c_ast.specs.declared.expr.Expr.{Expr}
use Rattle.c_ast.specs.declared.expr.Node.{Node, roll-Node}
use Rattle.c_ast.specs.declared.expr.CType.TheOpen.{Expr-F}
use Rattle.c_ast.specs.declared.expr.CType.TheFolds.{fold-CType, fold-Node, fold-Expr}

abbrev pub option_map : {A B : Type 0} → (A → B) → Option A → Option B
option_map f None = None
option_map f (Some x) = Some (f x)

-- the span that stands for each
abbrev pub no_span : Span
no_span = record { start = 0; end = 0 }

abbrev pub expr_cleared : Expr-F CType Node Expr → Expr
expr_cleared e = record { span = no_span; node = e.node }

-- an expression without spans
abbrev pub bare : Expr → Expr
bare = fold-Expr CType Node Expr roll-CType roll-Node expr_cleared

abbrev pub bare_node : Node → Node
bare_node = fold-Node CType Node Expr roll-CType roll-Node expr_cleared

-- a type without the spans of its lengths
abbrev pub bare_type : CType → CType
bare_type = fold-CType CType Node Expr roll-CType roll-Node expr_cleared

abbrev pub bare_init_step : Init-F Init → Init
bare_init_step (Init-F.One e) = init.One (bare e)
bare_init_step (Init-F.List is span) = init.List is no_span

abbrev pub bare_init : Init → Init
bare_init = fold-Init Init bare_init_step

abbrev pub bare_decl : Decl → Decl
bare_decl d = record { name = d.name; ty = bare_type d.ty; init = option_map bare_init d.init; span = no_span }

abbrev pub bare_struct : StructDecl → StructDecl
bare_struct d = record { name = d.name; members = option_map (map bare_decl) d.members; span = no_span }

abbrev pub bare_item_step : Item-F Item Stmt → Item
bare_item_step (Item-F.Local ds) = item.Local (map bare_decl ds)
bare_item_step (Item-F.Stmt s) = item.Stmt s

abbrev pub bare_stmt_step : Stmt-F Item Stmt → Stmt
bare_stmt_step (Stmt-F.Block is) = stmt.Block is
bare_stmt_step (Stmt-F.Expr e) = stmt.Expr (bare e)
bare_stmt_step Stmt-F.Empty = stmt.Empty
bare_stmt_step (Stmt-F.If e s o) = stmt.If (bare e) s o
bare_stmt_step (Stmt-F.While e s) = stmt.While (bare e) s
bare_stmt_step (Stmt-F.DoWhile s e) = stmt.DoWhile s (bare e)
bare_stmt_step (Stmt-F.For ds e c d s) = stmt.For (map bare_decl ds) (option_map bare e) (option_map bare c) (option_map bare d) s
bare_stmt_step (Stmt-F.Return e span) = stmt.Return (option_map bare e) no_span
bare_stmt_step (Stmt-F.Break span) = stmt.Break no_span
bare_stmt_step (Stmt-F.Continue span) = stmt.Continue no_span

abbrev pub bare_stmt : Stmt → Stmt
bare_stmt = fold-Stmt Item Stmt bare_item_step bare_stmt_step

abbrev pub bare_item : Item → Item
bare_item = fold-Item Item Stmt bare_item_step bare_stmt_step

abbrev pub bare_function : Function → Function
bare_function f = record {
  storage = f.storage;
  name = f.name;
  result = bare_type f.result;
  params = map bare_decl f.params;
  body = option_map bare_stmt f.body;
  span = no_span;
}

abbrev pub bare_external : External → External
bare_external external.Include = external.Include
bare_external (external.Struct d) = external.Struct (bare_struct d)
bare_external (external.Objects c ds) = external.Objects c (map bare_decl ds)
bare_external (external.Function f) = external.Function (bare_function f)

-- a program without spans
abbrev pub bare_program : Program → Program
bare_program p = record { items = map bare_external p.items }
