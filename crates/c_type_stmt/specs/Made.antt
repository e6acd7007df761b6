-- What a statement is in the typed program, by its parts: known where all of them are.
use Rattle.std.specs.Prelude.{List, map, Option}
use Rattle.c_ast.specs.declared.expr.Expr.{Expr}
use Rattle.c_ast.specs.declared.declaration.Decl.{Decl}
use Rattle.c_type_base.specs.declared.expr.TExpr.{TExpr}
use Rattle.c_type_base.specs.declared.statement.TDecl.{TDecl}
use Rattle.c_type_base.specs.declared.statement.TItem.{TItem}
use Rattle.c_type_base.specs.declared.statement.TStmt.{TStmt}
use Rattle.c_type_base.specs.declared.statement.TStmt.TheVariants as tstmt
use Rattle.c_type_expr.specs.Outcomes.{Judged, sure, pair, both, each, perhaps, on, option_map}
use Rattle.c_type_stmt.specs.Declarations.{local}
use Rattle.c_type_stmt.specs.Statements.{effect, condition}

abbrev pub block_made : Option (List TItem) → Option TStmt
block_made ts = option_map (λ ts. tstmt.Block ts) ts

abbrev pub if_made : Option TExpr → Option TStmt → Option (Option TStmt) → Option TStmt
if_made c s o = option_map (λ (c, r). tstmt.If c r.0 r.1) (pair c (pair s o))

abbrev pub while_made : Option TExpr → Option TStmt → Option TStmt
while_made c s = option_map (λ (c, t). tstmt.While c t) (pair c s)

abbrev pub do_made : Option TStmt → Option TExpr → Option TStmt
do_made s c = option_map (λ (t, c). tstmt.DoWhile t c) (pair s c)

abbrev pub for_made :
    Option (List TDecl) → Option (Option TExpr) → Option (Option TExpr) → Option (Option TExpr) → Option TStmt → Option TStmt
for_made ts first c next s =
    option_map (λ (ts, r). tstmt.For ts r.0 r.1.0 r.1.1.0 r.1.1.1) (pair ts (pair first (pair c (pair next s))))

-- an expression that is a statement
abbrev pub expression_row : Expr → Judged TStmt
expression_row e = on (effect e) (λ t. sure (tstmt.Expr t))

-- the parts of a `for`, inside its scope
abbrev pub for_inside : List Decl → Option Expr → Option Expr → Option Expr → Judged TStmt → Judged TStmt
for_inside ds first c next s =
    let turn = both (perhaps (option_map condition c)) (both (perhaps (option_map effect next)) s) in
    on (both (each (map local ds)) (both (perhaps (option_map effect first)) turn))
    (λ (ts, r). sure (tstmt.For ts r.0 r.1.0 r.1.1.0 r.1.1.1))
