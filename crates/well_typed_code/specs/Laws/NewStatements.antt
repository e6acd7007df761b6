-- Statements whose locals are new, one law a statement (this project's own).
use Rattle.std.specs.Prelude.{◌≡◌, ℕ, ◌+◌, ◌≤◌, List, ◌++◌, map, Option, Some, None}
use Rattle.std.proofs.Common.{arith, sym, subst}
use Rattle.std.proofs.lemmas.Option.{same_Some}
use Rattle.c_ast.specs.declared.token.Span.{Span}
use Rattle.c_ast.specs.declared.expr.Expr.{Expr}
use Rattle.c_ast.specs.declared.declaration.Decl.{Decl}
use Rattle.c_type_base.specs.Laws.Opened.{given_typed}
use Rattle.c_type_base.specs.declared.known.Known.{Known}
use Rattle.c_type_base.specs.declared.expr.TExpr.{TExpr}
use Rattle.c_type_base.specs.Known.{converted}
use Rattle.c_type_base.specs.declared.ty.Ty.{Ty}
use Rattle.c_type_base.specs.declared.statement.TDecl.{TDecl}
use Rattle.c_type_base.specs.declared.statement.TItem.{TItem}
use Rattle.c_type_base.specs.declared.statement.TItem.TheOpen.{TStmt-F}
use Rattle.c_type_base.specs.declared.statement.TStmt.{TStmt, roll-TStmt, out-roll-TStmt}
use Rattle.c_type_base.specs.declared.statement.TStmt.TheVariants as tstmt
use Rattle.c_type_expr.specs.Environment.{Env, opened}
use Rattle.c_type_expr.specs.Outcomes.{Judged, sure, both, each, perhaps, on, option_map}
use Rattle.c_type_stmt.specs.Declarations.{local}
use Rattle.c_type_stmt.specs.Statements.{scoped, effect, condition, returned, return_row, for_row}
use Rattle.c_type_expr.specs.Expressions.{judged_value}
use Rattle.block_meaning.specs.Statements as meaning
use Rattle.block_meaning.specs.Statements.{local_of, declared_by, declared}
use Rattle.code_relation.specs.Fresh.{AreNew, Fresh, FreshItem, FreshItems}
use Rattle.code_relation.specs.Fresh as fresh
use Rattle.well_typed_code.specs.Laws.Rising.{Rising-ordered}
use Rattle.well_typed_code.specs.Laws.Counted.{Ranged, Counted, Counted-any, Counted-both}
use Rattle.well_typed_code.specs.Laws.Counted.{Counted-on, Counted-made, Perhaps}
use Rattle.well_typed_code.specs.Laws.NewScopes.{Avoids, NewStmt, NewItems, StmtIn, DeclsIn, avoids-wider, avoids-behind, new-beside}
use Rattle.well_typed_code.specs.Laws.NewScopes.{only-own, locals-counted}

-- ---- statements

-- of a tree that is made of a level
pub made : {from to : ℕ} (l : meaning.StmtLayer) → NewStmt from to l → StmtIn from to (roll-TStmt l)
made {from} {to} l is = subst (NewStmt from to) (sym (out-roll-TStmt l)) is

-- a statement without a scope and without a part
simple : {from to : ℕ} {l : meaning.StmtLayer} → from ≤ to → ((scope : List ℕ) → Fresh scope l) → NewStmt from to l
simple ordered is = record { ordered = ordered; fresh = λ scope avoids. is scope }

-- an expression
pub expression_counted : (e : Expr) → Counted StmtIn (on (effect e) (λ t. sure (tstmt.Expr t)))
unfolding given_typed
expression_counted e = Counted-made (effect e) (λ t. tstmt.Expr t) (Counted-any (effect e))
    (λ t from middle to less ordered. made (TStmt-F.Expr t) (simple (omega (arith, less, ordered)) (λ scope. fresh.expression)))

if_new : (c : TExpr) (s : TStmt) (o : Option TStmt) (from start middle to end : ℕ) → from ≤ start → StmtIn start middle s →
    Perhaps StmtIn middle to o → to ≤ end → NewStmt from end (TStmt-F.If c s o)
if_new c s None from start middle to end less first other more = record {
  ordered = omega (arith, less, first.ordered, other, more);
  fresh = λ scope avoids. fresh.if_alone (first.fresh scope (avoids-wider less (omega (arith, other, more)) avoids));
}
if_new c s (Some o) from start middle to end less first other more = record {
  ordered = omega (arith, less, first.ordered, other.ordered, more);
  fresh = λ scope avoids. fresh.if_else
      (first.fresh scope (avoids-wider less (omega (arith, other.ordered, more)) avoids))
      (other.fresh scope (avoids-wider (omega (arith, less, first.ordered)) more avoids));
}

-- an `if`
pub if_counted : (e : Expr) (p : Judged TStmt) (o : Judged (Option TStmt)) → Counted StmtIn p → Counted (Perhaps StmtIn) o →
    Counted StmtIn (on (both (condition e) (both p o)) (λ (c, r). sure (tstmt.If c r.0 r.1)))
unfolding given_typed
if_counted e p o first other =
    Counted-made (both (condition e) (both p o)) (λ (c, r). tstmt.If c r.0 r.1)
    (Counted-both (condition e) (both p o) (Counted-any (condition e)) (Counted-both p o first other))
    (λ v from end to less parts. made (TStmt-F.If v.0 v.1.0 v.1.1)
    (if_new v.0 v.1.0 v.1.1 from parts.middle parts.second.middle end to parts.first parts.second.first parts.second.second less))

-- loops with a condition
pub while_counted : (e : Expr) (p : Judged TStmt) → Counted StmtIn p →
    Counted StmtIn (on (both (condition e) p) (λ (c, t). sure (tstmt.While c t)))
unfolding given_typed
while_counted e p body =
    Counted-made (both (condition e) p) (λ (c, t). tstmt.While c t) (Counted-both (condition e) p (Counted-any (condition e)) body)
    (λ v from end to less parts. made (TStmt-F.While v.0 v.1) (record {
      ordered = omega (arith, parts.first, parts.second.ordered, less);
      fresh = λ scope avoids. fresh.while (parts.second.fresh scope (avoids-wider parts.first less avoids));
    }))

pub do_counted : (p : Judged TStmt) (e : Expr) → Counted StmtIn p →
    Counted StmtIn (on (both p (condition e)) (λ (t, c). sure (tstmt.DoWhile t c)))
unfolding given_typed
do_counted p e body =
    Counted-made (both p (condition e)) (λ (t, c). tstmt.DoWhile t c) (Counted-both p (condition e) body (Counted-any (condition e)))
    (λ v from end to less parts. made (TStmt-F.DoWhile v.0 v.1) (record {
      ordered = omega (arith, parts.first.ordered, parts.second, less);
      fresh = λ scope avoids. fresh.do_while
          (parts.first.fresh scope (avoids-wider (omega arith) (omega (arith, parts.second, less)) avoids));
    }))

return_new : (from to : ℕ) (span : Span) (t : Option Ty) (k : Option Known) (env : Env) (w : TStmt) → from ≤ to →
    (returned span t k env).known ≡ Some w → StmtIn from to w
unfolding given_typed
return_new from to span None k env w ordered is = absurd cc
return_new from to span (Some t) None env w ordered is =
    subst (StmtIn from to) (same_Some (tstmt.Return None span) w is)
    (made (TStmt-F.Return None span) (simple ordered (λ scope. fresh.return)))
return_new from to span (Some t) (Some k) env w ordered is =
    subst (StmtIn from to) (same_Some (tstmt.Return (Some (converted t k).tree) span) w is)
    (made (TStmt-F.Return (Some (converted t k).tree) span) (simple ordered (λ scope. fresh.return)))

-- a `return`
pub return_counted : (e : Option Expr) (span : Span) → Counted StmtIn (on (perhaps (option_map judged_value e)) (return_row span))
return_counted e span = Counted-on (perhaps (option_map judged_value e)) (return_row span)
    (Counted-any (perhaps (option_map judged_value e))) (λ k env w is from middle to less ordered.
    return_new from to span env.result k env w (omega (arith, less, ordered)) is)

-- a statement without parts
pub sure_counted : (l : meaning.StmtLayer) → ((scope : List ℕ) → Fresh scope l) → Counted StmtIn (sure (roll-TStmt l))
sure_counted l is = record {
  counts = λ env v known. subst (StmtIn env.locals (env.locals + 0)) (same_Some (roll-TStmt l) v known) (made l (simple (omega arith) is));
}

-- ---- scopes

-- a scope has the counts of what stands in it
pub scoped-counted : {A : Type 0} {P : Ranged A} (p : Judged A) → Counted P p → Counted P (scoped p)
scoped-counted p inside = record { counts = λ env v is. inside.counts (opened env) v is }

-- a block
pub block_new : (from to : ℕ) (is : List TItem) → NewItems from to is → NewStmt from to (TStmt-F.Block is)
block_new from to is items = record {
  ordered = Rising-ordered from to (declared is) items.declares;
  fresh = λ scope avoids. fresh.block (new-beside items.declares avoids) (items.fresh (declared is ++ scope) (only-own avoids));
}

for_new : (ds : List TDecl) (first c next : Option TExpr) (s : TStmt) (from middle start end to : ℕ) → DeclsIn from middle ds →
    middle ≤ start → StmtIn start end s → end ≤ to → NewStmt from to (TStmt-F.For ds first c next s)
for_new ds first c next s from middle start end to rising later body more = record {
  ordered = omega (arith, Rising-ordered from middle (map local_of ds) rising, later, body.ordered, more);
  fresh = λ scope avoids.
      let own : Avoids from end scope = avoids-wider (omega arith) more avoids in
      fresh.for
      (new-beside rising (avoids-wider (omega arith) (omega (arith, later, body.ordered, more)) avoids))
      (body.fresh (map local_of ds ++ scope) (avoids-behind (map local_of ds) rising later own));
}

-- a `for`
pub for_counted : (ds : List Decl) (first c next : Option Expr) (p : Judged TStmt) → Counted StmtIn p →
    Counted StmtIn (for_row ds first c next p)
unfolding given_typed
for_counted ds first c next p body =
    let last = both (perhaps (option_map effect next)) p in
    let turn = both (perhaps (option_map condition c)) last in
    let begun = both (perhaps (option_map effect first)) turn in
    scoped-counted (on (both (each (map local ds)) begun) (λ (ts, r). sure (tstmt.For ts r.0 r.1.0 r.1.1.0 r.1.1.1)))
    (Counted-made (both (each (map local ds)) begun) (λ (ts, r). tstmt.For ts r.0 r.1.0 r.1.1.0 r.1.1.1)
    (Counted-both (each (map local ds)) begun (locals-counted ds)
    (Counted-both (perhaps (option_map effect first)) turn (Counted-any (perhaps (option_map effect first)))
    (Counted-both (perhaps (option_map condition c)) last (Counted-any (perhaps (option_map condition c)))
    (Counted-both (perhaps (option_map effect next)) p (Counted-any (perhaps (option_map effect next))) body))))
    (λ v from end to less parts. made (TStmt-F.For v.0 v.1.0 v.1.1.0 v.1.1.1.0 v.1.1.1.1)
    (for_new v.0 v.1.0 v.1.1.0 v.1.1.1.0 v.1.1.1.1 from parts.middle parts.second.second.second.middle end to parts.first
    (omega (arith, parts.second.first, parts.second.second.first, parts.second.second.second.first))
    parts.second.second.second.second less)))
