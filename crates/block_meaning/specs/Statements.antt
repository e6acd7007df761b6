-- What a statement does (ISO C11 6.8). One case a statement, given how its parts run.
use Rattle.std.specs.Prelude.{ℕ, zero, suc, Bool, true, List, [], ◌∷◌, ◌++◌, map, Option, Some, None}
use Rattle.c_type_base.specs.declared.expr.TExpr.{TExpr}
use Rattle.c_type_base.specs.declared.statement.TDecl.{TDecl}
use Rattle.c_type_base.specs.declared.statement.TItem.{TItem, out-TItem}
use Rattle.c_type_base.specs.declared.statement.TItem.TheOpen.{TItem-F, TStmt-F}
use Rattle.c_type_base.specs.declared.statement.TStmt.{TStmt, out-TStmt}
use Rattle.block_meaning.specs.Expressions.{ExprParts, Calls, value_of, parts_at}
use Rattle.block_meaning.specs.Operators.{is_true}
use Rattle.block_meaning.specs.Locals.{scoped, declarations, only_run}
use Rattle.block_meaning.specs.Running.{Run, gives, stuck, and_then, unit_then, choice, Context}
use Rattle.block_meaning.specs.declared.value.Value.{Value}
use Rattle.block_meaning.specs.declared.value.Value.TheVariants.{NoValue}

-- one level of a statement, and of a part of a block
abbrev pub StmtLayer : Type 0
StmtLayer = TStmt-F TItem TStmt

abbrev pub ItemLayer : Type 0
ItemLayer = TItem-F TItem TStmt

-- how a statement is left
pub data Flow : Type 0 where
  -- to what follows it
  Next : Flow
  Broke : Flow
  Continued : Flow
  Returned : Value → Flow

-- how the parts of a statement run
pub record StmtParts : Type 0 where
  pub expr : Context → ExprParts
  pub run : Context → TStmt → Run Flow
  -- the most turns of a loop, and the most levels of an initialiser
  pub bound : ℕ

-- ---- one statement after another

abbrev pub on_next : Flow → Run Flow → Run Flow
on_next Next m = m
on_next flow m = gives flow

abbrev pub in_order : List (Run Flow) → Run Flow
in_order [] = gives Next
in_order (m ∷ ms) = and_then m (λ flow. on_next flow (in_order ms))

abbrev pub local_of : TDecl → ℕ
local_of d = d.local

abbrev pub declared_by : ItemLayer → List ℕ
declared_by (TItem-F.Local ds) = map local_of ds
declared_by (TItem-F.Stmt s) = []

-- the locals that the parts of a block declare, but for those of inner scopes
abbrev pub declared : List TItem → List ℕ
declared [] = []
declared (i ∷ is) = declared_by (out-TItem i) ++ declared is

abbrev pub item_node : StmtParts → Context → ItemLayer → Run Flow
item_node parts here (TItem-F.Local ds) = and_then (declarations here (parts.expr here) parts.bound ds) (λ _. gives Next)
item_node parts here (TItem-F.Stmt s) = parts.run here s

-- the parts of a block, in its scope
abbrev pub items : StmtParts → Context → List TItem → Run Flow
items parts here is = in_order (map (λ i. item_node parts here (out-TItem i)) is)

-- ---- conditions and loops

abbrev pub condition : StmtParts → Context → TExpr → Run Bool
condition parts here e = and_then (value_of (parts.expr here) e) (λ v. is_true here e.span v)

abbrev pub condition_or_true : StmtParts → Context → Option TExpr → Run Bool
condition_or_true parts here None = gives true
condition_or_true parts here (Some e) = condition parts here e

abbrev pub effect : StmtParts → Context → Option TExpr → Run (Unit {0})
effect parts here None = gives tt
effect parts here (Some e) = only_run (parts.expr here) e

-- how a turn of a loop ends
pub data Turn : Type 0 where
  Again : Turn
  Leaves : Flow → Turn

abbrev pub after_body : Flow → Turn
after_body Next = Again
after_body Continued = Again
after_body Broke = Leaves Next
after_body (Returned v) = Leaves (Returned v)

abbrev pub around : Turn → Run Flow → Run Flow
around Again m = m
around (Leaves flow) m = gives flow

-- turn after turn, so many at most
abbrev pub loop : ℕ → Run Turn → Run Flow
loop zero turn = stuck
loop (suc more) turn = and_then turn (λ t. around t (loop more turn))

abbrev pub if_again : Turn → Run Turn → Run Turn
if_again Again m = m
if_again (Leaves flow) m = gives (Leaves flow)

-- a turn spends a unit of work at its start
abbrev pub while_turn : StmtParts → Context → TExpr → TStmt → Run Turn
while_turn parts here e s = unit_then (and_then (condition parts here e) (λ holds.
    choice holds (and_then (parts.run here s) (λ flow. gives (after_body flow))) (gives (Leaves Next))))

abbrev pub do_turn : StmtParts → Context → TStmt → TExpr → Run Turn
do_turn parts here s e = unit_then (and_then (parts.run here s) (λ flow.
    if_again (after_body flow) (and_then (condition parts here e) (λ holds. choice holds (gives Again) (gives (Leaves Next))))))

-- what stands in the parentheses of a `for`
pub record Heading : Type 0 where
  pub declared : List TDecl
  pub first : Option TExpr
  pub condition : Option TExpr
  pub next : Option TExpr

abbrev pub for_turn : StmtParts → Context → Heading → TStmt → Run Turn
for_turn parts here h s = unit_then (and_then (condition_or_true parts here h.condition) (λ holds.
    choice holds
    (and_then (parts.run here s) (λ flow. if_again (after_body flow) (and_then (effect parts here h.next) (λ _. gives Again))))
    (gives (Leaves Next))))

-- a `for` is a scope of its own
abbrev pub for_node : StmtParts → Context → Heading → TStmt → Run Flow
for_node parts here h s = scoped here (map local_of h.declared) (λ inner.
    and_then (declarations inner (parts.expr inner) parts.bound h.declared) (λ _.
    and_then (effect parts inner h.first) (λ _.
    loop parts.bound (for_turn parts inner h s))))

-- ---- all of them

abbrev pub if_node : StmtParts → Context → TExpr → TStmt → Option TStmt → Run Flow
if_node parts here e s None = and_then (condition parts here e) (λ holds. choice holds (parts.run here s) (gives Next))
if_node parts here e s (Some other) = and_then (condition parts here e) (λ holds. choice holds (parts.run here s) (parts.run here other))

abbrev pub returned : StmtParts → Context → Option TExpr → Run Flow
returned parts here None = gives (Returned NoValue)
returned parts here (Some e) = and_then (value_of (parts.expr here) e) (λ v. gives (Returned v))

abbrev pub stmt_node : StmtParts → Context → StmtLayer → Run Flow
stmt_node parts here (TStmt-F.Block is) = scoped here (declared is) (λ inner. items parts inner is)
stmt_node parts here (TStmt-F.Expr e) = and_then (only_run (parts.expr here) e) (λ _. gives Next)
stmt_node parts here TStmt-F.Empty = gives Next
stmt_node parts here (TStmt-F.If e s other) = if_node parts here e s other
stmt_node parts here (TStmt-F.While e s) = loop parts.bound (while_turn parts here e s)
stmt_node parts here (TStmt-F.DoWhile s e) = loop parts.bound (do_turn parts here s e)
stmt_node parts here (TStmt-F.For ds first e next s) =
    for_node parts here (record { declared = ds; first = first; condition = e; next = next }) s
stmt_node parts here (TStmt-F.Return e span) = returned parts here e
stmt_node parts here (TStmt-F.Break span) = gives Broke
stmt_node parts here (TStmt-F.Continue span) = gives Continued

-- a statement, with so many levels below it and turns of its loops at most
abbrev pub statements_at : Calls → ℕ → StmtParts
statements_at calls zero = record { expr = λ here. parts_at calls here 0; run = λ here s. stuck; bound = 0 }
statements_at calls (suc depth) = record {
  expr = λ here. parts_at calls here (suc depth);
  run = λ here s. stmt_node (statements_at calls depth) here (out-TStmt s);
  bound = suc depth;
}
