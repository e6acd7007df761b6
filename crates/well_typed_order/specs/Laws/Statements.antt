-- Statements that keep all rules are in order.
use Rattle.std.proofs.Common.{◌≡◌, refl, sym, ap, subst, ℕ, List, [], ◌∷◌, ◌++◌, map, Option, Some, None}
use Rattle.std.specs.Prelude.{IfSome}
use Rattle.std.specs.List.{All, AllByRecursion}
use Rattle.c_ast.specs.Tree.{StmtLayer, ItemLayer}
use Rattle.c_ast.specs.declared.token.Span.{Span}
use Rattle.c_ast.specs.declared.expr.Expr.{Expr}
use Rattle.c_ast.specs.declared.declaration.Decl.{Decl}
use Rattle.c_ast.specs.declared.statement.Stmt.{Stmt, roll-Stmt, map-Stmt}
use Rattle.c_ast.specs.declared.statement.Stmt.TheVariants as stmt
use Rattle.c_ast.specs.declared.statement.Item.{Item, roll-Item, map-Item}
use Rattle.c_ast.specs.declared.statement.Item.TheOpen.{Item-F, Stmt-F}
use Rattle.c_ast.specs.declared.statement.Item.TheFolds.{ind-Item, fold-roll-Item, fold-roll-Stmt}
use Rattle.c_type_base.specs.Laws.Opened.{given_typed}
use Rattle.c_type_base.specs.declared.expr.TExpr.{TExpr}
use Rattle.c_type_base.specs.declared.statement.TDecl.{TDecl}
use Rattle.c_type_base.specs.declared.statement.TItem.{TItem, out-TItem, roll-TItem, out-roll-TItem}
use Rattle.c_type_base.specs.declared.statement.TItem.TheOpen.{TItem-F, TStmt-F}
use Rattle.c_type_base.specs.declared.statement.TItem.TheVariants as titem
use Rattle.c_type_base.specs.declared.statement.TStmt.{TStmt, out-TStmt, roll-TStmt, out-roll-TStmt}
use Rattle.c_type_base.specs.declared.statement.TStmt.TheVariants as tstmt
use Rattle.c_type_expr.specs.declared.scopes.Meaning.{Meaning}
use Rattle.c_type_expr.specs.Environment.{Env, opened}
use Rattle.c_type_expr.specs.Expressions.{judged_value}
use Rattle.c_type_expr.specs.Outcomes.{Judged, sure, both, each, perhaps, on, option_map}
use Rattle.c_type_stmt.specs.Declarations.{local}
use Rattle.c_type_stmt.specs.Laws.SaidLaws.{item_judged, said-block}
use Rattle.c_type_stmt.specs.Statements.{StmtSaid, stated, scoped, effect, condition, block, return_row, for_row}
use Rattle.c_type_stmt.specs.Statements.{stmt_step, item_step, statement}
use Rattle.block_meaning.specs.ExpressionsInOrder.{Scope, within, ValueInOrder, ConditionInOrder}
use Rattle.block_meaning.specs.Statements as meaning
use Rattle.block_meaning.specs.Statements.{local_of, declared_by, declared}
use Rattle.block_meaning.specs.StatementsInOrder as order
use Rattle.block_meaning.specs.StatementsInOrder.{DeclarationInOrder, StatementInOrder, ItemInOrder, Items}
use Rattle.well_typed_order.specs.Standing.{Silent, There, Names, Stands, Adds, Part}
use Rattle.well_typed_order.specs.Laws.Declared.{Declares, names-more, declares-more, locals-declare, declares-first, declares-map}
use Rattle.well_typed_order.specs.Laws.Good.{silent-on, silent-both, some-is, none-is}
use Rattle.well_typed_order.specs.Laws.Parts.{Perhaps, no-names, any-names, part-sure, part-on}
use Rattle.well_typed_order.specs.Laws.Parts.{part-none, part-more, part-perhaps, part-left_out}
use Rattle.well_typed_order.specs.Laws.Scopes.{nowhere, HeldIn, Anything, wide, bounds-wide, bounds-held, stands-within, stands-wide}
use Rattle.well_typed_order.specs.Laws.Scopes.{contains-front}
use Rattle.well_typed_order.specs.Laws.StatementRows.{Any, locals-part, if-some, all-of, for_parts}
use Rattle.well_typed_order.specs.Laws.StatementRows.{expression-part, if-part, while-part, do-part, return-part, for-part, returned-silent}
use Rattle.well_typed_order.specs.Laws.StatementRows.{value-silent, effect-silent, condition-silent, perhaps-silent}

-- ---- scopes inside

-- what a statement with a scope of its own declares in it
abbrev pub opens_level : meaning.StmtLayer → List ℕ
opens_level (TStmt-F.Block is) = declared is
opens_level (TStmt-F.For ds first c next t) = map local_of ds
opens_level _ = []

abbrev pub opens : TStmt → List ℕ
opens t = opens_level (out-TStmt t)

-- the parts of a `for`
pub record ForIn (s : Scope) (ds : List TDecl) (first c next : Option TExpr) (t : TStmt) : Type 0 where
  pub declared_in : All (DeclarationInOrder s) ds
  pub first_in : IfSome first (ValueInOrder s)
  pub condition_in : IfSome c (ConditionInOrder s)
  pub next_in : IfSome next (ValueInOrder s)
  pub body_in : StatementInOrder s (out-TStmt t)

-- in its scope it is in order
abbrev pub InnerLevel : Scope → meaning.StmtLayer → Type 0
InnerLevel s (TStmt-F.Block is) = Items s is
InnerLevel s (TStmt-F.For ds first c next t) = ForIn s ds first c next t
InnerLevel s _ = ⊥

abbrev pub Inner : Scope → TStmt → Type 0
Inner s t = InnerLevel s (out-TStmt t)

inner_order : (s : Scope) (l : meaning.StmtLayer) → InnerLevel (within s (opens_level l)) l → StatementInOrder s l
inner_order s (TStmt-F.Block is) inner = order.block inner
inner_order s (TStmt-F.For ds first c next t) inner =
    order.for inner.declared_in inner.first_in inner.condition_in inner.next_in inner.body_in
inner_order s TStmt-F.Empty inner = absurd inner
inner_order s (TStmt-F.Expr e) inner = absurd inner
inner_order s (TStmt-F.If e t o) inner = absurd inner
inner_order s (TStmt-F.While e t) inner = absurd inner
inner_order s (TStmt-F.DoWhile t e) inner = absurd inner
inner_order s (TStmt-F.Return e span) inner = absurd inner
inner_order s (TStmt-F.Break span) inner = absurd inner
inner_order s (TStmt-F.Continue span) inner = absurd inner

-- ---- what holds of items and statements

abbrev pub ItemIn : Scope → TItem → Type 0
ItemIn s t = ItemInOrder s (out-TItem t)

abbrev pub StmtIn : Scope → TStmt → Type 0
StmtIn s t = StatementInOrder s (out-TStmt t)

pub record ItemFine (p : Judged TItem) : Type 0 where
  pub declares : Declares (λ t. declared_by (out-TItem t)) p
  -- it is known, where all locals of the function are in scope
  pub told : (s : Scope) → Part (wide s) Anything Any p
  pub fine : (s : Scope) → Part s (HeldIn s.locals) (ItemIn s) p

record StmtFine (x : StmtSaid) : Type 0 where
  silent : Silent x.judged
  told : (s : Scope) → Part (wide s) Anything Any x.judged
  fine : (s : Scope) → Part s (HeldIn s.locals) (StmtIn s) x.judged

-- ---- a scope

told_scoped : {A : Type 0} (s : Scope) (p : Judged A) → Part (wide s) Anything Any p → Part (wide s) Anything Any (scoped p)
told_scoped s p part = record {
  holds = λ env stands names adds kept.
      let one = part.holds (opened env) (stands-wide (wide s) env stands) (any-names (p (opened env)).names)
      (record { texts = adds.texts; locals = adds.locals }) kept in
      record { known = one.known; names = tt };
}

module _ (p : Judged TStmt) (declares : Declares opens p) (told : (s : Scope) → Part (wide s) Anything Any p)
    (fine : (s : Scope) → Part s (HeldIn s.locals) (Inner s) p) (s : Scope) where
  scoped_known : (env : Env) → Stands env s → Adds s env (scoped p env) → (scoped p env).faults ≡ [] → (o : Option TStmt) →
      (p (opened env)).known ≡ o → There o (StmtIn s)
  scoped_known env stands adds kept None is =
      let one = (told s).holds (opened env) (stands-wide s env stands) (any-names (p (opened env)).names)
      (record { texts = adds.texts; locals = adds.locals }) kept in
      none-is Any (p (opened env)).known is one.known
  scoped_known env stands adds kept (Some t) is =
      let ks = opens t in
      let held = names-more ks (ks ++ s.locals) (λ k has. contains-front ks s.locals k has) (p (opened env)).names
      (declares (opened env) t is) in
      let one = (fine (within s ks)).holds (opened env) (stands-within s ks env stands) held
      (record { texts = adds.texts; locals = adds.locals }) kept in
      inner_order s (out-TStmt t) (some-is (Inner (within s ks)) (p (opened env)).known t is one.known)

  scoped_fine : {G : Meaning → Type 0} → Part s G (StmtIn s) (scoped p)
  scoped_fine = record {
    holds = λ env stands names adds kept. record {
      known = scoped_known env stands adds kept (p (opened env)).known refl;
      names = tt;
    };
  }

-- ---- blocks

items_told : (s : Scope) (ps : List (Judged TItem)) → AllByRecursion ItemFine ps →
    Part (wide s) Anything (AllByRecursion Any) (each ps)
items_told s [] all = part-none
items_told s (p ∷ ps) all = part-more p ps (all.0.told s) (items_told s ps all.1)

items_part : (s : Scope) (ps : List (Judged TItem)) → AllByRecursion ItemFine ps →
    Part s (HeldIn s.locals) (AllByRecursion (ItemIn s)) (each ps)
items_part s [] all = part-none
items_part s (p ∷ ps) all = part-more p ps (all.0.fine s) (items_part s ps all.1)

items_of : (s : Scope) (ts : List TItem) → AllByRecursion (ItemIn s) ts → Items s ts
items_of s [] all = order.no_item
items_of s (t ∷ ts) all = order.item all.0 (items_of s ts all.1)

items_declare : (ps : List (Judged TItem)) → AllByRecursion ItemFine ps → Declares declared (each ps)
items_declare [] all env v is = tt
items_declare (p ∷ ps) all env v is = declares-more (λ t. declared_by (out-TItem t)) declared (λ x xs. refl) p ps all.0.declares
    (items_declare ps all.1) env v is

block_opens : (ts : List TItem) → opens (tstmt.Block ts) ≡ declared ts
unfolding given_typed
block_opens ts = ap opens_level (out-roll-TStmt (TStmt-F.Block ts))

block_inner : (s : Scope) (ts : List TItem) → Items s ts → Inner s (tstmt.Block ts)
unfolding given_typed
block_inner s ts items = subst (InnerLevel s) (sym (out-roll-TStmt (TStmt-F.Block ts))) items

pub block-declares : (ps : List (Judged TItem)) → AllByRecursion ItemFine ps → Declares opens (block ps)
block-declares ps all =
    declares-map declared opens (λ ts. tstmt.Block ts) block_opens (each ps) (items_declare ps all)

pub block-told : (s : Scope) (ps : List (Judged TItem)) → AllByRecursion ItemFine ps → Part (wide s) Anything Any (block ps)
block-told s ps all =
    part-on (each ps) (λ ts. sure (tstmt.Block ts)) (items_told s ps all) (λ ts known. part-sure (tstmt.Block ts) tt)

pub block-fine : (s : Scope) (ps : List (Judged TItem)) → AllByRecursion ItemFine ps → Part s (HeldIn s.locals) (Inner s) (block ps)
block-fine s ps all = part-on (each ps) (λ ts. sure (tstmt.Block ts)) (items_part s ps all)
    (λ ts known. part-sure (tstmt.Block ts) (block_inner s ts (items_of s ts known)))

-- a block of items in order
pub record BlockIn (s : Scope) (t : TStmt) : Type 0 where
  pub items : List TItem
  pub is : out-TStmt t ≡ TStmt-F.Block items
  pub in_order : Items s items

block_in : (s : Scope) (ts : List TItem) → Items s ts → BlockIn s (tstmt.Block ts)
unfolding given_typed
block_in s ts items = record { items = ts; is = out-roll-TStmt (TStmt-F.Block ts); in_order = items }

-- what holds of the body of a function
pub record BodyFine (p : Judged TStmt) : Type 0 where
  pub declares : Declares opens p
  pub told : (s : Scope) → Part (wide s) Anything Any p
  pub fine : (s : Scope) → Part s (HeldIn s.locals) (BlockIn s) p

pub block-body : (ps : List (Judged TItem)) → AllByRecursion ItemFine ps → BodyFine (block ps)
block-body ps all = record {
  declares = block-declares ps all;
  told = λ s. block-told s ps all;
  fine = λ s. part-on (each ps) (λ ts. sure (tstmt.Block ts)) (items_part s ps all)
      (λ ts known. part-sure (tstmt.Block ts) (block_in s ts (items_of s ts known)));
}

-- ---- statements

made : (s : Scope) (l : meaning.StmtLayer) → StatementInOrder s l → StmtIn s (roll-TStmt l)
made s l is = subst (StatementInOrder s) (sym (out-roll-TStmt l)) is

stated_fine : (p : Judged TStmt) → Silent p → ((s : Scope) → Part (wide s) Anything Any p) →
    ((s : Scope) → Part s (HeldIn s.locals) (StmtIn s) p) → StmtFine (stated p)
stated_fine p silent told fine = record { silent = silent; told = told; fine = fine }

block_stated : (ps : List (Judged TItem)) → AllByRecursion ItemFine ps → StmtFine (stmt_step (Stmt-F.Block ps))
block_stated ps all = record {
  silent = λ env. refl;
  told = λ s. told_scoped s (block ps) (block-told s ps all);
  fine = λ s. scoped_fine (block ps) (block-declares ps all) (λ s. block-told s ps all) (λ s. block-fine s ps all) s;
}

expression_stated : (e : Expr) → StmtFine (stmt_step (Stmt-F.Expr e))
unfolding given_typed
expression_stated e = stated_fine (on (effect e) (λ t. sure (tstmt.Expr t)))
    (silent-on (effect e) (λ t. sure (tstmt.Expr t)) (effect-silent e) (λ t env. refl))
    (λ s. expression-part Any (λ t known. tt) e)
    (λ s. expression-part (StmtIn s) (λ t known. made s (TStmt-F.Expr t) (order.expression known)) e)

else_order : (s : Scope) (c : TExpr) (t : TStmt) (o : Option TStmt) → ConditionInOrder s c → StmtIn s t → Perhaps (StmtIn s) o →
    StatementInOrder s (TStmt-F.If c t o)
else_order s c t None condition first other = order.if_alone condition first
else_order s c t (Some o) condition first other = order.if_else condition first other

if_silent : (e : Expr) (p : Judged TStmt) (o : Judged (Option TStmt)) → Silent p → Silent o →
    Silent (on (both (condition e) (both p o)) (λ (c, r). sure (tstmt.If c r.0 r.1)))
if_silent e p o first other = silent-on (both (condition e) (both p o)) (λ (c, r). sure (tstmt.If c r.0 r.1))
    (silent-both (condition e) (both p o) (condition-silent e) (silent-both p o first other)) (λ v env. refl)

if_fine : (e : Expr) (p : Judged TStmt) (o : Judged (Option TStmt)) → StmtFine (stated p) → Silent o →
    ((s : Scope) → Part (wide s) Anything (Perhaps Any) o) → ((s : Scope) → Part s (HeldIn s.locals) (Perhaps (StmtIn s)) o) →
    StmtFine (stated (on (both (condition e) (both p o)) (λ (c, r). sure (tstmt.If c r.0 r.1))))
unfolding given_typed
if_fine e p o first silent told fine = stated_fine _ (if_silent e p o first.silent silent)
    (λ s. if-part Any (λ c t o condition known other. tt) e p o (first.told s) (told s))
    (λ s. if-part (StmtIn s) (λ c t o condition known other. made s (TStmt-F.If c t o) (else_order s c t o condition known other)) e p o
    (first.fine s) (fine s))

while_fine : (e : Expr) (p : Judged TStmt) → StmtFine (stated p) →
    StmtFine (stated (on (both (condition e) p) (λ (c, t). sure (tstmt.While c t))))
unfolding given_typed
while_fine e p body = stated_fine (on (both (condition e) p) (λ (c, t). sure (tstmt.While c t)))
    (silent-on (both (condition e) p) (λ (c, t). sure (tstmt.While c t)) (silent-both (condition e) p (condition-silent e) body.silent)
    (λ v env. refl))
    (λ s. while-part Any (λ c t condition known. tt) e p (body.told s))
    (λ s. while-part (StmtIn s) (λ c t condition known. made s (TStmt-F.While c t) (order.while condition known)) e p (body.fine s))

do_fine : (p : Judged TStmt) (e : Expr) → StmtFine (stated p) →
    StmtFine (stated (on (both p (condition e)) (λ (t, c). sure (tstmt.DoWhile t c))))
unfolding given_typed
do_fine p e body = stated_fine (on (both p (condition e)) (λ (t, c). sure (tstmt.DoWhile t c)))
    (silent-on (both p (condition e)) (λ (t, c). sure (tstmt.DoWhile t c)) (silent-both p (condition e) body.silent (condition-silent e))
    (λ v env. refl))
    (λ s. do-part Any (λ t c known condition. tt) p e (body.told s))
    (λ s. do-part (StmtIn s) (λ t c known condition. made s (TStmt-F.DoWhile t c) (order.do_while known condition)) p e (body.fine s))

for_opens : (ts : List TDecl) (first c next : Option TExpr) (t : TStmt) → opens (tstmt.For ts first c next t) ≡ map local_of ts
unfolding given_typed
for_opens ts first c next t = ap opens_level (out-roll-TStmt (TStmt-F.For ts first c next t))

for_inner : (s : Scope) (ts : List TDecl) (first c next : Option TExpr) (t : TStmt) → AllByRecursion (DeclarationInOrder s) ts →
    Perhaps (ValueInOrder s) first → Perhaps (ConditionInOrder s) c → Perhaps (ValueInOrder s) next → StmtIn s t →
    Inner s (tstmt.For ts first c next t)
unfolding given_typed
for_inner s ts first c next t declarations one condition last body =
    let inside : ForIn s ts first c next t = record {
      declared_in = all-of (DeclarationInOrder s) ts declarations;
      first_in = if-some (ValueInOrder s) first one;
      condition_in = if-some (ConditionInOrder s) c condition;
      next_in = if-some (ValueInOrder s) next last;
      body_in = body;
    } in
    subst (InnerLevel s) (sym (out-roll-TStmt (TStmt-F.For ts first c next t))) inside

for_declare : (s : Scope) (ds : List Decl) (first c next : Option Expr) (p : Judged TStmt) → Silent p →
    Declares opens (for_parts ds first c next p)
for_declare s ds first c next p silent =
    let last = both (perhaps (option_map effect next)) p in
    let turn = both (perhaps (option_map condition c)) last in
    let begun = both (perhaps (option_map effect first)) turn in
    declares-map (λ v. map local_of v.0) opens (λ (ts, r). tstmt.For ts r.0 r.1.0 r.1.1.0 r.1.1.1)
    (λ v. for_opens v.0 v.1.0 v.1.1.0 v.1.1.1.0 v.1.1.1.1) (both (each (map local ds)) begun)
    (declares-first (map local_of) (each (map local ds)) begun (locals-declare s ds)
    (silent-both (perhaps (option_map effect first)) turn (perhaps-silent effect first effect-silent)
    (silent-both (perhaps (option_map condition c)) last (perhaps-silent condition c condition-silent)
    (silent-both (perhaps (option_map effect next)) p (perhaps-silent effect next effect-silent) silent))))

for_told : (ds : List Decl) (first c next : Option Expr) (p : Judged TStmt) → StmtFine (stated p) → (s : Scope) →
    Part (wide s) Anything Any (for_parts ds first c next p)
for_told ds first c next p body s =
    for-part Any Any (bounds-wide s) (λ ts first c next t a b d e f. tt) ds first c next p (body.told s)

for_fine : (ds : List Decl) (first c next : Option Expr) (p : Judged TStmt) → StmtFine (stated p) →
    StmtFine (stated (for_row ds first c next p))
for_fine ds first c next p body = record {
  silent = λ env. refl;
  told = λ s. told_scoped s (for_parts ds first c next p) (for_told ds first c next p body s);
  fine = λ s. scoped_fine (for_parts ds first c next p) (for_declare s ds first c next p body.silent) (for_told ds first c next p body)
      (λ s. for-part (Inner s) (StmtIn s) (bounds-held s) (for_inner s) ds first c next p (body.fine s)) s;
}

return_fine : (e : Option Expr) (span : Span) → StmtFine (stmt_step (Stmt-F.Return e span))
unfolding given_typed
return_fine e span = stated_fine (on (perhaps (option_map judged_value e)) (return_row span))
    (silent-on (perhaps (option_map judged_value e)) (return_row span) (perhaps-silent judged_value e value-silent)
    (λ k env. returned-silent span env.result k env))
    (λ s. return-part Any (λ span is. tt) (λ span e value is. tt) e span)
    (λ s. return-part (StmtIn s) (λ span is. made s (TStmt-F.Return None span) (order.return is))
    (λ span e value is. made s (TStmt-F.Return (Some e) span) (order.return_value value is)) e span)

sure_fine : (l : meaning.StmtLayer) → ((s : Scope) → StatementInOrder s l) → StmtFine (stated (sure (roll-TStmt l)))
sure_fine l is = stated_fine (sure (roll-TStmt l)) (λ env. refl) (λ s. part-sure (roll-TStmt l) tt)
    (λ s. part-sure (roll-TStmt l) (made s l (is s)))

-- ---- items

item_in : (s : Scope) (l : TItem-F TItem TStmt) → ItemInOrder s l → ItemIn s (roll-TItem l)
item_in s l is = subst (ItemInOrder s) (sym (out-roll-TItem l)) is

local_declares : (ts : List TDecl) → declared_by (out-TItem (titem.Local ts)) ≡ map local_of ts
unfolding given_typed
local_declares ts = ap declared_by (out-roll-TItem (TItem-F.Local ts))

declared_local : (ds : List Decl) → Declares (λ t. declared_by (out-TItem t)) (on (each (map local ds)) (λ ts. sure (titem.Local ts)))
declared_local ds = declares-map (map local_of) (λ t. declared_by (out-TItem t)) (λ ts. titem.Local ts) local_declares
    (each (map local ds)) (locals-declare nowhere ds)

local_item : (ds : List Decl) → ItemFine (item_step (Item-F.Local ds))
unfolding given_typed
local_item ds = record {
  declares = declared_local ds;
  told = λ s. part-on (each (map local ds)) (λ ts. sure (titem.Local ts)) (locals-part (bounds-wide s) ds)
      (λ ts known. part-sure (titem.Local ts) tt);
  fine = λ s. part-on (each (map local ds)) (λ ts. sure (titem.Local ts)) (locals-part (bounds-held s) ds)
      (λ ts known. part-sure (titem.Local ts)
      (item_in s (TItem-F.Local ts) (order.declarations (all-of (DeclarationInOrder s) ts known))));
}

no_held : (ks : List ℕ) (p : Judged TStmt) → Silent p → (env : Env) → Names (HeldIn ks) (on p (λ t. sure (titem.Stmt t)) env).names
no_held ks p silent env =
    no-names (HeldIn ks) (on p (λ t. sure (titem.Stmt t)) env).names
    (silent-on p (λ t. sure (titem.Stmt t)) silent (λ t env. refl) env)

statement_item : (x : StmtSaid) → StmtFine x → ItemFine (item_step (Item-F.Stmt x))
unfolding given_typed
statement_item x good = record {
  declares = λ env v is. no_held (declared_by (out-TItem v)) x.judged good.silent env;
  told = λ s. part-on x.judged (λ t. sure (titem.Stmt t)) (good.told s) (λ t known. part-sure (titem.Stmt t) tt);
  fine = λ s. part-on x.judged (λ t. sure (titem.Stmt t)) (good.fine s)
      (λ t known. part-sure (titem.Stmt t) (item_in s (TItem-F.Stmt t) (order.statement known)));
}

-- ---- all of them

abbrev ItemWith : Type 0
ItemWith = (i : Item) × ItemFine (item_judged i)

abbrev StmtWith : Type 0
StmtWith = (s : Stmt) × StmtFine (statement s)

items_with : Item-F ItemWith StmtWith → ItemLayer
items_with = map-Item ItemWith StmtWith Item Stmt (λ e. e.0) (λ e. e.0)

stmts_with : Stmt-F ItemWith StmtWith → StmtLayer
stmts_with = map-Stmt ItemWith StmtWith Item Stmt (λ e. e.0) (λ e. e.0)

item_is : (d : ItemLayer) → ItemFine (item_step (map-Item Item Stmt (Judged TItem) StmtSaid item_judged statement d)) →
    ItemFine (item_judged (roll-Item d))
item_is d fine = subst ItemFine (sym (fold-roll-Item (Judged TItem) StmtSaid item_step stmt_step d)) fine

stmt_is : (d : StmtLayer) → StmtFine (stmt_step (map-Stmt Item Stmt (Judged TItem) StmtSaid item_judged statement d)) →
    StmtFine (statement (roll-Stmt d))
stmt_is d fine = subst StmtFine (sym (fold-roll-Stmt (Judged TItem) StmtSaid item_step stmt_step d)) fine

item_fine : (y : Item-F ItemWith StmtWith) → ItemFine (item_judged (roll-Item (items_with y)))
unfolding items_with
item_fine (Item-F.Local ds) = item_is (Item-F.Local ds) (local_item ds)
item_fine (Item-F.Stmt s) = item_is (Item-F.Stmt s.0) (statement_item (statement s.0) s.1)

with_items : (is : List ItemWith) → AllByRecursion ItemFine (map item_judged (map (λ i. i.0) is))
with_items [] = tt
with_items (i ∷ is) = (i.1, with_items is)

as_stated : (x : StmtSaid) → StmtFine x → StmtFine (stated x.judged)
as_stated x fine = record { silent = fine.silent; told = fine.told; fine = fine.fine }

empty_stated : StmtFine (stated (sure tstmt.Empty))
unfolding given_typed
empty_stated = sure_fine TStmt-F.Empty (λ s. order.empty)

break_stated : (span : Span) → StmtFine (stated (sure (tstmt.Break span)))
unfolding given_typed
break_stated span = sure_fine (TStmt-F.Break span) (λ s. order.break)

continue_stated : (span : Span) → StmtFine (stated (sure (tstmt.Continue span)))
unfolding given_typed
continue_stated span = sure_fine (TStmt-F.Continue span) (λ s. order.continue)

stmt_fine : (y : Stmt-F ItemWith StmtWith) → StmtFine (statement (roll-Stmt (stmts_with y)))
unfolding stmts_with
stmt_fine (Stmt-F.Block is) = stmt_is (Stmt-F.Block (map (λ i. i.0) is)) (block_stated (map item_judged (map (λ i. i.0) is))
    (with_items is))
stmt_fine (Stmt-F.Expr e) = stmt_is (Stmt-F.Expr e) (expression_stated e)
stmt_fine Stmt-F.Empty = stmt_is Stmt-F.Empty empty_stated
stmt_fine (Stmt-F.If e s None) = stmt_is (Stmt-F.If e s.0 None)
    (if_fine e (statement s.0).judged (perhaps None) (as_stated (statement s.0) s.1) (λ env. refl) (λ s. part-left_out)
    (λ s. part-left_out))
stmt_fine (Stmt-F.If e s (Some o)) = stmt_is (Stmt-F.If e s.0 (Some o.0))
    (if_fine e (statement s.0).judged (perhaps (Some (statement o.0).judged)) (as_stated (statement s.0) s.1) (λ env. o.1.silent env)
    (λ s. part-perhaps (statement o.0).judged (o.1.told s)) (λ s. part-perhaps (statement o.0).judged (o.1.fine s)))
stmt_fine (Stmt-F.While e s) = stmt_is (Stmt-F.While e s.0) (while_fine e (statement s.0).judged (as_stated (statement s.0) s.1))
stmt_fine (Stmt-F.DoWhile s e) = stmt_is (Stmt-F.DoWhile s.0 e) (do_fine (statement s.0).judged e (as_stated (statement s.0) s.1))
stmt_fine (Stmt-F.For ds first c next s) = stmt_is (Stmt-F.For ds first c next s.0)
    (for_fine ds first c next (statement s.0).judged (as_stated (statement s.0) s.1))
stmt_fine (Stmt-F.Return e span) = stmt_is (Stmt-F.Return e span) (return_fine e span)
stmt_fine (Stmt-F.Break span) = stmt_is (Stmt-F.Break span) (break_stated span)
stmt_fine (Stmt-F.Continue span) = stmt_is (Stmt-F.Continue span) (continue_stated span)

items_fine : (x : ItemLayer) (y : Item-F ItemWith StmtWith) → items_with y ≡ x → ItemFine (item_judged (roll-Item x))
items_fine x y is = subst (λ x. ItemFine (item_judged (roll-Item x))) is (item_fine y)

stmts_fine : (x : StmtLayer) (y : Stmt-F ItemWith StmtWith) → stmts_with y ≡ x → StmtFine (statement (roll-Stmt x))
stmts_fine x y is = subst (λ x. StmtFine (statement (roll-Stmt x))) is (stmt_fine y)

-- an item that breaks no rule is in order
pub item-fine : (i : Item) → ItemFine (item_judged i)
unfolding items_with stmts_with
item-fine = ind-Item (λ i. ItemFine (item_judged i)) (λ s. StmtFine (statement s)) items_fine stmts_fine

all_items : (is : List Item) → AllByRecursion ItemFine (map item_judged is)
all_items [] = tt
all_items (i ∷ is) = (item-fine i, all_items is)

-- a block that breaks no rule is in order, as a body
pub body-fine : (is : List Item) → BodyFine (statement (stmt.Block is)).body
body-fine is = subst (λ (x : StmtSaid). BodyFine x.body) (sym (said-block is)) (block-body (map item_judged is) (all_items is))
