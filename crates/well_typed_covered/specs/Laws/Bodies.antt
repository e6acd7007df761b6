-- All statements: each expression in what is known of them that is plain is covered, if their constants fit (this project's own).
use Rattle.std.specs.Prelude.{◌≡◌, Bool, true, ◌&&◌, List, [], ◌∷◌, map, Some, None, refl}
use Rattle.std.specs.List.{AllByRecursion}
use Rattle.std.proofs.Common.{sym, subst, ◌∙◌}
use Rattle.c_ast.specs.Tree.{StmtLayer, ItemLayer}
use Rattle.c_ast.specs.declared.declaration.Decl.{Decl}
use Rattle.c_ast.specs.declared.statement.Item.{Item, roll-Item, map-Item}
use Rattle.c_ast.specs.declared.statement.Item.TheFolds.{ind-Stmt, fold-roll-Item, fold-roll-Stmt}
use Rattle.c_ast.specs.declared.statement.Item.TheOpen.{Item-F, Stmt-F}
use Rattle.c_ast.specs.declared.statement.Stmt.{Stmt, roll-Stmt, map-Stmt}
use Rattle.c_type_base.specs.declared.statement.TItem.{TItem}
use Rattle.c_type_base.specs.declared.statement.TItem.TheVariants as titem
use Rattle.c_type_base.specs.declared.statement.TStmt.TheVariants as tstmt
use Rattle.c_type_expr.specs.Outcomes.{Judged, sure, each, perhaps}
use Rattle.c_type_stmt.specs.Declarations.{local}
use Rattle.c_type_stmt.specs.Laws.SaidLaws.{item_judged}
use Rattle.c_type_stmt.specs.Statements.{StmtSaid, block, stmt_step, item_step, statement}
use Rattle.well_typed_covered.specs.Always.{Always}
use Rattle.well_typed_covered.specs.Constants.{all_fit, item_fits, stmt_fits, constants_fit, constants_fit_item, constants_fit_stmt}
use Rattle.well_typed_covered.specs.Constants.{constants_fit_decls}
use Rattle.well_typed_covered.specs.Laws.Always.{always-sure, always-on, always-without, always-perhaps}
use Rattle.well_typed_covered.specs.Laws.Statements.{StmtCovered, ItemCovered, always-scoped, expression-always, block-always, if-always}
use Rattle.well_typed_covered.specs.Laws.Statements.{while-always, do-always, for-always, for-parts, return-always, locals-always}
use Rattle.well_typed_covered.specs.Laws.Statements.{empty-covered, break-covered, continue-covered, local-covered, item-covered}
use Rattle.well_typed_covered.specs.Laws.Trees.{first-of, second-of}

-- a statement as it stands, and as a body
pub record StmtAlways (x : StmtSaid) : Type 0 where
  pub judged : Always StmtCovered x.judged
  pub body : Always StmtCovered x.body

-- one that is the same as a body
stated_always : (x : StmtSaid) → x.body ≡ x.judged → Always StmtCovered x.judged → StmtAlways x
stated_always x same judged = record { judged = judged; body = subst (Always StmtCovered) (sym same) judged }

local_always : (ds : List Decl) → constants_fit_decls ds ≡ true → Always ItemCovered (item_step (Item-F.Local ds))
local_always ds fits = always-on (each (map local ds)) (λ ts. sure (titem.Local ts)) (locals-always ds fits)
    (λ ts known. always-sure (titem.Local ts) (local-covered ts known))

statement_always : (x : StmtSaid) → StmtAlways x → Always ItemCovered (item_step (Item-F.Stmt x))
statement_always x of_x = always-on x.judged (λ t. sure (titem.Stmt t)) of_x.judged
    (λ t known. always-sure (titem.Stmt t) (item-covered t known))

-- ---- all of them, where their constants fit

abbrev ItemFine : Item → Type 0
ItemFine i = constants_fit_item i ≡ true → Always ItemCovered (item_judged i)

abbrev StmtFine : Stmt → Type 0
StmtFine s = constants_fit_stmt s ≡ true → StmtAlways (statement s)

abbrev WithItem : Type 0
WithItem = (i : Item) × ItemFine i

abbrev WithStmt : Type 0
WithStmt = (s : Stmt) × StmtFine s

items_with : Item-F WithItem WithStmt → ItemLayer
items_with = map-Item WithItem WithStmt Item Stmt (λ e. e.0) (λ e. e.0)

stmts_with : Stmt-F WithItem WithStmt → StmtLayer
stmts_with = map-Stmt WithItem WithStmt Item Stmt (λ e. e.0) (λ e. e.0)

item_is : (d : ItemLayer) →
    (item_fits (map-Item Item Stmt Bool Bool constants_fit_item constants_fit_stmt d) ≡ true →
    Always ItemCovered (item_step (map-Item Item Stmt (Judged TItem) StmtSaid item_judged statement d))) → ItemFine (roll-Item d)
item_is d always fits =
    subst (Always ItemCovered) (sym (fold-roll-Item (Judged TItem) StmtSaid item_step stmt_step d))
    (always (sym (fold-roll-Item Bool Bool item_fits stmt_fits d) ∙ fits))

stmt_is : (d : StmtLayer) →
    (stmt_fits (map-Stmt Item Stmt Bool Bool constants_fit_item constants_fit_stmt d) ≡ true →
    StmtAlways (stmt_step (map-Stmt Item Stmt (Judged TItem) StmtSaid item_judged statement d))) → StmtFine (roll-Stmt d)
stmt_is d always fits =
    subst StmtAlways (sym (fold-roll-Stmt (Judged TItem) StmtSaid item_step stmt_step d))
    (always (sym (fold-roll-Stmt Bool Bool item_fits stmt_fits d) ∙ fits))

item_fine : (y : Item-F WithItem WithStmt) → ItemFine (roll-Item (items_with y))
unfolding items_with
item_fine (Item-F.Local ds) = item_is (Item-F.Local ds) (local_always ds)
item_fine (Item-F.Stmt s) = item_is (Item-F.Stmt s.0) (λ fits. statement_always (statement s.0) (s.1 fits))

abbrev items_of : List WithItem → List Item
items_of is = map (λ i. i.0) is

items_fine_all : (is : List WithItem) → all_fit (map constants_fit_item (items_of is)) ≡ true →
    AllByRecursion (Always ItemCovered) (map item_judged (items_of is))
items_fine_all [] fits = tt
items_fine_all (i ∷ is) fits = (
  i.1 (first-of (constants_fit_item i.0) (all_fit (map constants_fit_item (items_of is))) fits),
  items_fine_all is (second-of (constants_fit_item i.0) (all_fit (map constants_fit_item (items_of is))) fits),
)

block_fine : (ps : List (Judged TItem)) → AllByRecursion (Always ItemCovered) ps → StmtAlways (stmt_step (Stmt-F.Block ps))
block_fine ps all = record { judged = always-scoped (block ps) (block-always ps all); body = block-always ps all }

stmt_fine : (y : Stmt-F WithItem WithStmt) → StmtFine (roll-Stmt (stmts_with y))
unfolding stmts_with
stmt_fine (Stmt-F.Block is) = stmt_is (Stmt-F.Block (items_of is))
    (λ fits. block_fine (map item_judged (items_of is)) (items_fine_all is fits))
stmt_fine (Stmt-F.Expr e) = stmt_is (Stmt-F.Expr e) (λ fits. stated_always _ refl (expression-always e fits))
stmt_fine Stmt-F.Empty = stmt_is Stmt-F.Empty (λ fits. stated_always _ refl (always-sure tstmt.Empty empty-covered))
stmt_fine (Stmt-F.If e s None) = stmt_is (Stmt-F.If e s.0 None) (λ fits.
    let parts = second-of (constants_fit e) (constants_fit_stmt s.0 && true) fits in
    stated_always _ refl (if-always e (statement s.0).judged (perhaps None)
    (first-of (constants_fit e) (constants_fit_stmt s.0 && true) fits) (s.1 (first-of (constants_fit_stmt s.0) true parts)).judged
    always-without))
stmt_fine (Stmt-F.If e s (Some o)) = stmt_is (Stmt-F.If e s.0 (Some o.0)) (λ fits.
    let both : Bool = constants_fit_stmt s.0 && constants_fit_stmt o.0 in
    let parts = second-of (constants_fit e) both fits in
    stated_always _ refl (if-always e (statement s.0).judged (perhaps (Some (statement o.0).judged))
    (first-of (constants_fit e) both fits) (s.1 (first-of (constants_fit_stmt s.0) (constants_fit_stmt o.0) parts)).judged
    (always-perhaps (statement o.0).judged (o.1 (second-of (constants_fit_stmt s.0) (constants_fit_stmt o.0) parts)).judged)))
stmt_fine (Stmt-F.While e s) = stmt_is (Stmt-F.While e s.0) (λ fits.
    stated_always _ refl (while-always e (statement s.0).judged (first-of (constants_fit e) (constants_fit_stmt s.0) fits)
    (s.1 (second-of (constants_fit e) (constants_fit_stmt s.0) fits)).judged))
stmt_fine (Stmt-F.DoWhile s e) = stmt_is (Stmt-F.DoWhile s.0 e) (λ fits.
    stated_always _ refl (do-always (statement s.0).judged e (s.1 (first-of (constants_fit_stmt s.0) (constants_fit e) fits)).judged
    (second-of (constants_fit_stmt s.0) (constants_fit e) fits)))
stmt_fine (Stmt-F.For ds first c next s) = stmt_is (Stmt-F.For ds first c next s.0) (λ fits.
    let parts = for-parts ds first c next (constants_fit_stmt s.0) fits in
    stated_always _ refl (for-always ds first c next (statement s.0).judged (constants_fit_stmt s.0) parts (s.1 parts.body).judged))
stmt_fine (Stmt-F.Return e span) = stmt_is (Stmt-F.Return e span) (λ fits. stated_always _ refl (return-always e span fits))
stmt_fine (Stmt-F.Break span) = stmt_is (Stmt-F.Break span)
    (λ fits. stated_always _ refl (always-sure (tstmt.Break span) (break-covered span)))
stmt_fine (Stmt-F.Continue span) = stmt_is (Stmt-F.Continue span)
    (λ fits. stated_always _ refl (always-sure (tstmt.Continue span) (continue-covered span)))

items_fine : (x : ItemLayer) (y : Item-F WithItem WithStmt) → items_with y ≡ x → ItemFine (roll-Item x)
items_fine x y is = subst (λ x. ItemFine (roll-Item x)) is (item_fine y)

stmts_fine : (x : StmtLayer) (y : Stmt-F WithItem WithStmt) → stmts_with y ≡ x → StmtFine (roll-Stmt x)
stmts_fine x y is = subst (λ x. StmtFine (roll-Stmt x)) is (stmt_fine y)

-- What is known of a statement, wherever it stands: each expression in it that is plain is covered, if its constants fit.
pub statement-covered : (s : Stmt) → constants_fit_stmt s ≡ true → StmtAlways (statement s)
unfolding items_with stmts_with
statement-covered = ind-Stmt ItemFine StmtFine items_fine stmts_fine
