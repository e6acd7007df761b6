-- Statements are walked part by part: one law a statement.
use Rattle.std.proofs.Common.{◌≡◌, refl, sym, ap, ℕ, ◌≤◌, List, [], ◌∷◌, map, take, length, Option, Some, None, subst}
use Rattle.std.proofs.lemmas.List.{take_all}
use Rattle.c_ast.specs.declared.token.Span.{Span}
use Rattle.c_ast.specs.declared.declaration.Decl.{Decl}
use Rattle.c_ast.specs.declared.expr.Expr.{Expr}
use Rattle.c_ast.specs.declared.statement.Item.{Item}
use Rattle.c_ast.specs.declared.statement.Item.TheVariants as item
use Rattle.c_ast.specs.declared.statement.Stmt.{Stmt}
use Rattle.c_ast.specs.declared.statement.Stmt.TheVariants as stmt
use Rattle.c_type_base.specs.declared.expr.TExpr.{TExpr}
use Rattle.c_type_base.specs.declared.known.Known.{Known}
use Rattle.c_type_base.specs.declared.statement.TDecl.{TDecl}
use Rattle.c_type_base.specs.declared.statement.TItem.{TItem}
use Rattle.c_type_base.specs.declared.statement.TItem.TheVariants as titem
use Rattle.c_type_base.specs.declared.statement.TStmt.{TStmt}
use Rattle.c_type_base.specs.declared.statement.TStmt.TheVariants as tstmt
use Rattle.c_type_expr.specs.declared.walk.Walk.{Walk}
use Rattle.c_type_expr.specs.Outcomes.{option_map, Judged, sure, pair, present, each, perhaps, on, ruled}
use Rattle.c_type_stmt.specs.Declarations.{local}
use Rattle.c_type_expr.specs.Expressions.{judged_value}
use Rattle.c_type_expr.specs.Faults.{rule, broken}
use Rattle.c_type_stmt.specs.Laws.SaidLaws.{item_judged, said-block, said-expression, said-empty, said-if, said-if_else, said-while}
use Rattle.c_type_stmt.specs.Laws.SaidLaws.{said-do, said-for, said-return, said-break, said-continue, judged-local, judged-statement}
use Rattle.c_type_stmt.specs.Made.{block_made, if_made, while_made, do_made, for_made, expression_row, for_inside}
use Rattle.c_type_expr.specs.Scoping.{opened_names, closed_names}
use Rattle.c_type_stmt.specs.Statements.{StmtSaid, effect, condition, return_row, block, statement}
use Rattle.c_type_base.specs.Types.{is_scalar}
use Rattle.c_type_expr.specs.Walked.{blamed, Walked}
use Rattle.c_type_expr.specs.Laws.EachLaws.{as_known}
use Rattle.c_type_expr.specs.Laws.NodeLaws.{walked_as, on_none, on_some}
use Rattle.c_type_stmt.specs.Laws.PartLaws.{walked_made, walked_scoped}
use Rattle.c_type_expr.specs.Laws.WalkedLaws.{walked_sure, walked_both, walked_on, walked_on_none, walked_ruled}
use Rattle.c_type_expr.specs.Laws.WalkedLaws as walked

-- ---- parts that may be left out

pub walked_left_out : {A : Type 0} (w : Walk) → Walked {A = Option A} (perhaps None) w w (Some None)
walked_left_out = walked.walked_left_out

pub walked_perhaps : {A : Type 0} (p : Judged A) (w w' : Walk) (k : Option A) → Walked p w w' k → Walked (perhaps (Some p)) w w' (present k)
walked_perhaps = walked.walked_perhaps

-- ---- expressions

pub effect_unknown : (e : Expr) (w w' : Walk) (k : Option Known) → k ≡ None → Walked (judged_value e) w w' k → Walked (effect e) w w' None
effect_unknown e w w' k is first = on_none (judged_value e) (λ k. sure k.tree) w w' k is first

pub effect_walked : (e : Expr) (w w' : Walk) (k : Option Known) (v : Known) → k ≡ Some v → Walked (judged_value e) w w' k →
    Walked (effect e) w w' (Some v.tree)
effect_walked e w w' k v is first =
    on_some (judged_value e) (λ k. sure k.tree) w w' w' k v (Some v.tree) is first (walked_sure w' v.tree)

pub condition_unknown : (e : Expr) (w w' : Walk) (k : Option Known) → k ≡ None → Walked (judged_value e) w w' k →
    Walked (condition e) w w' None
condition_unknown e w w' k is first =
    on_none (judged_value e) (λ k. ruled k.tree.span (rule 12 (is_scalar k.tree.ty) ∷ []) k.tree) w w' k is first

pub condition_walked : (e : Expr) (w w1 w2 : Walk) (k : Option Known) (v : Known) → k ≡ Some v → Walked (judged_value e) w w1 k →
    w2 ≡ blamed w1 (broken v.tree.span (rule 12 (is_scalar v.tree.ty) ∷ [])) → Walked (condition e) w w2 (Some v.tree)
condition_walked e w w1 w2 k v is first asked =
    on_some (judged_value e) (λ k. ruled k.tree.span (rule 12 (is_scalar k.tree.ty) ∷ []) k.tree) w w1 w2 k v (Some v.tree) is first
    (walked_ruled v.tree.span (rule 12 (is_scalar v.tree.ty) ∷ []) v.tree w1 w2 asked)

pub expression_unknown : (e : Expr) (w w' : Walk) (t : Option TExpr) → t ≡ None → Walked (effect e) w w' t →
    Walked (expression_row e) w w' None
expression_unknown e w w' t is first = on_none (effect e) (λ t. sure (tstmt.Expr t)) w w' t is first

pub expression_walked : (e : Expr) (w w' : Walk) (t : Option TExpr) (v : TExpr) → t ≡ Some v → Walked (effect e) w w' t →
    Walked (expression_row e) w w' (Some (tstmt.Expr v))
expression_walked e w w' t v is first =
    on_some (effect e) (λ t. sure (tstmt.Expr t)) w w' w' t v (Some (tstmt.Expr v)) is first (walked_sure w' (tstmt.Expr v))

-- ---- return

abbrev returns : Option Expr → Span → Judged TStmt
returns e span = on (perhaps (option_map judged_value e)) (return_row span)

pub return_none : (span : Span) (w w' : Walk) (t : Option TStmt) → Walked (return_row span None) w w' t → Walked (returns None span) w w' t
return_none span w w' t next = walked_on (perhaps None) (return_row span) w w w' None t (walked_left_out w) next

pub return_unknown : (span : Span) (e : Expr) (w w' : Walk) (k : Option Known) → k ≡ None → Walked (judged_value e) w w' k →
    Walked (returns (Some e) span) w w' None
return_unknown span e w w' k is first =
    walked_on_none (perhaps (Some (judged_value e))) (return_row span) w w'
    (walked_perhaps (judged_value e) w w' None (as_known (judged_value e) w w' k None is first))

pub return_some : (span : Span) (e : Expr) (w w1 w2 : Walk) (k : Option Known) (v : Known) (t : Option TStmt) → k ≡ Some v →
    Walked (judged_value e) w w1 k → Walked (return_row span (Some v)) w1 w2 t → Walked (returns (Some e) span) w w2 t
return_some span e w w1 w2 k v t is first next =
    walked_on (perhaps (Some (judged_value e))) (return_row span) w w1 w2 (Some v) t
    (walked_perhaps (judged_value e) w w1 (Some v) (as_known (judged_value e) w w1 k (Some v) is first)) next

-- ---- statements

abbrev judged_of : StmtSaid → Judged TStmt
judged_of s = s.judged

abbrev body_of : StmtSaid → Judged TStmt
body_of s = s.body

abbrev pub stated_by : Stmt → Judged TStmt
stated_by s = (statement s).judged

abbrev pub items_judged : List Item → Judged (List TItem)
items_judged is = each (map item_judged is)

block_walked : (is : List Item) (w w' : Walk) (ts : Option (List TItem)) → Walked (items_judged is) w w' ts →
    Walked (block (map item_judged is)) w w' (block_made ts)
block_walked is w w' ts inside = walked_made (items_judged is) (λ ts. tstmt.Block ts) w w' ts (block_made ts) inside refl

pub arm-block : (is : List Item) (w w1 w2 w3 : Walk) (ts : Option (List TItem)) (k : Option TStmt) →
    w1 ≡ record w { scopes = opened_names w.scopes } → Walked (items_judged is) w1 w2 ts →
    w3 ≡ record w2 { scopes = closed_names w2.scopes } → k ≡ block_made ts → Walked (stated_by (stmt.Block is)) w w3 k
arm-block is w w1 w2 w3 ts k opens inside closes made =
    walked_as _ _ w w3 k (ap judged_of (said-block is))
    (walked_scoped (block (map item_judged is)) w w1 w2 w3 k opens
    (as_known _ w1 w2 (block_made ts) k (sym made) (block_walked is w1 w2 ts inside)) closes)

pub body-block : (is : List Item) (w w' : Walk) (ts : Option (List TItem)) (k : Option TStmt) → Walked (items_judged is) w w' ts →
    k ≡ block_made ts → Walked (statement (stmt.Block is)).body w w' k
body-block is w w' ts k inside made =
    walked_as _ _ w w' k (ap body_of (said-block is)) (as_known _ w w' (block_made ts) k (sym made) (block_walked is w w' ts inside))

pub arm-expression : (e : Expr) (w w' : Walk) (k : Option TStmt) → Walked (expression_row e) w w' k →
    Walked (stated_by (stmt.Expr e)) w w' k
arm-expression e w w' k first = walked_as _ _ w w' k (ap judged_of (said-expression e)) first

pub arm-empty : (w : Walk) → Walked (stated_by stmt.Empty) w w (Some tstmt.Empty)
arm-empty w = walked_as _ _ w w (Some tstmt.Empty) (ap judged_of said-empty) (walked_sure w tstmt.Empty)

pub arm-if : (e : Expr) (s : Stmt) (w w1 w2 : Walk) (c : Option TExpr) (t k : Option TStmt) → Walked (condition e) w w1 c →
    Walked (stated_by s) w1 w2 t → k ≡ if_made c t (Some None) → Walked (stated_by (stmt.If e s None)) w w2 k
arm-if e s w w1 w2 c t k first second made =
    walked_as _ _ w w2 k (ap judged_of (said-if e s))
    (walked_made _ (λ (c, r). tstmt.If c r.0 r.1) w w2 (pair c (pair t (Some None))) k
    (walked_both _ _ w w1 w2 c (pair t (Some None)) first
    (walked_both _ _ w1 w2 w2 t (Some None) second (walked_left_out {A = TStmt} w2))) made)

pub arm-if_else : (e : Expr) (s o : Stmt) (w w1 w2 w3 : Walk) (c : Option TExpr) (t r k : Option TStmt) → Walked (condition e) w w1 c →
    Walked (stated_by s) w1 w2 t → Walked (stated_by o) w2 w3 r → k ≡ if_made c t (present r) →
    Walked (stated_by (stmt.If e s (Some o))) w w3 k
arm-if_else e s o w w1 w2 w3 c t r k first second third made =
    walked_as _ _ w w3 k (ap judged_of (said-if_else e s o))
    (walked_made _ (λ (c, r). tstmt.If c r.0 r.1) w w3 (pair c (pair t (present r))) k
    (walked_both _ _ w w1 w3 c (pair t (present r)) first
    (walked_both _ _ w1 w2 w3 t (present r) second (walked_perhaps (stated_by o) w2 w3 r third))) made)

pub arm-while : (e : Expr) (s : Stmt) (w w1 w2 : Walk) (c : Option TExpr) (t k : Option TStmt) → Walked (condition e) w w1 c →
    Walked (stated_by s) w1 w2 t → k ≡ while_made c t → Walked (stated_by (stmt.While e s)) w w2 k
arm-while e s w w1 w2 c t k first second made =
    walked_as _ _ w w2 k (ap judged_of (said-while e s))
    (walked_made _ (λ (c, t). tstmt.While c t) w w2 (pair c t) k (walked_both _ _ w w1 w2 c t first second) made)

pub arm-do : (s : Stmt) (e : Expr) (w w1 w2 : Walk) (t : Option TStmt) (c : Option TExpr) (k : Option TStmt) →
    Walked (stated_by s) w w1 t → Walked (condition e) w1 w2 c → k ≡ do_made t c → Walked (stated_by (stmt.DoWhile s e)) w w2 k
arm-do s e w w1 w2 t c k first second made =
    walked_as _ _ w w2 k (ap judged_of (said-do s e))
    (walked_made _ (λ (t, c). tstmt.DoWhile t c) w w2 (pair t c) k (walked_both _ _ w w1 w2 t c first second) made)

pub for_walked : (ds : List Decl) (first c next : Option Expr) (s : Judged TStmt) (w w1 w2 w3 w4 w5 : Walk) (ts : Option (List TDecl))
    (f e n : Option (Option TExpr)) (t k : Option TStmt) → Walked (each (map local ds)) w w1 ts →
    Walked (perhaps (option_map effect first)) w1 w2 f → Walked (perhaps (option_map condition c)) w2 w3 e →
    Walked (perhaps (option_map effect next)) w3 w4 n → Walked s w4 w5 t → k ≡ for_made ts f e n t →
    Walked (for_inside ds first c next s) w w5 k
for_walked ds first c next s w w1 w2 w3 w4 w5 ts f e n t k declared begins asked steps body made =
    walked_made _ (λ (ts, r). tstmt.For ts r.0 r.1.0 r.1.1.0 r.1.1.1) w w5 (pair ts (pair f (pair e (pair n t)))) k
    (walked_both _ _ w w1 w5 ts (pair f (pair e (pair n t))) declared
    (walked_both _ _ w1 w2 w5 f (pair e (pair n t)) begins
    (walked_both _ _ w2 w3 w5 e (pair n t) asked (walked_both _ _ w3 w4 w5 n t steps body)))) made

pub arm-for : (ds : List Decl) (first c next : Option Expr) (s : Stmt) (w w1 w2 w3 : Walk) (k : Option TStmt) →
    w1 ≡ record w { scopes = opened_names w.scopes } → Walked (for_inside ds first c next (stated_by s)) w1 w2 k →
    w3 ≡ record w2 { scopes = closed_names w2.scopes } → Walked (stated_by (stmt.For ds first c next s)) w w3 k
arm-for ds first c next s w w1 w2 w3 k opens inside closes =
    walked_as _ _ w w3 k (ap judged_of (said-for ds first c next s))
    (walked_scoped (for_inside ds first c next (stated_by s)) w w1 w2 w3 k opens inside closes)

pub arm-return : (e : Option Expr) (span : Span) (w w' : Walk) (k : Option TStmt) → Walked (returns e span) w w' k →
    Walked (stated_by (stmt.Return e span)) w w' k
arm-return e span w w' k first = walked_as _ _ w w' k (ap judged_of (said-return e span)) first

pub arm-break : (span : Span) (w : Walk) → Walked (stated_by (stmt.Break span)) w w (Some (tstmt.Break span))
arm-break span w = walked_as _ _ w w (Some (tstmt.Break span)) (ap judged_of (said-break span)) (walked_sure w (tstmt.Break span))

pub arm-continue : (span : Span) (w : Walk) → Walked (stated_by (stmt.Continue span)) w w (Some (tstmt.Continue span))
arm-continue span w =
    walked_as _ _ w w (Some (tstmt.Continue span)) (ap judged_of (said-continue span)) (walked_sure w (tstmt.Continue span))

-- ---- parts of a block

pub item-local : (ds : List Decl) (w w' : Walk) (ts : Option (List TDecl)) (k : Option TItem) → Walked (each (map local ds)) w w' ts →
    k ≡ option_map (λ ts. titem.Local ts) ts → Walked (item_judged (item.Local ds)) w w' k
item-local ds w w' ts k inside made =
    walked_as _ _ w w' k (judged-local ds) (walked_made _ (λ ts. titem.Local ts) w w' ts k inside made)

pub item-statement : (s : Stmt) (w w' : Walk) (t : Option TStmt) (k : Option TItem) → Walked (stated_by s) w w' t →
    k ≡ option_map (λ t. titem.Stmt t) t → Walked (item_judged (item.Stmt s)) w w' k
item-statement s w w' t k inside made =
    walked_as _ _ w w' k (judged-statement s) (walked_made _ (λ t. titem.Stmt t) w w' t k inside made)

-- ---- rows of declarations, and of parts

abbrev pub locals_judged : List Decl → Judged (List TDecl)
locals_judged ds = each (map local ds)

pub all_walked : {X A : Type 0} (f : X → Judged A) (xs : List X) (i : ℕ) (w w' : Walk) (as' : Option (List A)) → length xs ≤ i →
    Walked (each (map f (take i xs))) w w' as' → Walked (each (map f xs)) w w' as'
all_walked f xs i w w' as' over walked = subst (λ (ys : List _). Walked (each (map f ys)) w w' as') (take_all i xs over) walked
