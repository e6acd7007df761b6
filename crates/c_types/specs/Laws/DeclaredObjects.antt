-- What a body breaks are rules of the numbers 9 to 19. Where it breaks none, each local that it declares has a type that an object may
-- have.
use Rattle.std.proofs.Common.{◌≡◌, refl, sym, ap, subst, ℕ, zero, suc, Bool, true, false, List, [], ◌∷◌, ◌++◌, map}
use Rattle.std.proofs.Common.{slice_get, Option, Some, None}
use Rattle.std.specs.Prelude.{leb}
use Rattle.std.specs.List.{list_all}
use Rattle.std.proofs.lemmas.Bool.{leb-true}
use Rattle.c_ast.specs.Laws.Opened.{given_trees}
use Rattle.c_ast.specs.Tree.{StmtLayer, ItemLayer}
use Rattle.c_ast.specs.declared.token.Span.{Span}
use Rattle.c_ast.specs.declared.expr.Expr.{Expr}
use Rattle.c_ast.specs.declared.declaration.Decl.{Decl}
use Rattle.c_ast.specs.declared.statement.Stmt.{Stmt, roll-Stmt, map-Stmt}
use Rattle.c_ast.specs.declared.statement.Item.{Item, roll-Item, map-Item}
use Rattle.c_ast.specs.declared.statement.Item.TheOpen.{Item-F, Stmt-F}
use Rattle.c_ast.specs.declared.statement.Item.TheFolds.{ind-Stmt, fold-roll-Item, fold-roll-Stmt}
use Rattle.c_type_base.specs.declared.ty.Ty.{Ty}
use Rattle.c_type_base.specs.declared.statement.TItem.{TItem}
use Rattle.c_type_base.specs.declared.statement.TItem.TheVariants as titem
use Rattle.c_type_base.specs.declared.statement.TStmt.{TStmt}
use Rattle.c_type_base.specs.declared.statement.TStmt.TheVariants as tstmt
use Rattle.c_type_base.specs.declared.typed.StructInfo.{StructInfo}
use Rattle.c_type_base.specs.declared.typed.LocalInfo.{LocalInfo}
use Rattle.c_type_base.specs.declared.known.Known.{Known}
use Rattle.c_type_base.specs.Sizes.{size, is_complete, largest, IsObject, AreObjects}
use Rattle.c_type_base.specs.Types.{is_scalar}
use Rattle.c_type_expr.specs.Faults.{rule, broken}
use Rattle.c_type_expr.specs.Environment.{Env, opened}
use Rattle.c_type_expr.specs.Outcomes.{Outcome, Judged, behind, joined, sure, both, each, perhaps, on, continued, ruled, option_map}
use Rattle.c_type_expr.specs.Expressions.{judged_value}
use Rattle.c_type_stmt.specs.Declarations.{init_of, object_rules, initialised, local_info, declared_type, declares_local, is_new, tdecl}
use Rattle.c_type_stmt.specs.Declarations.{local}
use Rattle.c_type_stmt.specs.Statements.{StmtSaid, stated, scoped, effect, condition, block, returned, return_row, if_row, for_row}
use Rattle.c_type_stmt.specs.Statements.{judged_of, stmt_step, item_step, statement}
use Rattle.c_type_stmt.specs.Laws.SaidLaws.{item_judged}
use Rattle.c_types.specs.Laws.PromiseLaws.{front, back, first-kept, rest-kept}
use Rattle.c_types.specs.Laws.QuietRows.{of_rule, Quiet, at_once, broken_rules, rules_quiet, rules_joined, on_quiet}
use Rattle.c_types.specs.Laws.QuietLaws.{value_quiet}
use Rattle.c_types.specs.Laws.QuietInits.{declared_type_quiet, initialised_quiet}

-- so it is for each element of a list
abbrev pub Every : {A : Type 0} → (A → Type 0) → List A → Type 0
Every P xs = (k : ℕ) (x : _) → slice_get xs k ≡ Some x → P x

pub every_none : {A : Type 0} (P : A → Type 0) → Every P []
every_none P k x is = absurd (cc)

pub every_one : {A : Type 0} (P : A → Type 0) (x : A) → P x → Every P (x ∷ [])
every_one P x here zero y is = let same : x ≡ y = cc in subst P same here
every_one P x here (suc k) y is = absurd (cc)

pub every_append : {A : Type 0} (P : A → Type 0) (xs ys : List A) → Every P xs → Every P ys → Every P (xs ++ ys)
every_append P [] ys first next k y is = next k y is
every_append P (x ∷ xs) ys first next zero y is = first zero y is
every_append P (x ∷ xs) ys first next (suc k) y is = every_append P xs ys (λ j z there. first (suc j) z there) next k y is

abbrev pub object_in : List StructInfo → LocalInfo → Type 0
object_in structs l = IsObject structs l.ty

-- what it breaks are rules, and where it breaks none, what it declares are objects
pub record IsDeclared {A : Type 0} (structs : List StructInfo) (o : Outcome A) : Type 0 where
  pub objects : o.faults ≡ [] → AreObjects structs o.locals
  pub rules : list_all of_rule o.faults ≡ true

abbrev pub Declares : {A : Type 0} → Judged A → Type 0
Declares p = (env : Env) → IsDeclared env.structs (p env)

-- ---- parts

none_declared : (structs : List StructInfo) (ls : List LocalInfo) → ls ≡ [] → AreObjects structs ls
none_declared structs [] empty = every_none (object_in structs)
none_declared structs (l ∷ ls) empty = absurd (cc)

pub quiet_declares : {A : Type 0} (p : Judged A) → Quiet p → Declares p
quiet_declares p quiet env = record {
  objects = λ is. none_declared env.structs (p env).locals (quiet env).locals;
  rules = (quiet env).rules;
}

pub joined_objects : {A B C : Type 0} (structs : List StructInfo) (a : Outcome A) (b : Outcome B) (known : Option C) →
    IsDeclared structs a → IsDeclared structs b → IsDeclared structs (joined a b known)
joined_objects structs a b known first next = record {
  objects = λ is. every_append (object_in structs) a.locals b.locals (first.objects (front a.faults b.faults is))
      (next.objects (back a.faults b.faults is));
  rules = rules_joined a.faults b.faults first.rules next.rules;
}

-- what declares nothing and breaks no rule
pub empty_declares : {A : Type 0} (structs : List StructInfo) (o : Outcome A) → o.faults ≡ [] → o.locals ≡ [] → IsDeclared structs o
empty_declares structs o is none = record {
  objects = λ all. none_declared structs o.locals none;
  rules = ap (list_all of_rule) is;
}

both_declare : {A B : Type 0} (p : Judged A) (q : Judged B) → Declares p → Declares q → Declares (both p q)
both_declare p q first next env =
    joined_objects env.structs (p env) (q (behind (p env) env)) _ (first env) (next (behind (p env) env))

pub data AllDeclare {A : Type 0} : List (Judged A) → Type 0 where
  none : AllDeclare []
  some : {p : Judged A} {ps : List (Judged A)} → Declares p → AllDeclare ps → AllDeclare (p ∷ ps)

pub each_declares : {A : Type 0} (ps : List (Judged A)) → AllDeclare ps → Declares (each ps)
each_declares [] none = λ env. empty_declares env.structs _ refl refl
each_declares (p ∷ ps) (some one all) = λ env.
    joined_objects env.structs (p env) (each ps (behind (p env) env)) _ (one env) (each_declares ps all (behind (p env) env))

continued_objects : {A B : Type 0} (a : Outcome A) (k : Option A) (f : A → Judged B) (env : Env) → IsDeclared env.structs a →
    ((v : A) → Quiet (f v)) → IsDeclared env.structs (continued a k f env)
continued_objects a None f env first next = record { objects = first.objects; rules = first.rules }
continued_objects a (Some v) f env first next =
    joined_objects env.structs a (f v (behind a env)) _ first (quiet_declares (f v) (next v) (behind a env))

on_declares : {A B : Type 0} (p : Judged A) (f : A → Judged B) → Declares p → ((v : A) → Quiet (f v)) → Declares (on p f)
on_declares p f first next env = continued_objects (p env) (p env).known f env (first env) next

perhaps_quiet : {A B : Type 0} (f : B → Judged A) (o : Option B) → ((x : B) → Quiet (f x)) → Declares (perhaps (option_map f o))
perhaps_quiet f None quiet = λ env. empty_declares env.structs _ refl refl
perhaps_quiet f (Some x) quiet = λ env.
    let here = quiet_declares (f x) (quiet x) env in
    record { objects = here.objects; rules = here.rules }

scoped_declares : {A : Type 0} (p : Judged A) → Declares p → Declares (scoped p)
scoped_declares p inside env = record { objects = (inside (opened env)).objects; rules = (inside (opened env)).rules }

-- ---- locals

-- a type that keeps the rules on objects
object_kept : (structs : List StructInfo) (span : Span) (t : Ty) → broken span (object_rules structs (Some t)) ≡ [] → IsObject structs t
object_kept structs span t is =
    let fits = rule 17 (leb (size structs t) largest) ∷ [] in
    record {
      complete = first-kept span 15 (is_complete structs t) fits is;
      small = leb-true (size structs t) largest
          (first-kept span 17 (leb (size structs t) largest) [] (rest-kept span 15 (is_complete structs t) fits is));
    }

info_objects : (structs : List StructInfo) (name : List ℕ) (span : Span) (new : Bool) (t : Option Ty) →
    broken span (rule 10 new ∷ object_rules structs t) ≡ [] → AreObjects structs (local_info name span t)
info_objects structs name span new None is = every_none (object_in structs)
info_objects structs name span new (Some t) is =
    every_one (object_in structs) (record { name = name; ty = t; span = span })
    (object_kept structs span t (rest-kept span 10 new (object_rules structs (Some t)) is))

-- the rules on an object have the numbers of rules
pub object_numbers : (span : Span) (new : Bool) (structs : List StructInfo) (t : Option Ty) →
    list_all of_rule (broken span (rule 10 new ∷ object_rules structs t)) ≡ true
object_numbers span new structs None = broken_rules span (rule 10 new ∷ []) refl
object_numbers span new structs (Some t) =
    broken_rules span (rule 10 new ∷ rule 15 (is_complete structs t) ∷ rule 17 (leb (size structs t) largest) ∷ []) refl

local_declares : (d : Decl) → Declares (local d)
local_declares d env =
    let t = declared_type d env in
    let here = behind t env in
    let b = declares_local d.name d.span (rule 10 (is_new here d.name) ∷ object_rules here.structs t.known) t.known here in
    let i = initialised false t.known (init_of d) (behind b here) in
    let known = tdecl here.locals d.span b.known i.known in
    joined_objects env.structs t (joined b i known) known
    (quiet_declares (declared_type d) (declared_type_quiet d) env)
    (joined_objects env.structs b i known (record {
      objects = info_objects env.structs d.name d.span (is_new here d.name) t.known;
      rules = object_numbers d.span (is_new here d.name) here.structs t.known;
    }) (quiet_declares (initialised false t.known (init_of d)) (initialised_quiet false t.known d.init) (behind b here)))

locals_declare : (ds : List Decl) → AllDeclare (map local ds)
locals_declare [] = none
locals_declare (d ∷ ds) = some (local_declares d) (locals_declare ds)

-- ---- statements

effect_quiet : (e : Expr) → Quiet (effect e)
effect_quiet e = on_quiet (judged_value e) (λ k. sure k.tree) (value_quiet e) (λ k env. at_once _ refl refl)

condition_quiet : (e : Expr) → Quiet (condition e)
condition_quiet e =
    on_quiet (judged_value e) (λ k. ruled k.tree.span (rule 12 (is_scalar k.tree.ty) ∷ []) k.tree) (value_quiet e)
    (λ k env. search (rules_quiet))

returned_quiet : (span : Span) (t : Option Ty) (k : Option Known) → Quiet (returned span t k)
returned_quiet span None k = λ env. at_once _ refl refl
returned_quiet span (Some t) None = λ env. search (rules_quiet)
returned_quiet span (Some t) (Some k) = λ env. search (rules_quiet)

-- what is said of a statement: as it stands, and as a body
record StmtDeclares (s : StmtSaid) : Type 0 where
  judged : Declares s.judged
  body : Declares s.body

stated_declares : (p : Judged TStmt) → Declares p → StmtDeclares (stated p)
stated_declares p here = record { judged = here; body = here }

abbrev ItemWith : Type 0
ItemWith = (i : Item) × Declares (item_judged i)

abbrev StmtWith : Type 0
StmtWith = (s : Stmt) × StmtDeclares (statement s)

items_with : Item-F ItemWith StmtWith → ItemLayer
items_with = map-Item ItemWith StmtWith Item Stmt (λ e. e.0) (λ e. e.0)

stmts_with : Stmt-F ItemWith StmtWith → StmtLayer
stmts_with = map-Stmt ItemWith StmtWith Item Stmt (λ e. e.0) (λ e. e.0)

abbrev item_at : ItemLayer → Judged TItem
item_at d = item_step (map-Item Item Stmt (Judged TItem) StmtSaid item_judged statement d)

item_level : (d : ItemLayer) → Declares (item_at d) → Declares (item_judged (roll-Item d))
item_level d here =
    subst (λ (p : Judged TItem). Declares p) (sym (fold-roll-Item (Judged TItem) StmtSaid item_step stmt_step d)) here

abbrev stmt_at : StmtLayer → StmtSaid
stmt_at d = stmt_step (map-Stmt Item Stmt (Judged TItem) StmtSaid item_judged statement d)

stmt_level : (d : StmtLayer) → StmtDeclares (stmt_at d) → StmtDeclares (statement (roll-Stmt d))
stmt_level d here = subst StmtDeclares (sym (fold-roll-Stmt (Judged TItem) StmtSaid item_step stmt_step d)) here

local_row : (ds : List Decl) → Declares (on (each (map local ds)) (λ ts. sure (titem.Local ts)))
local_row ds =
    on_declares (each (map local ds)) (λ ts. sure (titem.Local ts)) (each_declares (map local ds) (locals_declare ds))
    (λ v env. at_once _ refl refl)

item_row : (y : Item-F ItemWith StmtWith) → Declares (item_judged (roll-Item (items_with y)))
unfolding items_with given_trees
item_row (Item-F.Local ds) = item_level (Item-F.Local ds) (local_row ds)
item_row (Item-F.Stmt s) = item_level (Item-F.Stmt s.0)
    (on_declares (statement s.0).judged (λ t. sure (titem.Stmt t)) s.1.judged (λ v env. at_once _ refl refl))

items_declare : (is : List ItemWith) → AllDeclare (map item_judged (map (λ i. i.0) is))
items_declare [] = none
items_declare (i ∷ is) = some i.1 (items_declare is)

block_declares : (is : List ItemWith) → Declares (block (map item_judged (map (λ i. i.0) is)))
block_declares is =
    let parts = map item_judged (map (λ i. i.0) is) in
    on_declares (each parts) (λ ts. sure (tstmt.Block ts)) (each_declares parts (items_declare is)) (λ v env. at_once _ refl refl)

else_declares : (o : Option StmtWith) → Declares (perhaps (option_map judged_of (option_map statement (option_map (λ s. s.0) o))))
else_declares None = λ env. empty_declares env.structs _ refl refl
else_declares (Some s) = λ env. record { objects = (s.1.judged env).objects; rules = (s.1.judged env).rules }

if_declares : (e : Expr) (s : StmtWith) (o : Judged (Option TStmt)) → Declares o →
    Declares (on (both (condition e) (both (statement s.0).judged o)) (λ (c, r). sure (tstmt.If c r.0 r.1)))
if_declares e s o here =
    let inner = both (statement s.0).judged o in
    on_declares (both (condition e) inner) (λ (c, r). sure (tstmt.If c r.0 r.1))
    (both_declare (condition e) inner (quiet_declares (condition e) (condition_quiet e))
    (both_declare (statement s.0).judged o s.1.judged here)) (λ v env. at_once _ refl refl)

for_declares : (ds : List Decl) (first c next : Option Expr) (s : StmtWith) →
    Declares (for_row ds first c next (statement s.0).judged)
for_declares ds first c next s =
    let last = both (perhaps (option_map effect next)) (statement s.0).judged in
    let turn = both (perhaps (option_map condition c)) last in
    let begun = both (perhaps (option_map effect first)) turn in
    let whole = on (both (each (map local ds)) begun) (λ (ts, r). sure (tstmt.For ts r.0 r.1.0 r.1.1.0 r.1.1.1)) in
    scoped_declares whole
    (on_declares (both (each (map local ds)) begun) (λ (ts, r). sure (tstmt.For ts r.0 r.1.0 r.1.1.0 r.1.1.1))
    (both_declare (each (map local ds)) begun (each_declares (map local ds) (locals_declare ds))
    (both_declare (perhaps (option_map effect first)) turn (perhaps_quiet effect first effect_quiet)
    (both_declare (perhaps (option_map condition c)) last (perhaps_quiet condition c condition_quiet)
    (both_declare (perhaps (option_map effect next)) (statement s.0).judged (perhaps_quiet effect next effect_quiet) s.1.judged))))
    (λ v env. at_once _ refl refl))

stmt_row : (y : Stmt-F ItemWith StmtWith) → StmtDeclares (statement (roll-Stmt (stmts_with y)))
unfolding stmts_with given_trees
stmt_row (Stmt-F.Block is) = stmt_level (Stmt-F.Block (map (λ i. i.0) is)) (record {
  judged = scoped_declares (block (map item_judged (map (λ i. i.0) is))) (block_declares is);
  body = block_declares is;
})
stmt_row (Stmt-F.Expr e) = stmt_level (Stmt-F.Expr e)
    (stated_declares (on (effect e) (λ t. sure (tstmt.Expr t)))
    (on_declares (effect e) (λ t. sure (tstmt.Expr t)) (quiet_declares (effect e) (effect_quiet e)) (λ v env. at_once _ refl refl)))
stmt_row Stmt-F.Empty = stmt_level Stmt-F.Empty
    (stated_declares (sure tstmt.Empty) (quiet_declares (sure tstmt.Empty) (λ env. at_once _ refl refl)))
stmt_row (Stmt-F.If e s None) = stmt_level (Stmt-F.If e s.0 None)
    (stated_declares (if_row e (statement s.0).judged None) (if_declares e s (perhaps None) (else_declares None)))
stmt_row (Stmt-F.If e s (Some o)) = stmt_level (Stmt-F.If e s.0 (Some o.0))
    (stated_declares (if_row e (statement s.0).judged (Some (statement o.0).judged))
    (if_declares e s (perhaps (Some (statement o.0).judged)) (else_declares (Some o))))
stmt_row (Stmt-F.While e s) = stmt_level (Stmt-F.While e s.0)
    (stated_declares (on (both (condition e) (statement s.0).judged) (λ (c, t). sure (tstmt.While c t)))
    (on_declares (both (condition e) (statement s.0).judged) (λ (c, t). sure (tstmt.While c t))
    (both_declare (condition e) (statement s.0).judged (quiet_declares (condition e) (condition_quiet e)) s.1.judged)
    (λ v env. at_once _ refl refl)))
stmt_row (Stmt-F.DoWhile s e) = stmt_level (Stmt-F.DoWhile s.0 e)
    (stated_declares (on (both (statement s.0).judged (condition e)) (λ (t, c). sure (tstmt.DoWhile t c)))
    (on_declares (both (statement s.0).judged (condition e)) (λ (t, c). sure (tstmt.DoWhile t c))
    (both_declare (statement s.0).judged (condition e) s.1.judged (quiet_declares (condition e) (condition_quiet e)))
    (λ v env. at_once _ refl refl)))
stmt_row (Stmt-F.For ds first c next s) = stmt_level (Stmt-F.For ds first c next s.0)
    (stated_declares (for_row ds first c next (statement s.0).judged) (for_declares ds first c next s))
stmt_row (Stmt-F.Return e span) = stmt_level (Stmt-F.Return e span)
    (stated_declares (on (perhaps (option_map judged_value e)) (return_row span))
    (on_declares (perhaps (option_map judged_value e)) (return_row span) (perhaps_quiet judged_value e value_quiet)
    (λ k env. returned_quiet span env.result k env)))
stmt_row (Stmt-F.Break span) = stmt_level (Stmt-F.Break span)
    (stated_declares (sure (tstmt.Break span)) (quiet_declares (sure (tstmt.Break span)) (λ env. at_once _ refl refl)))
stmt_row (Stmt-F.Continue span) = stmt_level (Stmt-F.Continue span)
    (stated_declares (sure (tstmt.Continue span)) (quiet_declares (sure (tstmt.Continue span)) (λ env. at_once _ refl refl)))

items_declared : (x : ItemLayer) (y : Item-F ItemWith StmtWith) → items_with y ≡ x → Declares (item_judged (roll-Item x))
items_declared x y is = subst (λ x. Declares (item_judged (roll-Item x))) is (item_row y)

stmts_declared : (x : StmtLayer) (y : Stmt-F ItemWith StmtWith) → stmts_with y ≡ x → StmtDeclares (statement (roll-Stmt x))
stmts_declared x y is = subst (λ x. StmtDeclares (statement (roll-Stmt x))) is (stmt_row y)

statement_declares : (s : Stmt) → StmtDeclares (statement s)
unfolding items_with stmts_with
statement_declares = ind-Stmt (λ i. Declares (item_judged i)) (λ s. StmtDeclares (statement s)) items_declared stmts_declared

-- what a body breaks are rules, and its locals are objects
pub body_declares : (s : Stmt) → Declares (statement s).body
body_declares s = (statement_declares s).body
