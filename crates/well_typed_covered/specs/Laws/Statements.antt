-- Statements: each expression in them that is plain is covered (this project's own).
use Rattle.std.specs.Prelude.{◌≡◌, ℕ, Bool, true, false, ◌&&◌, List, [], ◌∷◌, map, Option, Some, None, refl}
use Rattle.std.specs.List.{AllByRecursion}
use Rattle.std.proofs.Common.{◌∙◌}
use Rattle.c_ast.specs.declared.declaration.Decl.{Decl}
use Rattle.c_ast.specs.declared.declaration.Init.{Init}
use Rattle.c_ast.specs.declared.expr.Expr.{Expr}
use Rattle.c_ast.specs.declared.token.Span.{Span}
use Rattle.c_type_base.specs.Known.{converted}
use Rattle.c_type_base.specs.Laws.Opened.{given_typed}
use Rattle.c_type_base.specs.Types.{is_scalar}
use Rattle.c_type_base.specs.declared.expr.TExpr.{TExpr}
use Rattle.c_type_base.specs.declared.known.Known.{Known}
use Rattle.c_type_base.specs.declared.statement.TDecl.{TDecl}
use Rattle.c_type_base.specs.declared.statement.TItem.{TItem, roll-TItem}
use Rattle.c_type_base.specs.declared.statement.TItem.TheFolds.{fold-roll-TItem, fold-roll-TStmt}
use Rattle.c_type_base.specs.declared.statement.TItem.TheOpen.{TItem-F, TStmt-F}
use Rattle.c_type_base.specs.declared.statement.TItem.TheVariants as titem
use Rattle.c_type_base.specs.declared.statement.TStmt.{TStmt, roll-TStmt}
use Rattle.c_type_base.specs.declared.statement.TStmt.TheVariants as tstmt
use Rattle.c_type_base.specs.declared.ty.Ty.{Ty}
use Rattle.c_type_expr.specs.Environment.{opened}
use Rattle.c_type_expr.specs.Expressions.{judged_value}
use Rattle.c_type_expr.specs.Faults.{rule}
use Rattle.c_type_expr.specs.Outcomes.{Judged, behind, sure, both, each, perhaps, on, option_map, ruled}
use Rattle.c_type_stmt.specs.Declarations.{init_of, declared_type, object_rules, fits_object, initialised, is_new, declares_local, tdecl}
use Rattle.c_type_stmt.specs.Declarations.{local}
use Rattle.c_type_stmt.specs.Initials.{InitSaid, initialiser}
use Rattle.c_type_stmt.specs.Statements.{scoped, effect, condition, block, returned, return_row, for_row}
use Rattle.c_type_stmt.specs.declared.fitted.Fitted.{Fitted}
use Rattle.block_meaning.specs.Statements as meaning
use Rattle.well_typed_covered.specs.Always.{IfThere, Always}
use Rattle.well_typed_covered.specs.Constants.{fits_if, constants_fit, constants_fit_init}
use Rattle.well_typed_covered.specs.Constants.{constants_fit_decl, constants_fit_decls}
use Rattle.well_typed_covered.specs.CoveredBodies.{covered_if_plain, all_covered_in}
use Rattle.well_typed_covered.specs.Everywhere.{all_pass, passes_if, each_in_decl, each_in_decls, stmt_passes, item_passes}
use Rattle.well_typed_covered.specs.Everywhere.{each_in_item, each_in_layer, each_in_item_layer}
use Rattle.well_typed_covered.specs.Laws.Always.{always-any, always-sure, always-on, always-both, always-each, always-without}
use Rattle.well_typed_covered.specs.Laws.Always.{always-perhaps}
use Rattle.well_typed_covered.specs.Laws.Expressions.{value-covered}
use Rattle.well_typed_covered.specs.Laws.Initials.{passes-by, FittedCovered, InitAlways, initialiser-covered}
use Rattle.well_typed_covered.specs.Laws.Known.{KnownCovers, converted-covers}
use Rattle.well_typed_covered.specs.Laws.Trees.{and-true, first-of, second-of}

-- ---- expressions

abbrev Passes : TExpr → Type 0
Passes e = covered_if_plain e ≡ true

effect_always : (e : Expr) → constants_fit e ≡ true → Always Passes (effect e)
effect_always e fits = always-on (judged_value e) (λ k. sure k.tree) (value-covered e fits)
    (λ k known. always-sure k.tree (passes-by k.tree known))

condition_always : (e : Expr) → constants_fit e ≡ true → Always Passes (condition e)
condition_always e fits = always-on (judged_value e) (λ k. ruled k.tree.span (rule 12 (is_scalar k.tree.ty) ∷ []) k.tree)
    (value-covered e fits) (λ k known. record { known = λ env. passes-by k.tree known })

-- one that may be left out
perhaps_always : {A : Type 0} {P : A → Type 0} (f : Expr → Judged A) → ((e : Expr) → constants_fit e ≡ true → Always P (f e)) →
    (o : Option Expr) → fits_if constants_fit o ≡ true → Always (IfThere P) (perhaps (option_map f o))
perhaps_always f always None fits = always-without
perhaps_always f always (Some e) fits = always-perhaps (f e) (always e fits)

passes_there : (o : Option TExpr) → IfThere Passes o → passes_if covered_if_plain o ≡ true
passes_there None is = refl
passes_there (Some e) is = is

-- ---- declarations

abbrev DeclCovered : TDecl → Type 0
DeclCovered d = each_in_decl covered_if_plain d ≡ true

abbrev DeclsCovered : List TDecl → Type 0
DeclsCovered ds = each_in_decls covered_if_plain ds ≡ true

init_always : (o : Option Init) → fits_if constants_fit_init o ≡ true → IfThere InitAlways (option_map initialiser o)
init_always None fits = tt
init_always (Some i) fits = initialiser-covered i fits

object_always : (b : Bool) (t : Option Ty) (i : InitSaid) → InitAlways i → Always FittedCovered (fits_object b t i)
object_always b None i always = always-on i.loose _ (always-any i.loose) (λ x any. record { known = λ env. tt })
object_always b (Some t) i always = always b t

initialised_always : (b : Bool) (t : Option Ty) (o : Option InitSaid) → IfThere InitAlways o →
    Always (IfThere FittedCovered) (initialised b t o)
initialised_always b t None always = always-sure None tt
initialised_always b t (Some i) always =
    always-on (fits_object b t i) (λ f. sure (Some f)) (object_always b t i always) (λ f known. always-sure (Some f) known)

decl_covered : (number : ℕ) (span : Span) (t : Option Ty) (i : Option (Option Fitted)) → IfThere (IfThere FittedCovered) i →
    IfThere DeclCovered (tdecl number span t i)
decl_covered number span None i is = tt
decl_covered number span (Some t) None is = tt
decl_covered number span (Some t) (Some None) is = refl
decl_covered number span (Some t) (Some (Some f)) is = is

local_always : (d : Decl) → constants_fit_decl d ≡ true → Always DeclCovered (local d)
local_always d fits = record {
  known = λ env.
      let t = declared_type d env in
      let here = behind t env in
      let b = declares_local d.name d.span (rule 10 (is_new here d.name) ∷ object_rules here.structs t.known) t.known here in
      decl_covered here.locals d.span b.known (initialised false t.known (init_of d) (behind b here)).known
      ((initialised_always false t.known (init_of d) (init_always d.init fits)).known (behind b here));
}

locals_each : (ds : List Decl) → constants_fit_decls ds ≡ true → AllByRecursion (Always DeclCovered) (map local ds)
locals_each [] fits = tt
locals_each (d ∷ ds) fits = (
  local_always d (first-of (constants_fit_decl d) (constants_fit_decls ds) fits),
  locals_each ds (second-of (constants_fit_decl d) (constants_fit_decls ds) fits),
)

pub locals-always : (ds : List Decl) → constants_fit_decls ds ≡ true → Always (AllByRecursion DeclCovered) (each (map local ds))
locals-always ds fits = always-each (map local ds) (locals_each ds fits)

decls_covered : (ds : List TDecl) → AllByRecursion DeclCovered ds → DeclsCovered ds
decls_covered [] all = refl
decls_covered (d ∷ ds) all =
    and-true (each_in_decl covered_if_plain d) (each_in_decls covered_if_plain ds) all.0 (decls_covered ds all.1)

-- ---- trees

abbrev pub StmtCovered : TStmt → Type 0
StmtCovered s = all_covered_in s ≡ true

abbrev pub ItemCovered : TItem → Type 0
ItemCovered i = each_in_item covered_if_plain i ≡ true

made : (l : meaning.StmtLayer) → each_in_layer covered_if_plain l ≡ true → StmtCovered (roll-TStmt l)
made l is = fold-roll-TStmt Bool Bool (item_passes covered_if_plain) (stmt_passes covered_if_plain) l ∙ is

made_item : (l : meaning.ItemLayer) → each_in_item_layer covered_if_plain l ≡ true → ItemCovered (roll-TItem l)
made_item l is = fold-roll-TItem Bool Bool (item_passes covered_if_plain) (stmt_passes covered_if_plain) l ∙ is

items_covered : (is : List TItem) → AllByRecursion ItemCovered is → all_pass (map (each_in_item covered_if_plain) is) ≡ true
items_covered [] all = refl
items_covered (i ∷ is) all = and-true (each_in_item covered_if_plain i) (all_pass (map (each_in_item covered_if_plain) is)) all.0
    (items_covered is all.1)

block_covered : (is : List TItem) → AllByRecursion ItemCovered is → StmtCovered (tstmt.Block is)
unfolding given_typed
block_covered is all = made (TStmt-F.Block is) (items_covered is all)

expression_covered : (e : TExpr) → Passes e → StmtCovered (tstmt.Expr e)
unfolding given_typed
expression_covered e is = made (TStmt-F.Expr e) is

pub empty-covered : StmtCovered tstmt.Empty
unfolding given_typed
empty-covered = made TStmt-F.Empty refl

if_covered : (c : TExpr) (s : TStmt) (o : Option TStmt) → Passes c → StmtCovered s → IfThere StmtCovered o → StmtCovered (tstmt.If c s o)
unfolding given_typed
if_covered c s None of_c of_s of_o = made (TStmt-F.If c s None)
    (and-true (covered_if_plain c) (all_covered_in s && true) of_c (and-true (all_covered_in s) true of_s refl))
if_covered c s (Some o) of_c of_s of_o = made (TStmt-F.If c s (Some o))
    (and-true (covered_if_plain c) (all_covered_in s && all_covered_in o) of_c (and-true (all_covered_in s) (all_covered_in o) of_s of_o))

while_covered : (c : TExpr) (s : TStmt) → Passes c → StmtCovered s → StmtCovered (tstmt.While c s)
unfolding given_typed
while_covered c s of_c of_s = made (TStmt-F.While c s) (and-true (covered_if_plain c) (all_covered_in s) of_c of_s)

do_covered : (s : TStmt) (c : TExpr) → StmtCovered s → Passes c → StmtCovered (tstmt.DoWhile s c)
unfolding given_typed
do_covered s c of_s of_c = made (TStmt-F.DoWhile s c) (and-true (all_covered_in s) (covered_if_plain c) of_s of_c)

for_covered : (ds : List TDecl) (first c next : Option TExpr) (s : TStmt) → AllByRecursion DeclCovered ds → IfThere Passes first →
    IfThere Passes c → IfThere Passes next → StmtCovered s → StmtCovered (tstmt.For ds first c next s)
unfolding given_typed
for_covered ds first c next s of_ds of_first of_c of_next of_s =
    let passes : Option TExpr → Bool = passes_if covered_if_plain in
    made (TStmt-F.For ds first c next s)
    (and-true (each_in_decls covered_if_plain ds) (passes first && (passes c && (passes next && all_covered_in s)))
    (decls_covered ds of_ds)
    (and-true (passes first) (passes c && (passes next && all_covered_in s)) (passes_there first of_first)
    (and-true (passes c) (passes next && all_covered_in s) (passes_there c of_c)
    (and-true (passes next) (all_covered_in s) (passes_there next of_next) of_s))))

return_covered : (o : Option TExpr) (span : Span) → IfThere Passes o → StmtCovered (tstmt.Return o span)
unfolding given_typed
return_covered o span is = made (TStmt-F.Return o span) (passes_there o is)

pub break-covered : (span : Span) → StmtCovered (tstmt.Break span)
unfolding given_typed
break-covered span = made (TStmt-F.Break span) refl

pub continue-covered : (span : Span) → StmtCovered (tstmt.Continue span)
unfolding given_typed
continue-covered span = made (TStmt-F.Continue span) refl

pub local-covered : (ds : List TDecl) → AllByRecursion DeclCovered ds → ItemCovered (titem.Local ds)
unfolding given_typed
local-covered ds all = made_item (TItem-F.Local ds) (decls_covered ds all)

pub item-covered : (s : TStmt) → StmtCovered s → ItemCovered (titem.Stmt s)
unfolding given_typed
item-covered s is = made_item (TItem-F.Stmt s) is

-- ---- rows

pub always-scoped : {A : Type 0} {P : A → Type 0} (p : Judged A) → Always P p → Always P (scoped p)
always-scoped p inside = record { known = λ env. inside.known (opened env) }

pub expression-always : (e : Expr) → constants_fit e ≡ true → Always StmtCovered (on (effect e) (λ t. sure (tstmt.Expr t)))
expression-always e fits = always-on (effect e) (λ t. sure (tstmt.Expr t)) (effect_always e fits)
    (λ t known. always-sure (tstmt.Expr t) (expression_covered t known))

pub block-always : (ps : List (Judged TItem)) → AllByRecursion (Always ItemCovered) ps → Always StmtCovered (block ps)
block-always ps all = always-on (each ps) (λ ts. sure (tstmt.Block ts)) (always-each ps all)
    (λ ts known. always-sure (tstmt.Block ts) (block_covered ts known))

pub if-always : (e : Expr) (p : Judged TStmt) (o : Judged (Option TStmt)) → constants_fit e ≡ true → Always StmtCovered p →
    Always (IfThere StmtCovered) o → Always StmtCovered (on (both (condition e) (both p o)) (λ (c, r). sure (tstmt.If c r.0 r.1)))
if-always e p o fits of_p of_o = always-on (both (condition e) (both p o)) (λ (c, r). sure (tstmt.If c r.0 r.1))
    (always-both (condition e) (both p o) (condition_always e fits) (always-both p o of_p of_o))
    (λ v known. always-sure (tstmt.If v.0 v.1.0 v.1.1) (if_covered v.0 v.1.0 v.1.1 known.0 known.1.0 known.1.1))

pub while-always : (e : Expr) (p : Judged TStmt) → constants_fit e ≡ true → Always StmtCovered p →
    Always StmtCovered (on (both (condition e) p) (λ (c, t). sure (tstmt.While c t)))
while-always e p fits of_p = always-on (both (condition e) p) (λ (c, t). sure (tstmt.While c t))
    (always-both (condition e) p (condition_always e fits) of_p)
    (λ v known. always-sure (tstmt.While v.0 v.1) (while_covered v.0 v.1 known.0 known.1))

pub do-always : (p : Judged TStmt) (e : Expr) → Always StmtCovered p → constants_fit e ≡ true →
    Always StmtCovered (on (both p (condition e)) (λ (t, c). sure (tstmt.DoWhile t c)))
do-always p e of_p fits = always-on (both p (condition e)) (λ (t, c). sure (tstmt.DoWhile t c))
    (always-both p (condition e) of_p (condition_always e fits))
    (λ v known. always-sure (tstmt.DoWhile v.0 v.1) (do_covered v.0 v.1 known.0 known.1))

-- the constants of a `for`
abbrev pub for_fits : List Decl → Option Expr → Option Expr → Option Expr → Bool → Bool
for_fits ds first c next s =
    constants_fit_decls ds && (fits_if constants_fit first && (fits_if constants_fit c && (fits_if constants_fit next && s)))

pub record ForFits (ds : List Decl) (first c next : Option Expr) (s : Bool) : Type 0 where
  pub decls : constants_fit_decls ds ≡ true
  pub start : fits_if constants_fit first ≡ true
  pub test : fits_if constants_fit c ≡ true
  pub turn : fits_if constants_fit next ≡ true
  pub body : s ≡ true

pub for-parts : (ds : List Decl) (first c next : Option Expr) (s : Bool) → for_fits ds first c next s ≡ true → ForFits ds first c next s
for-parts ds first c next s fits =
    let fit : Option Expr → Bool = fits_if constants_fit in
    let one = second-of (constants_fit_decls ds) (fit first && (fit c && (fit next && s))) fits in
    let two = second-of (fit first) (fit c && (fit next && s)) one in
    let three = second-of (fit c) (fit next && s) two in
    record {
      decls = first-of (constants_fit_decls ds) (fit first && (fit c && (fit next && s))) fits;
      start = first-of (fit first) (fit c && (fit next && s)) one;
      test = first-of (fit c) (fit next && s) two;
      turn = first-of (fit next) s three;
      body = second-of (fit next) s three;
    }

pub for-always : (ds : List Decl) (first c next : Option Expr) (p : Judged TStmt) (b : Bool) → ForFits ds first c next b →
    Always StmtCovered p → Always StmtCovered (for_row ds first c next p)
for-always ds first c next p b fits of_p =
    let last = both (perhaps (option_map effect next)) p in
    let turn = both (perhaps (option_map condition c)) last in
    let begun = both (perhaps (option_map effect first)) turn in
    always-scoped (on (both (each (map local ds)) begun) (λ (ts, r). sure (tstmt.For ts r.0 r.1.0 r.1.1.0 r.1.1.1)))
    (always-on (both (each (map local ds)) begun) (λ (ts, r). sure (tstmt.For ts r.0 r.1.0 r.1.1.0 r.1.1.1))
    (always-both (each (map local ds)) begun (locals-always ds fits.decls)
    (always-both (perhaps (option_map effect first)) turn (perhaps_always effect effect_always first fits.start)
    (always-both (perhaps (option_map condition c)) last (perhaps_always condition condition_always c fits.test)
    (always-both (perhaps (option_map effect next)) p (perhaps_always effect effect_always next fits.turn) of_p))))
    (λ v known. always-sure (tstmt.For v.0 v.1.0 v.1.1.0 v.1.1.1.0 v.1.1.1.1)
    (for_covered v.0 v.1.0 v.1.1.0 v.1.1.1.0 v.1.1.1.1 known.0 known.1.0 known.1.1.0 known.1.1.1.0 known.1.1.1.1)))

returned_covered : (span : Span) (t : Option Ty) (k : Option Known) → IfThere KnownCovers k → Always StmtCovered (returned span t k)
returned_covered span None k known = record { known = λ env. tt }
returned_covered span (Some t) None known = record { known = λ env. return_covered None span tt }
returned_covered span (Some t) (Some k) known = record {
  known = λ env. return_covered (Some (converted t k).tree) span (passes-by (converted t k).tree (converted-covers t k known));
}

pub return-always : (e : Option Expr) (span : Span) → fits_if constants_fit e ≡ true →
    Always StmtCovered (on (perhaps (option_map judged_value e)) (return_row span))
return-always e span fits = always-on (perhaps (option_map judged_value e)) (return_row span)
    (perhaps_always judged_value value-covered e fits)
    (λ k known. record { known = λ env. (returned_covered span env.result k known).known env })
