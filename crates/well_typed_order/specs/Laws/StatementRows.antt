-- What each statement is in order by: the rules that its parts keep.
use Rattle.std.proofs.Common.{◌≡◌, refl, sym, ◌∙◌, subst, zero, suc, arith, true, ◌&&◌, List, [], ◌∷◌}
use Rattle.std.proofs.Common.{map, Option, Some, None}
use Rattle.std.specs.Prelude.{not, IfSome, if◌then◌else◌}
use Rattle.std.specs.List.{All, AllByRecursion}
use Rattle.std.proofs.lemmas.Option.{same_Some}
use Rattle.c_ast.specs.declared.token.Span.{Span}
use Rattle.c_ast.specs.declared.expr.Expr.{Expr}
use Rattle.c_ast.specs.declared.declaration.Decl.{Decl}
use Rattle.c_type_base.specs.Known.{converted, assignable}
use Rattle.c_type_base.specs.Types.{is_scalar, is_void}
use Rattle.c_type_base.specs.declared.ty.Ty.{Ty}
use Rattle.c_type_base.specs.declared.expr.TExpr.{TExpr}
use Rattle.c_type_base.specs.declared.known.Known.{Known}
use Rattle.c_type_base.specs.declared.statement.TDecl.{TDecl}
use Rattle.c_type_base.specs.declared.statement.TItem.{TItem}
use Rattle.c_type_base.specs.declared.statement.TItem.TheOpen.{TStmt-F}
use Rattle.c_type_base.specs.declared.statement.TStmt.{TStmt, out-TStmt, roll-TStmt, out-roll-TStmt}
use Rattle.c_type_base.specs.declared.statement.TStmt.TheVariants as tstmt
use Rattle.c_type_expr.specs.declared.scopes.Meaning.{Meaning}
use Rattle.c_type_expr.specs.Environment.{Env}
use Rattle.c_type_expr.specs.Expressions.{expression, judged_value}
use Rattle.c_type_expr.specs.Faults.{rule}
use Rattle.c_type_expr.specs.Outcomes.{Judged, sure, both, each, perhaps, on, ruled, option_map}
use Rattle.c_type_stmt.specs.Declarations.{local}
use Rattle.c_type_stmt.specs.Statements.{effect, condition, returned, return_row}
use Rattle.block_meaning.specs.ExpressionsInOrder.{Scope, ValueInOrder, ConditionInOrder}
use Rattle.block_meaning.specs.StatementsInOrder.{DeclarationInOrder, StatementInOrder}
use Rattle.well_typed_order.specs.Standing.{MeansIn, Silent, Good, There, ValueIn, Part}
use Rattle.well_typed_order.specs.Laws.Binary.{kept-first}
use Rattle.well_typed_order.specs.Laws.Expressions.{expression-good}
use Rattle.well_typed_order.specs.Laws.Good.{good-on, good-sure}
use Rattle.well_typed_order.specs.Laws.Known.{value-in, assignable-in}
use Rattle.well_typed_order.specs.Laws.Locals.{local-part}
use Rattle.well_typed_order.specs.Laws.Parts.{Perhaps, no-names, part-good, part-sure}
use Rattle.well_typed_order.specs.Laws.Parts.{part-on, part-both, part-none, part-more, part-perhaps, part-left_out}
use Rattle.well_typed_order.specs.Laws.Scopes.{nowhere, Bounds}
use Rattle.well_typed_order.specs.Laws.Types.{and_second}

abbrev pub Any : {A : Type 0} → A → Type 0
Any a = Unit {0}

-- ---- expressions

pub judged-value-good : (s : Scope) (e : Expr) → Good s (ValueIn s) (judged_value e)
judged-value-good s e = good-on (expression e).judged _ (expression-good s e) (λ k env. refl) (λ k known. good-sure _ (value-in k known))

pub effect-good : (s : Scope) (e : Expr) → Good s (ValueInOrder s) (effect e)
effect-good s e =
    good-on (judged_value e) (λ k. sure k.tree) (judged-value-good s e) (λ k env. refl) (λ k known. good-sure k.tree known.has)

condition_row : (s : Scope) (k : Known) → ValueIn s k →
    Good s (ConditionInOrder s) (ruled k.tree.span (rule 12 (is_scalar k.tree.ty) ∷ []) k.tree)
condition_row s k known = record {
  silent = λ env. refl;
  holds = λ env inside kept texts. record { value = known.has; scalar = kept-first k.tree.span 12 (is_scalar k.tree.ty) [] kept };
}

pub condition-good : (s : Scope) (e : Expr) → Good s (ConditionInOrder s) (condition e)
condition-good s e = good-on (judged_value e) _ (judged-value-good s e) (λ k env. refl) (λ k known. condition_row s k known)

-- they add no name

pub value-silent : (e : Expr) → Silent (judged_value e)
value-silent e = (judged-value-good nowhere e).silent

pub effect-silent : (e : Expr) → Silent (effect e)
effect-silent e = (effect-good nowhere e).silent

pub condition-silent : (e : Expr) → Silent (condition e)
condition-silent e = (condition-good nowhere e).silent

pub perhaps-silent : {A B : Type 0} (f : B → Judged A) (o : Option B) → ((x : B) → Silent (f x)) → Silent (perhaps (option_map f o))
perhaps-silent f None silent env = refl
perhaps-silent f (Some x) silent env = silent x env

-- ---- rows, by what their parts are

-- a statement in order, rolled
rolled : (s : Scope) (l : TStmt-F TItem TStmt) → StatementInOrder s l → StatementInOrder s (out-TStmt (roll-TStmt l))
rolled s l is = subst (StatementInOrder s) (sym (out-roll-TStmt l)) is

pub if-some : {A : Type 0} (P : A → Type 0) (o : Option A) → Perhaps P o → IfSome o P
if-some P None holds = tt
if-some P (Some x) holds = holds

pub all-of : {A : Type 0} (P : A → Type 0) (xs : List A) → AllByRecursion P xs → All P xs
all-of P [] all k d less = absurd (omega (arith, less))
all-of P (x ∷ xs) all zero d less = all.0
all-of P (x ∷ xs) all (suc k) d less = all-of P xs all.1 k d (omega (arith, less))

returned_there : (s : Scope) (P : TStmt → Type 0) → ((span : Span) → is_void s.function.result ≡ true → P (tstmt.Return None span)) →
    ((span : Span) (e : TExpr) → ValueInOrder s e → e.ty ≡ s.function.result → P (tstmt.Return (Some e) span)) →
    (span : Span) (k : Option Known) → Perhaps (ValueIn s) k → (env : Env) (o : Option Ty) → o ≡ Some s.function.result →
    (returned span o k env).faults ≡ [] → There (returned span o k env).known P
returned_there s P nothing made span k value env None is kept = absurd cc
returned_there s P nothing made span None value env (Some t) is kept =
    let void = kept-first span 12 (is_void t) [] kept in
    nothing span (subst (λ t. is_void t ≡ true) (same_Some t s.function.result is) void)
returned_there s P nothing made span (Some k) value env (Some t) is kept =
    let fits = and_second (not (is_void t)) (assignable t k) (kept-first span 12 (not (is_void t) && assignable t k) [] kept) in
    let into = assignable-in k t value fits in
    made span (converted t k).tree into.value.has (into.is ∙ same_Some t s.function.result is)

pub returned-silent : (span : Span) (o : Option Ty) (k : Option Known) → Silent (returned span o k)
returned-silent span None k env = refl
returned-silent span (Some t) None env = refl
returned-silent span (Some t) (Some k) env = refl

-- the parts of a `for`
abbrev pub for_parts : List Decl → Option Expr → Option Expr → Option Expr → Judged TStmt → Judged TStmt
for_parts ds first c next p =
    on (both (each (map local ds)) (both (perhaps (option_map effect first))
    (both (perhaps (option_map condition c)) (both (perhaps (option_map effect next)) p))))
    (λ (ts, r). sure (tstmt.For ts r.0 r.1.0 r.1.1.0 r.1.1.1))

module _ {s : Scope} {G : Meaning → Type 0} where
  pub locals-part : Bounds s G → (ds : List Decl) → Part s G (AllByRecursion (DeclarationInOrder s)) (each (map local ds))
  locals-part bounds [] = part-none
  locals-part bounds (d ∷ ds) = part-more (local d) (map local ds) (local-part s bounds d) (locals-part bounds ds)

  perhaps_part : {A B : Type 0} {P : A → Type 0} (f : B → Judged A) (o : Option B) → ((x : B) → Good s P (f x)) →
      Part s G (Perhaps P) (perhaps (option_map f o))
  perhaps_part f None good = part-left_out
  perhaps_part f (Some x) good = part-perhaps (f x) (part-good (f x) (good x))

  module _ (P : TStmt → Type 0) where
    pub expression-part : ((t : TExpr) → ValueInOrder s t → P (tstmt.Expr t)) → (e : Expr) →
        Part s G P (on (effect e) (λ t. sure (tstmt.Expr t)))
    expression-part made e = part-on (effect e) (λ t. sure (tstmt.Expr t)) (part-good (effect e) (effect-good s e))
        (λ t known. part-sure (tstmt.Expr t) (made t known))

    pub if-part : ((c : TExpr) (t : TStmt) (o : Option TStmt) → ConditionInOrder s c → P t → Perhaps P o → P (tstmt.If c t o)) →
        (e : Expr) (p : Judged TStmt) (o : Judged (Option TStmt)) → Part s G P p → Part s G (Perhaps P) o →
        Part s G P (on (both (condition e) (both p o)) (λ (c, r). sure (tstmt.If c r.0 r.1)))
    if-part made e p o first other = part-on (both (condition e) (both p o)) (λ (c, r). sure (tstmt.If c r.0 r.1))
        (part-both (condition e) (both p o) (part-good (condition e) (condition-good s e)) (part-both p o first other))
        (λ v known. part-sure (tstmt.If v.0 v.1.0 v.1.1) (made v.0 v.1.0 v.1.1 known.0 known.1.0 known.1.1))

    pub while-part : ((c : TExpr) (t : TStmt) → ConditionInOrder s c → P t → P (tstmt.While c t)) → (e : Expr) (p : Judged TStmt) →
        Part s G P p → Part s G P (on (both (condition e) p) (λ (c, t). sure (tstmt.While c t)))
    while-part made e p body = part-on (both (condition e) p) (λ (c, t). sure (tstmt.While c t))
        (part-both (condition e) p (part-good (condition e) (condition-good s e)) body)
        (λ v known. part-sure (tstmt.While v.0 v.1) (made v.0 v.1 known.0 known.1))

    pub do-part : ((t : TStmt) (c : TExpr) → P t → ConditionInOrder s c → P (tstmt.DoWhile t c)) → (p : Judged TStmt) (e : Expr) →
        Part s G P p → Part s G P (on (both p (condition e)) (λ (t, c). sure (tstmt.DoWhile t c)))
    do-part made p e body = part-on (both p (condition e)) (λ (t, c). sure (tstmt.DoWhile t c))
        (part-both p (condition e) body (part-good (condition e) (condition-good s e)))
        (λ v known. part-sure (tstmt.DoWhile v.0 v.1) (made v.0 v.1 known.0 known.1))

    pub return-part : ((span : Span) → is_void s.function.result ≡ true → P (tstmt.Return None span)) →
        ((span : Span) (e : TExpr) → ValueInOrder s e → e.ty ≡ s.function.result → P (tstmt.Return (Some e) span)) →
        (e : Option Expr) (span : Span) → Part s G P (on (perhaps (option_map judged_value e)) (return_row span))
    return-part nothing made e span = part-on (perhaps (option_map judged_value e)) (return_row span)
        (perhaps_part judged_value e (judged-value-good s)) (λ k value. record {
          holds = λ env stands names adds kept. record {
            known = returned_there s P nothing made span k value env env.result stands.result kept;
            names = no-names (MeansIn s) (return_row span k env).names (returned-silent span env.result k env);
          };
        })

    pub for-part : (Q : TStmt → Type 0) → Bounds s G → ((ts : List TDecl) (first c next : Option TExpr) (t : TStmt) →
        AllByRecursion (DeclarationInOrder s) ts →
        Perhaps (ValueInOrder s) first → Perhaps (ConditionInOrder s) c → Perhaps (ValueInOrder s) next → Q t →
        P (tstmt.For ts first c next t)) →
        (ds : List Decl) (first c next : Option Expr) (p : Judged TStmt) → Part s G Q p →
        Part s G P (for_parts ds first c next p)
    for-part Q bounds made ds first c next p body =
        let last = both (perhaps (option_map effect next)) p in
        let turn = both (perhaps (option_map condition c)) last in
        let begun = both (perhaps (option_map effect first)) turn in
        part-on (both (each (map local ds)) begun) (λ (ts, r). sure (tstmt.For ts r.0 r.1.0 r.1.1.0 r.1.1.1))
        (part-both (each (map local ds)) begun (locals-part bounds ds)
        (part-both (perhaps (option_map effect first)) turn (perhaps_part effect first (effect-good s))
        (part-both (perhaps (option_map condition c)) last (perhaps_part condition c (condition-good s))
        (part-both (perhaps (option_map effect next)) p (perhaps_part effect next (effect-good s)) body))))
        (λ v known. part-sure (tstmt.For v.0 v.1.0 v.1.1.0 v.1.1.1.0 v.1.1.1.1)
        (made v.0 v.1.0 v.1.1.0 v.1.1.1.0 v.1.1.1.1 known.0 known.1.0 known.1.1.0 known.1.1.1.0 known.1.1.1.1))
