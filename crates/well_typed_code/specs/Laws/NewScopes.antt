-- What is said of the locals of a scope, by the counts of locals before it and behind it; and the numbers of declarations (this project's
-- own).
use Rattle.std.specs.Prelude.{◌≡◌, ℕ, suc, ◌≤◌, ◌<◌, Bool, true, false, List, [], ◌∷◌, ◌++◌, map, length, Option, Some, None, refl}
use Rattle.std.specs.Prelude.{if◌then◌else◌}
use Rattle.std.specs.List.{Contains}
use Rattle.std.proofs.Common.{◌⊎◌, inl, inr, arith, ap, sym, length-append}
use Rattle.std.proofs.lemmas.List.Elements.{Contains-append_cases}
use Rattle.std.proofs.lemmas.Option.{same_Some}
use Rattle.c_ast.specs.declared.token.Span.{Span}
use Rattle.c_ast.specs.declared.declaration.Decl.{Decl}
use Rattle.c_type_base.specs.declared.ty.Ty.{Ty}
use Rattle.c_type_base.specs.declared.statement.TDecl.{TDecl}
use Rattle.c_type_base.specs.declared.statement.TItem.{TItem, out-TItem}
use Rattle.c_type_base.specs.declared.statement.TStmt.{TStmt, out-TStmt}
use Rattle.c_type_expr.specs.Environment.{Env}
use Rattle.c_type_expr.specs.Faults.{rule, all_kept}
use Rattle.c_type_expr.specs.Outcomes.{behind, each}
use Rattle.c_type_stmt.specs.declared.fitted.Fitted.{Fitted}
use Rattle.c_type_stmt.specs.Declarations.{local, local_info, tdecl, declared_type, is_new, object_rules, declares_local, initialised}
use Rattle.c_type_stmt.specs.Declarations.{init_of}
use Rattle.block_meaning.specs.Statements as meaning
use Rattle.block_meaning.specs.Statements.{local_of, declared_by, declared}
use Rattle.code_relation.specs.Fresh.{AreNew, Fresh, FreshItem, FreshItems}
use Rattle.well_typed_code.specs.Laws.Rising.{Rising, Rising-ordered, Rising-lower, Within, Rising-within, Rising-different}
use Rattle.well_typed_code.specs.Laws.Counted.{Ranged, count_behind, Counted, Rows, AllCounted}
use Rattle.well_typed_code.specs.Laws.Counted.{none, some, Counted-each}

-- ---- what is said of a scope

-- of the numbers between two counts, those in scope are the locals that are declared here
pub record Only (from to : ℕ) (own scope : List ℕ) : Type 0 where
  pub is_own : (k : ℕ) → Contains scope k → from ≤ k → k < to → Contains own k

-- none is in scope
pub record Avoids (from to : ℕ) (scope : List ℕ) : Type 0 where
  pub none : (k : ℕ) → Contains scope k → from ≤ k → k < to → ⊥

-- The locals of a statement have numbers between two counts. It is fresh wherever none of these is in scope.
pub record NewStmt (from to : ℕ) (s : meaning.StmtLayer) : Type 0 where
  pub ordered : from ≤ to
  pub fresh : (scope : List ℕ) → Avoids from to scope → Fresh scope s

-- of an item of a block, wherever its own are in scope
pub record NewItem (from to : ℕ) (i : meaning.ItemLayer) : Type 0 where
  pub declares : Rising from to (declared_by i)
  pub fresh : (scope : List ℕ) → Only from to (declared_by i) scope → FreshItem scope i

-- of the items of a block
pub record NewItems (from to : ℕ) (is : List TItem) : Type 0 where
  pub declares : Rising from to (declared is)
  pub fresh : (scope : List ℕ) → Only from to (declared is) scope → FreshItems scope is

-- the same of typed trees
abbrev pub StmtIn : Ranged TStmt
StmtIn from to s = NewStmt from to (out-TStmt s)

abbrev pub ItemIn : Ranged TItem
ItemIn from to i = NewItem from to (out-TItem i)

abbrev pub DeclIn : Ranged TDecl
DeclIn from to d = Within from to d.local

abbrev pub DeclsIn : Ranged (List TDecl)
DeclsIn from to ds = Rising from to (map local_of ds)

-- none between closer counts
pub avoids-wider : {from to less more : ℕ} {scope : List ℕ} → from ≤ less → more ≤ to → Avoids from to scope → Avoids less more scope
avoids-wider {from} {to} {less} {more} lower upper avoids = record {
  none = λ k has least below. avoids.none k has (omega (arith, lower, least)) (omega (arith, upper, below));
}

-- where none was in scope, new ones from before may come into it
pub avoids-behind : {from middle start to : ℕ} (own : List ℕ) {scope : List ℕ} → Rising from middle own → middle ≤ start →
    Avoids from to scope →
    Avoids start to (own ++ scope)
avoids-behind {from} {middle} {start} {to} own {scope} rising later avoids = record {
  none = λ k has least below. by_part k least below (Contains-append_cases own scope k has);
}
  where
    by_part : (k : ℕ) → start ≤ k → k < to → Contains own k ⊎ Contains scope k → ⊥
    by_part k least below (inl has) =
        let within = Rising-within from middle own k rising has in omega (arith, within.below, later, least)
    by_part k least below (inr has) =
        avoids.none k has (omega (arith, Rising-ordered from middle own rising, later, least)) below

-- numbers between two counts are new where none of these is in scope
pub new-beside : {from to : ℕ} {own scope : List ℕ} → Rising from to own → Avoids from to scope → AreNew scope own
new-beside {from} {to} {own} rising avoids = record {
  different = Rising-different from to own rising;
  not_there = λ k has there.
      let within = Rising-within from to own k rising has in avoids.none k there within.least within.below;
}

-- with them in scope, no others between the counts are
pub only-own : {from to : ℕ} {own scope : List ℕ} → Avoids from to scope → Only from to own (own ++ scope)
only-own {from} {to} {own} {scope} avoids =
    record { is_own = λ k has least below. by_part k least below (Contains-append_cases own scope k has) }
  where
    by_part : (k : ℕ) → from ≤ k → k < to → Contains own k ⊎ Contains scope k → Contains own k
    by_part k least below (inl has) = has
    by_part k least below (inr has) = absurd (avoids.none k has least below)

-- ---- declarations

-- what is known only where rules are kept
pub if-kept : (kept : Bool) (t : Option Ty) (u : Ty) → (if kept then t else None) ≡ Some u → t ≡ Some u
if-kept true t u is = is
if-kept false t u is = absurd cc

-- what a declaration that is known has: its object's type, and the number of the locals before it
record KnownDecl (number : ℕ) (t : Option Ty) (d : TDecl) : Type 0 where
  ty : Ty
  ty_is : t ≡ Some ty
  number_is : d.local ≡ number

known_decl : (number : ℕ) (span : Span) (t : Option Ty) (i : Option (Option Fitted)) (d : TDecl) → tdecl number span t i ≡ Some d →
    KnownDecl number t d
known_decl number span None i d is = absurd cc
known_decl number span (Some t) None d is = absurd cc
known_decl number span (Some t) (Some i) d is =
    record { ty = t; ty_is = refl; number_is = ap (λ (d : TDecl). d.local) (sym (same_Some _ d is)) }

-- what has a type declares one local
pub one-local : (name : List ℕ) (span : Span) (t : Option Ty) (u : Ty) → t ≡ Some u → length (local_info name span t) ≡ 1
one-local name span t u is = ap (λ t. length (local_info name span t)) is

local_counted : (d : Decl) → Counted DeclIn (local d)
local_counted d = record { counts = λ env v is. by_known env v is }
  where
    by_known : (env : Env) (v : TDecl) → (local d env).known ≡ Some v → DeclIn env.locals (count_behind (local d env) env) v
    by_known env v is =
        let t = declared_type d env in
        let here = behind t env in
        let rules = rule 10 (is_new here d.name) ∷ object_rules here.structs t.known in
        let b = declares_local d.name d.span rules t.known here in
        let i = initialised false t.known (init_of d) (behind b here) in
        let known = known_decl here.locals d.span b.known i.known v is in
        let type_is : t.known ≡ Some known.ty = if-kept (all_kept rules) t.known known.ty known.ty_is in
        let one : length b.locals ≡ 1 = one-local d.name d.span t.known known.ty type_is in
        record {
          least = omega (arith, known.number_is);
          below = omega (arith, known.number_is, one, length-append t.locals (b.locals ++ i.locals), length-append b.locals i.locals);
        }

decl_rows : Rows DeclIn DeclsIn
decl_rows = record {
  none = λ from. omega arith;
  more = λ from middle to d ds one all. (one.least, rising_from d.local middle to (map local_of ds) one.below all);
}
  where
    rising_from : (k middle to : ℕ) (ks : List ℕ) → k < middle → Rising middle to ks → Rising (suc k) to ks
    rising_from k middle to ks less rising = Rising-lower (suc k) middle to ks (omega (arith, less)) rising

locals_all : (ds : List Decl) → AllCounted DeclIn (map local ds)
locals_all [] = none
locals_all (d ∷ ds) = some (local_counted d) (locals_all ds)

-- the locals of declarations are numbered one after another
pub locals-counted : (ds : List Decl) → Counted DeclsIn (each (map local ds))
locals-counted ds = Counted-each decl_rows (map local ds) (locals_all ds)
