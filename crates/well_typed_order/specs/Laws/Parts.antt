-- Parts of functions, which may declare locals: what is known of one that breaks no rule has a property, and the names that it adds mean
-- what is there.
use Rattle.std.proofs.Common.{◌≡◌, refl, sym, ◌∙◌, ap, subst, ℕ, ◌+◌, arith, Bool, true, false, List, [], ◌∷◌, ◌++◌, length}
use Rattle.std.proofs.Common.{slice_get, Option, Some, None}
use Rattle.std.specs.Prelude.{if◌then◌else◌}
use Rattle.std.specs.List.{AllByRecursion}
use Rattle.std.specs.Str.{bytes_eq}
use Rattle.std.proofs.lemmas.Option.{same_Some}
use Rattle.c_type_base.specs.declared.typed.LocalInfo.{LocalInfo}
use Rattle.c_type_expr.specs.declared.scopes.Binding.{Binding}
use Rattle.c_type_expr.specs.declared.scopes.Meaning.{Meaning}
use Rattle.c_type_expr.specs.Environment.{Env, in_scope, in_scopes, or_else, with_innermost}
use Rattle.c_type_expr.specs.Outcomes.{Outcome, Judged, behind, sure, both, each, present, perhaps, continued, on}
use Rattle.block_meaning.specs.ExpressionsInOrder.{Scope}
use Rattle.well_typed_order.specs.Standing.{There, MeansIn, EnvIn, TextsIn, Good, LocalsIn, Adds, Names, Stands, Holds, Part}
use Rattle.well_typed_order.specs.Laws.Good.{Pair, front, back, get-front, get-back, texts-front, texts-back}
use Rattle.well_typed_order.specs.Laws.Good.{some-is, none-is, pair-holds, listed-holds}

-- ---- names

pub names-first : (G : Meaning → Type 0) (a b : List Binding) → Names G (a ++ b) → Names G a
names-first G [] b all = tt
names-first G (x ∷ a) b all = (all.0, names-first G a b all.1)

pub names-second : (G : Meaning → Type 0) (a b : List Binding) → Names G (a ++ b) → Names G b
names-second G [] b all = all
names-second G (x ∷ a) b all = names-second G a b all.1

pub names-both : (G : Meaning → Type 0) (a b : List Binding) → Names G a → Names G b → Names G (a ++ b)
names-both G [] b all more = more
names-both G (x ∷ a) b all more = (all.0, names-both G a b all.1 more)

pub no-names : (G : Meaning → Type 0) (a : List Binding) → a ≡ [] → Names G a
no-names G [] is = tt
no-names G (x ∷ a) is = absurd cc

pub any-names : (a : List Binding) → Names (λ m. Unit {0}) a
any-names [] = tt
any-names (x ∷ a) = (tt, any-names a)

by_name : (G : Meaning → Type 0) (x : Binding) (later : Option Binding) (b : Binding) → G x.means →
    (e : Bool) (rest : Option Binding) → or_else (if e then Some x else later) rest ≡ Some b →
    (or_else later rest ≡ Some b → G b.means) → G b.means
by_name G x later b here true rest is more = subst (λ (b : Binding). G b.means) (same_Some x b is) here
by_name G x later b here false rest is more = more is

found_first : (G : Meaning → Type 0) (name : List ℕ) (names scope : List Binding) (rest : Option Binding) (b : Binding) → Names G names →
    ((b : Binding) → or_else (in_scope name scope) rest ≡ Some b → G b.means) →
    or_else (in_scope name (names ++ scope)) rest ≡ Some b → G b.means
found_first G name [] scope rest b all old is = old b is
found_first G name (x ∷ names) scope rest b all old is =
    by_name G x (in_scope name (names ++ scope)) b all.0 (bytes_eq x.name name) rest is
    (found_first G name names scope rest b all.1 old)

pub no-scope : (names : List Binding) → names ++ [] ≡ names
no-scope [] = refl
no-scope (x ∷ names) = ap (λ l. x ∷ l) (no-scope names)

pub found-names : (G : Meaning → Type 0) (name : List ℕ) (names : List Binding) (scopes : List (List Binding)) (b : Binding) →
    Names G names →
    ((b : Binding) → in_scopes name scopes ≡ Some b → G b.means) → in_scopes name (with_innermost names scopes) ≡ Some b → G b.means
found-names G name names [] b all old is =
    found_first G name names [] None b all (λ b none. absurd cc)
    (subst (λ l. or_else (in_scope name l) None ≡ Some b) (sym (no-scope names)) is)
found-names G name names (scope ∷ scopes) b all old is = found_first G name names scope (in_scopes name scopes) b all old is

-- behind a part whose names mean what is there
pub env-named : {A : Type 0} (s : Scope) (env : Env) (o : Outcome A) → Names (MeansIn s) o.names → EnvIn env s → EnvIn (behind o env) s
env-named s env o all inside = record {
  table = record { extends = inside.table.extends; objects = inside.table.objects; complete = inside.table.complete };
  names = λ name b is. found-names (MeansIn s) name o.names env.scopes b all (inside.names name) is;
}

pub stands-behind : {A : Type 0} (s : Scope) (env : Env) (o : Outcome A) → Names (MeansIn s) o.names → Stands env s →
    Stands (behind o env) s
stands-behind s env o all stands = record { here = env-named s env o all stands.here; result = stands.result }

-- ---- what a part adds

locals_front : (s : Scope) (from : ℕ) (a b : List LocalInfo) → LocalsIn s from (a ++ b) → LocalsIn s from a
locals_front s from a b all k l is = all k l (get-front a b k l is)

locals_back : (s : Scope) (from : ℕ) (a b : List LocalInfo) → LocalsIn s from (a ++ b) → LocalsIn s (from + length a) b
locals_back s from a b all k l is =
    let same : from + (length a + k) ≡ from + length a + k = omega arith in
    subst (λ n. slice_get s.function.locals n ≡ Some l) same (all (length a + k) l (get-back a b k (length a + k) refl ∙ is))

-- of two parts, one behind the other
pub record Split {A B : Type 0} (s : Scope) (G : Meaning → Type 0) (env : Env) (a : Outcome A) (b : Outcome B) : Type 0 where
  pub names : Names G (b.names ++ a.names)
  pub texts : TextsIn s env.texts (a.texts ++ b.texts)
  pub locals : LocalsIn s env.locals (a.locals ++ b.locals)
  pub kept : a.faults ++ b.faults ≡ []

module _ {A B : Type 0} {s : Scope} {G : Meaning → Type 0} {env : Env} (a : Outcome A) (b : Outcome B) (split : Split s G env a b) where
  pub first-adds : Adds s env a
  first-adds = record {
    texts = texts-front s env.texts a.texts b.texts split.texts;
    locals = locals_front s env.locals a.locals b.locals split.locals;
  }

  pub second-adds : Adds s (behind a env) b
  second-adds = record {
    texts = texts-back s env.texts a.texts b.texts split.texts;
    locals = locals_back s env.locals a.locals b.locals split.locals;
  }

  pub first-names : Names G a.names
  first-names = names-second G b.names a.names split.names

  pub second-names : Names G b.names
  second-names = names-first G b.names a.names split.names

  pub first-kept : a.faults ≡ []
  first-kept = front a.faults b.faults split.kept

  pub second-kept : b.faults ≡ []
  second-kept = back a.faults b.faults split.kept

-- ---- what may be left out

-- where it is there
abbrev pub Perhaps : {A : Type 0} → (A → Type 0) → Option A → Type 0
Perhaps P None = Unit {0}
Perhaps P (Some v) = P v

present_holds : {A : Type 0} (P : A → Type 0) (o : Option A) → There o P → There (present o) (Perhaps P)
present_holds P None holds = holds
present_holds P (Some v) holds = holds

-- ---- parts that add no name

module _ {s : Scope} {G : Meaning → Type 0} where
  pub part-good : {A : Type 0} {P : A → Type 0} (p : Judged A) → Good s P p → Part s G P p
  part-good p good = record {
    holds = λ env stands names adds kept. record {
      known = good.holds env (record { here = stands.here; more = tt }) kept adds.texts;
      names = no-names (MeansIn s) (p env).names (good.silent env);
    };
  }

  pub part-sure : {A : Type 0} {P : A → Type 0} (v : A) → P v → Part s G P (sure v)
  part-sure v holds = record { holds = λ env stands names adds kept. record { known = holds; names = tt } }

  -- ---- one after another

  on_holds : {A B : Type 0} (P : A → Type 0) (Q : B → Type 0) (p : Judged A) (f : A → Judged B) → Part s G P p →
      ((v : A) → P v → Part s G Q (f v)) → (env : Env) → Stands env s → (o : Option A) → (p env).known ≡ o →
      let c = continued (p env) o f env in Names G c.names → Adds s env c → c.faults ≡ [] → Holds s Q c
  on_holds P Q p f first each env stands None is names adds kept =
      absurd (none-is P (p env).known is
      (first.holds env stands names (record { texts = adds.texts; locals = adds.locals }) kept).known)
  on_holds P Q p f first each env stands (Some v) is names adds kept =
      let a = p env in
      let b = f v (behind a env) in
      let split : Split s G env a b = record { names = names; texts = adds.texts; locals = adds.locals; kept = kept } in
      let one = first.holds env stands (first-names a b split) (first-adds a b split) (first-kept a b split) in
      let next = (each v (some-is P a.known v is one.known)).holds (behind a env) (stands-behind s env a one.names stands)
      (second-names a b split) (second-adds a b split) (second-kept a b split) in
      record { known = next.known; names = names-both (MeansIn s) b.names a.names next.names one.names }

  pub part-on : {A B : Type 0} {P : A → Type 0} {Q : B → Type 0} (p : Judged A) (f : A → Judged B) → Part s G P p →
      ((v : A) → P v → Part s G Q (f v)) → Part s G Q (on p f)
  part-on {P = P} {Q = Q} p f first each = record {
    holds = λ env stands names adds kept. on_holds P Q p f first each env stands (p env).known refl names adds kept;
  }

  pub part-both : {A B : Type 0} {P : A → Type 0} {Q : B → Type 0} (p : Judged A) (q : Judged B) → Part s G P p → Part s G Q q →
      Part s G (Pair P Q) (both p q)
  part-both {P = P} {Q = Q} p q first second = record {
    holds = λ env stands names adds kept.
        let a = p env in
        let b = q (behind a env) in
        let split : Split s G env a b = record { names = names; texts = adds.texts; locals = adds.locals; kept = kept } in
        let one = first.holds env stands (first-names a b split) (first-adds a b split) (first-kept a b split) in
        let next = second.holds (behind a env) (stands-behind s env a one.names stands) (second-names a b split) (second-adds a b split)
        (second-kept a b split) in
        record {
          known = pair-holds P Q a.known b.known one.known next.known;
          names = names-both (MeansIn s) b.names a.names next.names one.names;
        };
  }

  pub part-none : {A : Type 0} {P : A → Type 0} → Part s G (AllByRecursion P) (each [])
  part-none = record { holds = λ env stands names adds kept. record { known = tt; names = tt } }

  pub part-more : {A : Type 0} {P : A → Type 0} (p : Judged A) (ps : List (Judged A)) → Part s G P p →
      Part s G (AllByRecursion P) (each ps) → Part s G (AllByRecursion P) (each (p ∷ ps))
  part-more {P = P} p ps first rest = record {
    holds = λ env stands names adds kept.
        let a = p env in
        let b = each ps (behind a env) in
        let split : Split s G env a b = record { names = names; texts = adds.texts; locals = adds.locals; kept = kept } in
        let one = first.holds env stands (first-names a b split) (first-adds a b split) (first-kept a b split) in
        let next = rest.holds (behind a env) (stands-behind s env a one.names stands) (second-names a b split) (second-adds a b split)
        (second-kept a b split) in
        record {
          known = listed-holds P a.known b.known one.known next.known;
          names = names-both (MeansIn s) b.names a.names next.names one.names;
        };
  }

  -- ---- a part that may be left out

  pub part-perhaps : {A : Type 0} {P : A → Type 0} (p : Judged A) → Part s G P p → Part s G (Perhaps P) (perhaps (Some p))
  part-perhaps {P = P} p part = record {
    holds = λ env stands names adds kept.
        let one = part.holds env stands names (record { texts = adds.texts; locals = adds.locals }) kept in
        record { known = present_holds P (p env).known one.known; names = one.names };
  }

  pub part-left_out : {A : Type 0} {P : A → Type 0} → Part s G (Perhaps P) (perhaps {A = A} None)
  part-left_out = record { holds = λ env stands names adds kept. record { known = tt; names = tt } }
