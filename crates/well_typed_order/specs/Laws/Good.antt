-- Judgements in order: what is known without a fault has a property, where the names in scope mean what is there.
use Rattle.std.proofs.Common.{◌≡◌, refl, ◌∙◌, ap, subst, ℕ, zero, suc, ◌+◌, arith, List, [], ◌∷◌, ◌++◌, length, ◌<◌}
use Rattle.std.proofs.Common.{slice_get, Option, Some, None}
use Rattle.std.specs.List.{AllByRecursion}
use Rattle.c_type_base.specs.declared.typed.StructInfo.{StructInfo}
use Rattle.c_type_expr.specs.declared.scopes.Binding.{Binding}
use Rattle.c_type_expr.specs.Environment.{Env, in_scopes, with_innermost}
use Rattle.c_type_expr.specs.Outcomes.{Outcome, Judged, behind, sure, pair, both, listed, each, continued, on, met, either}
use Rattle.block_meaning.specs.ExpressionsInOrder.{Scope, file_of}
use Rattle.block_meaning.specs.Locals.{text_of}
use Rattle.well_typed_order.specs.Standing.{There, EnvIn, TextsIn, Silent, Inside, GoodIf, Good}

pub good-if : {A : Type 0} {M : List StructInfo → Type 0} {s : Scope} {P : A → Type 0} (p : Judged A) → Good s P p → GoodIf M s P p
good-if p good = record {
  silent = good.silent;
  holds = λ env inside. good.holds env (record { here = inside.here; more = tt });
}

-- where less holds
pub good-from : {A : Type 0} (M N : List StructInfo → Type 0) {s : Scope} {P : A → Type 0} (p : Judged A) →
    ((env : Env) → EnvIn env s → N env.structs → M env.structs) → GoodIf M s P p → GoodIf N s P p
good-from M N p less good = record {
  silent = good.silent;
  holds = λ env inside. good.holds env (record { here = inside.here; more = less env inside.here inside.more });
}

-- ---- lists

pub front : {A : Type 0} (a b : List A) → a ++ b ≡ [] → a ≡ []
front [] b is = refl
front (x ∷ xs) b is = absurd cc

pub back : {A : Type 0} (a b : List A) → a ++ b ≡ [] → b ≡ []
back [] b is = is
back (x ∷ xs) b is = absurd cc

pub none-after : {A : Type 0} (a b : List A) → a ≡ [] → b ≡ [] → a ++ b ≡ []
none-after a b is its = ap (λ a. a ++ b) is ∙ its

pub get-front : {A : Type 0} (a b : List A) (k : ℕ) (x : A) → slice_get a k ≡ Some x → slice_get (a ++ b) k ≡ Some x
get-front [] b k x is = absurd cc
get-front (y ∷ a) b zero x is = is
get-front (y ∷ a) b (suc k) x is = get-front a b k x is

pub get-back : {A : Type 0} (a b : List A) (k n : ℕ) → n ≡ length a + k → slice_get (a ++ b) n ≡ slice_get b k
get-back [] b k n is = let same : n ≡ k = omega (arith, is) in ap (slice_get b) same
get-back (y ∷ a) b k zero is = absurd (omega (arith, is))
get-back (y ∷ a) b k (suc n) is = get-back a b k n (omega (arith, is))

pub get-within : {A : Type 0} (xs : List A) (k : ℕ) (x : A) → slice_get xs k ≡ Some x → k < length xs
get-within [] k x is = absurd cc
get-within (y ∷ xs) zero x is = omega arith
get-within (y ∷ xs) (suc k) x is = let less = get-within xs k x is in omega (arith, less)

pub texts-front : (s : Scope) (from : ℕ) (a b : List (List ℕ)) → TextsIn s from (a ++ b) → TextsIn s from a
texts-front s from a b all k bytes is = all k bytes (get-front a b k bytes is)

pub texts-back : (s : Scope) (from : ℕ) (a b : List (List ℕ)) → TextsIn s from (a ++ b) → TextsIn s (from + length a) b
texts-back s from a b all k bytes is =
    let same : from + (length a + k) ≡ from + length a + k = omega arith in
    subst (λ n. text_of (file_of s) n ≡ Some bytes) same (all (length a + k) bytes (get-back a b k (length a + k) refl ∙ is))

-- ---- behind a construct that adds no name

scopes_same : (name : List ℕ) (names : List Binding) (scopes : List (List Binding)) (b : Binding) → names ≡ [] →
    in_scopes name (with_innermost names scopes) ≡ Some b → in_scopes name scopes ≡ Some b
scopes_same name names scopes b silent is =
    by_scopes scopes (subst (λ names. in_scopes name (with_innermost names scopes) ≡ Some b) silent is)
  where
    by_scopes : (scopes : List (List Binding)) → in_scopes name (with_innermost [] scopes) ≡ Some b → in_scopes name scopes ≡ Some b
    by_scopes [] is = absurd cc
    by_scopes (scope ∷ scopes) is = is

env_behind : {A : Type 0} (s : Scope) (env : Env) (o : Outcome A) → o.names ≡ [] → EnvIn env s → EnvIn (behind o env) s
env_behind s env o silent inside = record {
  table = record { extends = inside.table.extends; objects = inside.table.objects; complete = inside.table.complete };
  names = λ name b is. inside.names name b (scopes_same name o.names env.scopes b silent is);
}

pub env-behind : {A : Type 0} {M : List StructInfo → Type 0} (s : Scope) (env : Env) (o : Outcome A) → o.names ≡ [] →
    Inside M env s → Inside M (behind o env) s
env-behind s env o silent inside = record { here = env_behind s env o silent inside.here; more = inside.more }

-- ---- one after another

pub some-is : {A : Type 0} (P : A → Type 0) (o : Option A) (v : A) → o ≡ Some v → There o P → P v
some-is P o v is holds = subst (λ o. There o P) is holds

pub none-is : {A : Type 0} (P : A → Type 0) (o : Option A) → o ≡ None → There o P → ⊥
none-is P o is holds = subst (λ o. There o P) is holds

on_silent : {A B : Type 0} (a : Outcome A) (f : A → Judged B) (env : Env) → a.names ≡ [] → ((v : A) → Silent (f v)) → (o : Option A) →
    (continued a o f env).names ≡ []
on_silent a f env silent each None = silent
on_silent a f env silent each (Some v) = none-after (f v (behind a env)).names a.names (each v (behind a env)) silent

pub silent-on : {A B : Type 0} (p : Judged A) (f : A → Judged B) → Silent p → ((v : A) → Silent (f v)) → Silent (on p f)
silent-on p f first each env = on_silent (p env) f env (first env) each (p env).known

on_holds : {A B : Type 0} {M : List StructInfo → Type 0} (s : Scope) (P : A → Type 0) (Q : B → Type 0) (a : Outcome A) (f : A →
    Judged B) (env : Env) → Inside M env s →
    a.names ≡ [] → (a.faults ≡ [] → TextsIn s env.texts a.texts → There a.known P) → ((v : A) → P v → GoodIf M s Q (f v)) → (o : Option A) →
    a.known ≡ o → (continued a o f env).faults ≡ [] → TextsIn s env.texts (continued a o f env).texts → There (continued a o f env).known Q
on_holds s P Q a f env inside silent first each None is kept texts = absurd (none-is P a.known is (first kept texts))
on_holds s P Q a f env inside silent first each (Some v) is kept texts =
    let b = f v (behind a env) in
    let holds = some-is P a.known v is (first (front a.faults b.faults kept) (texts-front s env.texts a.texts b.texts texts)) in
    (each v holds).holds (behind a env) (env-behind s env a silent inside) (back a.faults b.faults kept)
    (texts-back s env.texts a.texts b.texts texts)

pub good-on : {A B : Type 0} {M : List StructInfo → Type 0} {s : Scope} {P : A → Type 0} {Q : B → Type 0} (p : Judged A) (f : A →
    Judged B) → GoodIf M s P p →
    ((v : A) → Silent (f v)) → ((v : A) → P v → GoodIf M s Q (f v)) → GoodIf M s Q (on p f)
good-on {s = s} {P = P} {Q = Q} p f first silent each = record {
  silent = silent-on p f first.silent silent;
  holds = λ env inside kept texts. on_holds s P Q (p env) f env inside (first.silent env) (first.holds env inside) each (p env).known refl
      kept texts;
}

pub silent-both : {A B : Type 0} (p : Judged A) (q : Judged B) → Silent p → Silent q → Silent (both p q)
silent-both p q first second env = none-after (q (behind (p env) env)).names (p env).names (second (behind (p env) env)) (first env)

pub pair-holds : {A B : Type 0} (P : A → Type 0) (Q : B → Type 0) (a : Option A) (b : Option B) → There a P → There b Q →
    There (pair a b) (λ x. P x.0 × Q x.1)
pair-holds P Q None b first second = first
pair-holds P Q (Some a) None first second = second
pair-holds P Q (Some a) (Some b) first second = (first, second)

abbrev pub Pair : {A B : Type 0} → (A → Type 0) → (B → Type 0) → A × B → Type 0
Pair P Q x = P x.0 × Q x.1

pub good-both : {A B : Type 0} {M : List StructInfo → Type 0} {s : Scope} {P : A → Type 0} {Q : B →
    Type 0} (p : Judged A) (q : Judged B) → GoodIf M s P p → GoodIf M s Q q →
    GoodIf M s (Pair P Q) (both p q)
good-both {s = s} {P = P} {Q = Q} p q first second = record {
  silent = silent-both p q first.silent second.silent;
  holds = λ env inside kept texts.
      let a = p env in
      let b = q (behind a env) in
      pair-holds P Q a.known b.known (first.holds env inside (front a.faults b.faults kept) (texts-front s env.texts a.texts b.texts texts))
      (second.holds (behind a env) (env-behind s env a (first.silent env) inside) (back a.faults b.faults kept)
      (texts-back s env.texts a.texts b.texts texts));
}

pub listed-holds : {A : Type 0} (P : A → Type 0) (a : Option A) (b : Option (List A)) → There a P → There b (AllByRecursion P) →
    There (listed a b) (AllByRecursion P)
listed-holds P None b first second = first
listed-holds P (Some a) None first second = second
listed-holds P (Some a) (Some b) first second = (first, second)

pub good-sure : {A : Type 0} {M : List StructInfo → Type 0} {s : Scope} {P : A → Type 0} (a : A) → P a → GoodIf M s P (sure a)
good-sure a holds = record { silent = λ env. refl; holds = λ env inside kept texts. holds }

pub good-none : {A : Type 0} {M : List StructInfo → Type 0} {s : Scope} {P : A → Type 0} → GoodIf M s (AllByRecursion P) (each [])
good-none = record { silent = λ env. refl; holds = λ env inside kept texts. tt }

pub good-more : {A : Type 0} {M : List StructInfo → Type 0} {s : Scope} {P : A → Type 0} (p : Judged A) (ps : List (Judged A)) →
    GoodIf M s P p →
    GoodIf M s (AllByRecursion P) (each ps) → GoodIf M s (AllByRecursion P) (each (p ∷ ps))
good-more {s = s} {P = P} p ps first rest = record {
  silent = λ env. none-after (each ps (behind (p env) env)).names (p env).names (rest.silent (behind (p env) env)) (first.silent env);
  holds = λ env inside kept texts.
      let a = p env in
      let b = each ps (behind a env) in
      listed-holds P a.known b.known (first.holds env inside (front a.faults b.faults kept) (texts-front s env.texts a.texts b.texts texts))
      (rest.holds (behind a env) (env-behind s env a (first.silent env) inside) (back a.faults b.faults kept)
      (texts-back s env.texts a.texts b.texts texts));
}

met_silent : {A B : Type 0} (a : Outcome A) (q : Judged B) (f : A → Judged B) (env : Env) → a.names ≡ [] → Silent q →
    ((v : A) → Silent (f v)) → (o : Option A) → (met a o q f env).names ≡ []
met_silent a q f env silent other each None = none-after (q (behind a env)).names a.names (other (behind a env)) silent
met_silent a q f env silent other each (Some v) = none-after (f v (behind a env)).names a.names (each v (behind a env)) silent

pub silent-either : {A B : Type 0} (p : Judged A) (q : Judged B) (f : A → Judged B) → Silent p → Silent q → ((v : A) → Silent (f v)) →
    Silent (either p q f)
silent-either p q f first other each env = met_silent (p env) q f env (first env) other each (p env).known

there_any : {A : Type 0} (P : A → Type 0) (o : Option A) → There o P → There o (λ (a : A). Unit {0})
there_any P None holds = holds
there_any P (Some a) holds = tt

-- where nothing is asked of what is known
pub good-any : {A : Type 0} {M : List StructInfo → Type 0} {s : Scope} {P : A → Type 0} (p : Judged A) → GoodIf M s P p →
    GoodIf M s (λ (a : A). Unit {0}) p
good-any {P = P} p good = record {
  silent = good.silent;
  holds = λ env inside kept texts. there_any P (p env).known (good.holds env inside kept texts);
}

either_holds : {A B : Type 0} {M : List StructInfo → Type 0} (s : Scope) (P : A → Type 0) (Q : B →
    Type 0) (a : Outcome A) (q : Judged B) (f : A → Judged B) (env : Env) →
    Inside M env s → a.names ≡ [] → (a.faults ≡ [] → TextsIn s env.texts a.texts → There a.known P) →
    ((v : A) → P v → GoodIf M s Q (f v)) → (o : Option A) → a.known ≡ o → (met a o q f env).faults ≡ [] →
    TextsIn s env.texts (met a o q f env).texts → There (met a o q f env).known Q
either_holds s P Q a q f env inside silent first each None is kept texts =
    let b = q (behind a env) in
    absurd (none-is P a.known is (first (front a.faults b.faults kept) (texts-front s env.texts a.texts b.texts texts)))
either_holds s P Q a q f env inside silent first each (Some v) is kept texts =
    let b = f v (behind a env) in
    let holds = some-is P a.known v is (first (front a.faults b.faults kept) (texts-front s env.texts a.texts b.texts texts)) in
    (each v holds).holds (behind a env) (env-behind s env a silent inside) (back a.faults b.faults kept)
    (texts-back s env.texts a.texts b.texts texts)

pub good-either : {A B : Type 0} {M : List StructInfo → Type 0} {s : Scope} {P : A → Type 0} {Q : B →
    Type 0} (p : Judged A) (q : Judged B) (f : A → Judged B) →
    GoodIf M s P p → Silent q → ((v : A) → Silent (f v)) → ((v : A) → P v → GoodIf M s Q (f v)) → GoodIf M s Q (either p q f)
good-either {s = s} {P = P} {Q = Q} p q f first other silent each = record {
  silent = silent-either p q f first.silent other silent;
  holds = λ env inside kept texts. either_holds s P Q (p env) q f env inside (first.silent env) (first.holds env inside) each
      (p env).known refl kept texts;
}

-- what breaks a rule has each property where it breaks none
pub good-never : {A : Type 0} {M : List StructInfo → Type 0} {s : Scope} {P : A → Type 0} (p : Judged A) → Silent p → ((env : Env) →
    (p env).faults ≡ [] → ⊥) →
    GoodIf M s P p
good-never {P = P} p silent breaks = record {
  silent = silent;
  holds = λ env inside kept texts. absurd (breaks env kept);
}
