-- What is known of a construct has a property, by the counts of the function's locals before it and behind it (this project's own).
use Rattle.std.specs.Prelude.{◌≡◌, ℕ, ◌+◌, ◌≤◌, List, [], ◌∷◌, ◌++◌, length, Option, Some, None, refl}
use Rattle.std.proofs.Common.{arith, sym, subst, length-append}
use Rattle.std.proofs.lemmas.Option.{same_Some}
use Rattle.c_type_base.specs.declared.typed.LocalInfo.{LocalInfo}
use Rattle.c_type_expr.specs.Environment.{Env}
use Rattle.c_type_expr.specs.Outcomes.{Outcome, Judged, behind, sure, pair, both, listed, each, present, perhaps, continued, on}

-- a property by two counts
abbrev pub Ranged : Type 0 → Type 1
Ranged A = ℕ → ℕ → A → Type 0

-- the count of locals behind a construct
abbrev pub count_behind : {A : Type 0} → Outcome A → Env → ℕ
count_behind o env = env.locals + length o.locals

-- so it is wherever the construct stands and is known
pub record Counted {A : Type 0} (P : Ranged A) (p : Judged A) : Type 0 where
  pub counts : (env : Env) (v : A) → (p env).known ≡ Some v → P env.locals (count_behind (p env) env) v

-- the counts are in order, and no more is said
abbrev pub Some_count : {A : Type 0} → Ranged A
Some_count from to v = from ≤ to

-- so much holds of anything
pub Counted-any : {A : Type 0} (p : Judged A) → Counted Some_count p
Counted-any p = record { counts = λ env v is. omega arith }

-- two parts, the second from where the first ended
pub record Parts {A B : Type 0} (P : Ranged A) (Q : Ranged B) (from to : ℕ) (v : A × B) : Type 0 where
  pub middle : ℕ
  pub first : P from middle v.0
  pub second : Q middle to v.1

-- the count behind two parts
after_both : {A B : Type 0} (P : Ranged B) (from : ℕ) (env : Env) (a : Outcome A) (b : List LocalInfo) (v : B) →
    P from (env.locals + length a.locals + length b) v → P from (env.locals + length (a.locals ++ b)) v
after_both P from env a b v holds =
    let same : env.locals + length a.locals + length b ≡ env.locals + length (a.locals ++ b) =
    omega (arith, length-append a.locals b) in
    subst (λ n. P from n v) same holds

-- ---- two parts

paired : {A B : Type 0} (a : Option A) (b : Option B) (v : A × B) → pair a b ≡ Some v → (a ≡ Some v.0) × (b ≡ Some v.1)
paired None b v is = absurd cc
paired (Some x) None v is = absurd cc
paired (Some x) (Some y) v is = let same : (x, y) ≡ v = same_Some (x, y) v is in
    subst (λ v. (Some x ≡ Some v.0) × (Some y ≡ Some v.1)) same (refl, refl)

-- one part and then another
pub Counted-both : {A B : Type 0} {P : Ranged A} {Q : Ranged B} (p : Judged A) (q : Judged B) → Counted P p → Counted Q q →
    Counted (Parts P Q) (both p q)
Counted-both {P = P} {Q = Q} p q first second = record {
  counts = λ env v is.
      let known = paired (p env).known (q (behind (p env) env)).known v is in
      record {
        middle = count_behind (p env) env;
        first = first.counts env v.0 known.0;
        second = after_both Q (count_behind (p env) env) env (p env) (q (behind (p env) env)).locals v.1
            (second.counts (behind (p env) env) v.1 known.1);
      };
}

-- ---- several parts in a row

-- a property of lists, from one of their elements
pub record Rows {A : Type 0} (P : Ranged A) (L : Ranged (List A)) : Type 0 where
  pub none : (from : ℕ) → L from from []
  pub more : (from middle to : ℕ) (v : A) (vs : List A) → P from middle v → L middle to vs → L from to (v ∷ vs)

-- so it is for each of a list
pub data AllCounted {A : Type 0} (P : Ranged A) : List (Judged A) → Type 0 where
  none : AllCounted P []
  some : {p : Judged A} {ps : List (Judged A)} → Counted P p → AllCounted P ps → AllCounted P (p ∷ ps)

-- what a list that is known is made of
pub record Headed {A : Type 0} (a : Option A) (as' : Option (List A)) (vs : List A) : Type 0 where
  pub head : A
  pub tail : List A
  pub vs_are : vs ≡ head ∷ tail
  pub head_is : a ≡ Some head
  pub tail_is : as' ≡ Some tail

-- a list is known where its head and its tail are
pub headed : {A : Type 0} (a : Option A) (as' : Option (List A)) (vs : List A) → listed a as' ≡ Some vs → Headed a as' vs
headed None as' vs is = absurd cc
headed (Some x) None vs is = absurd cc
headed (Some x) (Some xs) vs is =
    record { head = x; tail = xs; vs_are = sym (same_Some (x ∷ xs) vs is); head_is = refl; tail_is = refl }

none_counts : {A : Type 0} {P : Ranged A} {L : Ranged (List A)} → Rows P L → (from : ℕ) (vs : List A) → Some [] ≡ Some vs →
    L from (from + 0) vs
none_counts {A} {L = L} rows from vs is =
    let same : from ≡ from + 0 = omega arith in
    subst (λ to. L from to vs) same (subst (λ vs. L from from vs) (same_Some [] vs is) (rows.none from))

row_counted : {A : Type 0} {P : Ranged A} {L : Ranged (List A)} → Rows P L → (p : Judged A) (ps : List (Judged A)) → Counted P p →
    Counted L (each ps) → Counted L (each (p ∷ ps))
row_counted {A} {P} {L} rows p ps one all = record { counts = more }
  where
    more : (env : Env) (vs : List A) → (each (p ∷ ps) env).known ≡ Some vs → L env.locals (count_behind (each (p ∷ ps) env) env) vs
    more env vs is =
        let a = p env in
        let b = each ps (behind a env) in
        let parts = headed a.known b.known vs is in
        subst (λ vs. L env.locals (env.locals + length (a.locals ++ b.locals)) vs) (sym parts.vs_are)
        (after_both L env.locals env a b.locals (parts.head ∷ parts.tail)
        (rows.more env.locals (count_behind a env) (count_behind b (behind a env)) parts.head parts.tail
        (one.counts env parts.head parts.head_is) (all.counts (behind a env) parts.tail parts.tail_is)))

-- several parts, from what holds of one
pub Counted-each : {A : Type 0} {P : Ranged A} {L : Ranged (List A)} → Rows P L → (ps : List (Judged A)) → AllCounted P ps →
    Counted L (each ps)
Counted-each rows [] none = record { counts = λ env vs is. none_counts rows env.locals vs is }
Counted-each {A} {P} {L} rows (p ∷ ps) (some one all) = row_counted rows p ps one (Counted-each rows ps all)

-- ---- a part, and what is said of it

-- a part, and then what is said of it where it is known
pub Counted-on : {A B : Type 0} {P : Ranged A} {Q : Ranged B} (p : Judged A) (f : A → Judged B) → Counted P p →
    ((v : A) (env : Env) (w : B) → (f v env).known ≡ Some w → (from middle to : ℕ) → middle ≤ to → P from middle v → Q from to w) →
    Counted Q (on p f)
Counted-on {A} {B} {P} {Q} p f first next = record { counts = λ env w is. by_known env w (p env).known refl is }
  where
    by_known : (env : Env) (w : B) (o : Option A) → (p env).known ≡ o → (continued (p env) o f env).known ≡ Some w →
        Q env.locals (count_behind (continued (p env) o f env) env) w
    by_known env w None known is = absurd cc
    by_known env w (Some v) known is =
        let b = f v (behind (p env) env) in
        next v (behind (p env) env) w is env.locals (count_behind (p env) env) (env.locals + length ((p env).locals ++ b.locals))
        (omega (arith, length-append (p env).locals b.locals)) (first.counts env v known)

-- what is made of it at once
pub Counted-made : {A B : Type 0} {P : Ranged A} {Q : Ranged B} (p : Judged A) (f : A → B) → Counted P p →
    ((v : A) (from middle to : ℕ) → middle ≤ to → P from middle v → Q from to (f v)) → Counted Q (on p (λ v. sure (f v)))
Counted-made {A} {B} {P} {Q} p f first next =
    Counted-on p (λ v. sure (f v)) first (λ v env w is from middle to less holds.
    subst (λ w. Q from to w) (same_Some (f v) w is) (next v from middle to less holds))

-- ---- a part that may be left out

-- of a part that is left out no more is said
abbrev pub Perhaps : {A : Type 0} → Ranged A → Ranged (Option A)
Perhaps P from to None = from ≤ to
Perhaps P from to (Some v) = P from to v

-- left out, and there
pub Counted-none : {A : Type 0} {P : Ranged A} → Counted (Perhaps P) (perhaps {A = A} None)
Counted-none {A} {P} = record {
  counts = λ env v is. subst (λ v. Perhaps P env.locals (env.locals + 0) v) (same_Some None v is) (omega arith);
}

there : {A : Type 0} (P : Ranged A) (o : Option A) (from to : ℕ) → ((v : A) → o ≡ Some v → P from to v) → (w : Option A) →
    present o ≡ Some w → Perhaps P from to w
there P None from to holds w is = absurd cc
there P (Some v) from to holds w is = subst (λ w. Perhaps P from to w) (same_Some (Some v) w is) (holds v refl)

pub Counted-some : {A : Type 0} {P : Ranged A} (p : Judged A) → Counted P p → Counted (Perhaps P) (perhaps (Some p))
Counted-some {P = P} p first = record {
  counts = λ env w is. there P (p env).known env.locals (count_behind (p env) env) (first.counts env) w is;
}
