-- A walk that passes the parts of a construct passes the construct.
use Rattle.std.proofs.Common.{◌≡◌, refl, sym, ◌∙◌, ap, ℕ, List, [], ◌∷◌, ◌++◌, Option, Some, None, append_assoc, append-nil, length-append}
use Rattle.c_ast.specs.declared.token.Span.{Span}
use Rattle.c_type_expr.specs.declared.fault.Fault.{Fault}
use Rattle.c_type_expr.specs.declared.walk.Walk.{Walk}
use Rattle.c_type_expr.specs.Faults.{Rule, rule, fault, broken, all_kept}
use Rattle.c_type_expr.specs.Outcomes.{Outcome, Judged, behind, joined, sure, not_known, pair, both, listed, each, present, perhaps}
use Rattle.c_type_expr.specs.Outcomes.{continued, on, met, either, asked, ruled, only_kept}
use Rattle.c_type_expr.specs.Operators.{breaks}
use Rattle.c_type_expr.specs.Least.{earlier, first_with}
use Rattle.c_type_expr.specs.Walked.{env_of, blamed, passed_by, Walked, Followed, Met}
use Rattle.std.specs.Prelude.{if◌then◌else◌, true, false, Bool}

-- ---- the first fault

pub first_with-append : (f : Option Fault) (xs ys : List Fault) → first_with f (xs ++ ys) ≡ first_with (first_with f xs) ys
first_with-append f [] ys = refl
first_with-append f (x ∷ xs) ys = first_with-append (Some (earlier f x)) xs ys

-- two lists of rules, the one after the other
pub blamed_twice : (w : Walk) (span : Span) (number : ℕ) (kept : Bool) (rs : List Rule) →
    blamed (blamed w (broken span (rule number kept ∷ []))) (broken span rs) ≡ blamed w (broken span (rule number kept ∷ rs))
blamed_twice w span number true rs = refl
blamed_twice w span number false rs = refl

-- ---- one outcome, and another

env_behind : {A : Type 0} (w : Walk) (o : Outcome A) → behind o (env_of w) ≡ env_of (passed_by w o)
env_behind w o = λ i. record (env_of (passed_by w o)) {
  texts = sym (length-append w.texts o.texts) i;
  locals = sym (length-append w.locals o.locals) i;
}

passed_joined : {A B C : Type 0} (w : Walk) (a : Outcome A) (b : Outcome B) (k : Option C) →
    passed_by w (joined a b k) ≡ passed_by (passed_by w a) b
passed_joined w a b k = λ i. record w {
  scopes = record w.scopes { inner = append_assoc b.names a.names w.scopes.inner i };
  texts = sym (append_assoc w.texts a.texts b.texts) i;
  locals = sym (append_assoc w.locals a.locals b.locals) i;
  first = first_with-append w.first a.faults b.faults i;
}

-- where it has faults alone
passed_faults : {A : Type 0} (w : Walk) (faults : List Fault) (k : Option A) →
    blamed w faults ≡ passed_by w (record { faults = faults; texts = []; locals = []; names = []; known = k })
passed_faults w faults k = λ i. record (blamed w faults) {
  texts = sym (append-nil w.texts) i;
  locals = sym (append-nil w.locals) i;
}

pub judged_next : {A B : Type 0} (w w1 : Walk) (o : Outcome A) (q : Judged B) → w1 ≡ passed_by w o →
    q (env_of w1) ≡ q (behind o (env_of w))
judged_next w w1 o q is = ap (λ x. q (env_of x)) is ∙ ap q (sym (env_behind w o))

pub after_two : {A B C : Type 0} (w w1 w2 : Walk) (o : Outcome A) (q : Judged B) (k : Option C) → w1 ≡ passed_by w o →
    w2 ≡ passed_by w1 (q (env_of w1)) → w2 ≡ passed_by w (joined o (q (behind o (env_of w))) k)
after_two w w1 w2 o q k is next =
    next ∙ ap (λ x. passed_by x (q (env_of w1))) is
    ∙ ap (passed_by (passed_by w o)) (judged_next w w1 o q is)
    ∙ sym (passed_joined w o (q (behind o (env_of w))) k)

-- ---- constructs

pub walked_sure : {A : Type 0} (w : Walk) (a : A) → Walked (sure a) w w (Some a)
walked_sure w a = record { after_is = passed_faults w [] (Some a); known_is = refl }

pub walked_unknown : {A : Type 0} (w : Walk) → Walked {A = A} not_known w w None
walked_unknown {A} w = record { after_is = passed_faults {A = A} w [] None; known_is = refl }

pub walked_ruled : {A : Type 0} (span : Span) (rs : List Rule) (a : A) (w w' : Walk) → w' ≡ blamed w (broken span rs) →
    Walked (ruled span rs a) w w' (Some a)
walked_ruled span rs a w w' is = record { after_is = is ∙ passed_faults w (broken span rs) (Some a); known_is = refl }

pub walked_asked : {A : Type 0} (span : Span) (rs : List Rule) (w w' : Walk) → w' ≡ blamed w (broken span rs) →
    Walked {A = A} (asked span rs) w w' None
walked_asked {A} span rs w w' is = record { after_is = is ∙ passed_faults {A = A} w (broken span rs) None; known_is = refl }

pub walked_breaks : {A : Type 0} (number : ℕ) (span : Span) (w w' : Walk) → w' ≡ blamed w (broken span (rule number false ∷ [])) →
    Walked {A = A} (breaks number span) w w' None
walked_breaks {A} number span w w' is = record { after_is = is ∙ passed_faults {A = A} w (fault number span ∷ []) None; known_is = refl }

pub walked_only : {A : Type 0} (span : Span) (rs : List Rule) (a : A) (w w' : Walk) (k : Option A) → w' ≡ blamed w (broken span rs) →
    k ≡ (if all_kept rs then Some a else None) →
    Walked (only_kept span rs a) w w' k
walked_only span rs a w w' k is known = record { after_is = is ∙ passed_faults w (broken span rs) k; known_is = known }

-- ---- constructs of parts

pub walked_both : {A B : Type 0} (p : Judged A) (q : Judged B) (w w1 w2 : Walk) (a : Option A) (b : Option B) →
    Walked p w w1 a → Walked q w1 w2 b → Walked (both p q) w w2 (pair a b)
walked_both p q w w1 w2 a b first second =
    let next = judged_next w w1 (p (env_of w)) q first.after_is in
    record {
      after_is = after_two w w1 w2 (p (env_of w)) q (pair (p (env_of w)).known (q (behind (p (env_of w)) (env_of w))).known)
          first.after_is second.after_is;
      known_is = ap (λ k. pair k b) first.known_is ∙ ap (pair (p (env_of w)).known) (second.known_is ∙ ap (λ o. o.known) next);
    }

pub walked_each : {A : Type 0} (p : Judged A) (ps : List (Judged A)) (w w1 w2 : Walk) (a : Option A) (as' : Option (List A)) →
    Walked p w w1 a → Walked (each ps) w1 w2 as' → Walked (each (p ∷ ps)) w w2 (listed a as')
walked_each p ps w w1 w2 a as' first second =
    let next = judged_next w w1 (p (env_of w)) (each ps) first.after_is in
    record {
      after_is = after_two w w1 w2 (p (env_of w)) (each ps)
          (listed (p (env_of w)).known (each ps (behind (p (env_of w)) (env_of w))).known) first.after_is second.after_is;
      known_is = ap (λ k. listed k as') first.known_is
          ∙ ap (listed (p (env_of w)).known) (second.known_is ∙ ap (λ o. o.known) next);
    }

pub walked_on : {A B : Type 0} (p : Judged A) (f : A → Judged B) (w w1 w2 : Walk) (v : A) (b : Option B) →
    Walked p w w1 (Some v) → Walked (f v) w1 w2 b → Walked (on p f) w w2 b
walked_on p f w w1 w2 v b first second =
    let next = judged_next w w1 (p (env_of w)) (f v) first.after_is in
    let opened = ap (λ k. continued (p (env_of w)) k f (env_of w)) (sym first.known_is) in
    record {
      after_is = after_two w w1 w2 (p (env_of w)) (f v) (f v (behind (p (env_of w)) (env_of w))).known first.after_is second.after_is
          ∙ ap (passed_by w) (sym opened);
      known_is = second.known_is ∙ ap (λ o. o.known) next ∙ ap (λ o. o.known) (sym opened);
    }

pub walked_on_none : {A B : Type 0} (p : Judged A) (f : A → Judged B) (w w1 : Walk) → Walked p w w1 None → Walked (on p f) w w1 None
walked_on_none p f w w1 first =
    let opened = ap (λ k. continued (p (env_of w)) k f (env_of w)) (sym first.known_is) in
    record { after_is = first.after_is ∙ ap (passed_by w) (sym opened); known_is = ap (λ o. o.known) (sym opened) }

pub walked_either : {A B : Type 0} (p : Judged A) (q : Judged B) (f : A → Judged B) (w w1 w2 : Walk) (v : A) (b : Option B) →
    Walked p w w1 (Some v) → Walked (f v) w1 w2 b → Walked (either p q f) w w2 b
walked_either p q f w w1 w2 v b first second =
    let next = judged_next w w1 (p (env_of w)) (f v) first.after_is in
    let opened = ap (λ k. met (p (env_of w)) k q f (env_of w)) (sym first.known_is) in
    record {
      after_is = after_two w w1 w2 (p (env_of w)) (f v) (f v (behind (p (env_of w)) (env_of w))).known first.after_is second.after_is
          ∙ ap (passed_by w) (sym opened);
      known_is = second.known_is ∙ ap (λ o. o.known) next ∙ ap (λ o. o.known) (sym opened);
    }

pub walked_either_none : {A B : Type 0} (p : Judged A) (q : Judged B) (f : A → Judged B) (w w1 w2 : Walk) (b : Option B) →
    Walked p w w1 None → Walked q w1 w2 b → Walked (either p q f) w w2 b
walked_either_none p q f w w1 w2 b first second =
    let next = judged_next w w1 (p (env_of w)) q first.after_is in
    let opened = ap (λ k. met (p (env_of w)) k q f (env_of w)) (sym first.known_is) in
    record {
      after_is = after_two w w1 w2 (p (env_of w)) q (q (behind (p (env_of w)) (env_of w))).known first.after_is second.after_is
          ∙ ap (passed_by w) (sym opened);
      known_is = second.known_is ∙ ap (λ o. o.known) next ∙ ap (λ o. o.known) (sym opened);
    }

pub walked_left_out : {A : Type 0} (w : Walk) → Walked {A = Option A} (perhaps None) w w (Some None)
walked_left_out {A} w = walked_sure w None

pub walked_perhaps : {A : Type 0} (p : Judged A) (w w' : Walk) (k : Option A) → Walked p w w' k → Walked (perhaps (Some p)) w w' (present k)
walked_perhaps p w w' k first = record { after_is = first.after_is; known_is = ap present first.known_is }

-- ---- the parts of a list

pub after_sure : {A : Type 0} (w w' : Walk) (a : A) → w' ≡ passed_by w (sure a (env_of w)) → w' ≡ w
after_sure w w' a is = is ∙ sym (passed_faults w [] (Some a))

pub split_after : {A B C : Type 0} (w w2 : Walk) (p : Judged A) (q : Judged B) (k : Option C) →
    w2 ≡ passed_by w (joined (p (env_of w)) (q (behind (p (env_of w)) (env_of w))) k) →
    w2 ≡ passed_by (passed_by w (p (env_of w))) (q (env_of (passed_by w (p (env_of w)))))
split_after w w2 p q k is =
    is ∙ passed_joined w (p (env_of w)) (q (behind (p (env_of w)) (env_of w))) k
    ∙ ap (λ e. passed_by (passed_by w (p (env_of w))) (q e)) (env_behind w (p (env_of w)))

pub split_known : {A : Type 0} (w : Walk) (p : Judged A) (q : Judged (List A)) (k : Option (List A)) →
    k ≡ listed (p (env_of w)).known (q (behind (p (env_of w)) (env_of w))).known →
    listed (p (env_of w)).known (q (env_of (passed_by w (p (env_of w))))).known ≡ k
split_known w p q k is =
    ap (λ e. listed (p (env_of w)).known (q e).known) (sym (env_behind w (p (env_of w)))) ∙ sym is

-- ---- a part, and what follows it

pub walked_followed : {A B : Type 0} (p : Judged A) (f : A → Judged B) (w w1 w2 : Walk) (a : Option A) (b : Option B) →
    Walked p w w1 a → Followed f a w1 w2 b → Walked (on p f) w w2 b
walked_followed p f w w1 w2 None b first next =
    let none = walked_on_none p f w w1 first in
    record { after_is = next.0 ∙ none.after_is; known_is = next.1 ∙ none.known_is }
walked_followed p f w w1 w2 (Some v) b first next = walked_on p f w w1 w2 v b first next

pub walked_met : {A B : Type 0} (p : Judged A) (q : Judged B) (f : A → Judged B) (w w1 w2 : Walk) (a : Option A) (b : Option B) →
    Walked p w w1 a → Met q f a w1 w2 b → Walked (either p q f) w w2 b
walked_met p q f w w1 w2 None b first next = walked_either_none p q f w w1 w2 b first next
walked_met p q f w w1 w2 (Some v) b first next = walked_either p q f w w1 w2 v b first next
