-- A walk that passes the parts of a construct passes the construct, where its parts are handed on whether they are known or not.
use Rattle.std.proofs.Common.{◌≡◌, ◌∙◌, ap, subst, Option, Some, None}
use Rattle.c_type_expr.specs.declared.walk.Walk.{Walk}
use Rattle.c_type_expr.specs.Outcomes.{option_map, Judged, behind, joined, sure, on}
use Rattle.c_type_expr.specs.Scoping.{opened_names, closed_names}
use Rattle.c_type_stmt.specs.Statements.{scoped}
use Rattle.c_type_expr.specs.Walked.{env_of, passed_by, Walked}
use Rattle.c_type_expr.specs.Laws.WalkedLaws.{walked_sure, walked_on, walked_on_none, judged_next, after_two}

-- what is made of a part without rules of its own
pub walked_made : {A B : Type 0} (p : Judged A) (f : A → B) (w w' : Walk) (a : Option A) (b : Option B) → Walked p w w' a →
    b ≡ option_map f a → Walked (on p (λ x. sure (f x))) w w' b
walked_made p f w w' None b first is =
    let here = walked_on_none p (λ x. sure (f x)) w w' first in
    record { after_is = here.after_is; known_is = is ∙ here.known_is }
walked_made p f w w' (Some v) b first is =
    let here = walked_on p (λ x. sure (f x)) w w' w' v (Some (f v)) first (walked_sure w' (f v)) in
    record { after_is = here.after_is; known_is = is ∙ here.known_is }

-- a part, and what is said behind it of what is known of it
abbrev pub given : {A B : Type 0} → Judged A → (Option A → Judged B) → Judged B
given p q env = let o = p env in let r = q o.known (behind o env) in joined o r r.known

pub walked_given : {A B : Type 0} (p : Judged A) (q : Option A → Judged B) (w w1 w2 : Walk) (a : Option A) (b : Option B) →
    Walked p w w1 a → Walked (q a) w1 w2 b → Walked (given p q) w w2 b
walked_given p q w w1 w2 a b first second =
    let o = p (env_of w) in
    let next = subst (λ k. Walked (q k) w1 w2 b) first.known_is second in
    record {
      after_is = after_two w w1 w2 o (q o.known) (q o.known (behind o (env_of w))).known first.after_is next.after_is;
      known_is = next.known_is ∙ ap (λ r. r.known) (judged_next w w1 o (q o.known) first.after_is);
    }

-- a scope opens, and closes behind what stands in it
pub walked_scoped : {A : Type 0} (p : Judged A) (w w1 w2 w3 : Walk) (k : Option A) → w1 ≡ record w { scopes = opened_names w.scopes } →
    Walked p w1 w2 k → w3 ≡ record w2 { scopes = closed_names w2.scopes } → Walked (scoped p) w w3 k
walked_scoped p w w1 w2 w3 k opens inside closes = record {
  after_is = closes ∙ ap (λ (x : Walk). record x { scopes = closed_names x.scopes }) inside.after_is
      ∙ ap (λ (x : Walk). let y = passed_by x (p (env_of x)) in record y { scopes = closed_names y.scopes }) opens;
  known_is = inside.known_is ∙ ap (λ (x : Walk). (p (env_of x)).known) opens;
}
