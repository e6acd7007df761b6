-- A walk that passes the constructs of a list one by one passes the list.
use Rattle.std.proofs.Common.{◌≡◌, refl, sym, ◌∙◌, ap, subst, ℕ, ◌+◌, ◌<◌, List, [], ◌∷◌, ◌++◌, map, take, get_or, length, Option, Some}
use Rattle.std.proofs.Common.{None}
use Rattle.std.proofs.lemmas.List.{take_more, map-append}
use Rattle.c_type_expr.specs.declared.walk.Walk.{Walk}
use Rattle.c_type_expr.specs.Outcomes.{Judged, behind, listed, each}
use Rattle.c_type_expr.specs.Walked.{env_of, passed_by, Walked}
use Rattle.c_type_expr.specs.Sorted.{with_known}
use Rattle.c_type_expr.specs.Laws.WalkedLaws.{walked_sure, walked_each, after_sure, split_after, split_known}

one_known : {A : Type 0} (a : Option A) → listed a (Some []) ≡ with_known (Some []) a
one_known None = refl
one_known (Some a) = refl

more_known : {A : Type 0} (a : Option A) (as' : Option (List A)) (b : Option A) → listed a (with_known as' b) ≡ with_known (listed a as') b
more_known None as' b = refl
more_known (Some a) None b = refl
more_known (Some a) (Some more) None = refl
more_known (Some a) (Some more) (Some b) = refl

pub as_known : {A : Type 0} (p : Judged A) (w w' : Walk) (a b : Option A) → a ≡ b → Walked p w w' a → Walked p w w' b
as_known p w w' a b same walked = record { after_is = walked.after_is; known_is = sym same ∙ walked.known_is }

pub from : {A : Type 0} (p : Judged A) (v w w' : Walk) (a : Option A) → v ≡ w → Walked p v w' a → Walked p w w' a
from p v w w' a same walked = record {
  after_is = walked.after_is ∙ ap (λ x. passed_by x (p (env_of x))) same;
  known_is = walked.known_is ∙ ap (λ x. (p (env_of x)).known) same;
}

-- one more at the end
pub walked_each_more : {A : Type 0} (ps : List (Judged A)) (p : Judged A) (w w1 w2 : Walk) (as' : Option (List A)) (a : Option A) →
    Walked (each ps) w w1 as' → Walked p w1 w2 a → Walked (each (ps ++ p ∷ [])) w w2 (with_known as' a)
walked_each_more {A} [] p w w1 w2 as' a first second =
    let here = from p w1 w w2 a (after_sure {A = List A} w w1 [] first.after_is) second in
    as_known (each (p ∷ [])) w w2 (listed a (Some [])) (with_known as' a) (one_known a ∙ ap (λ k. with_known k a) (sym first.known_is))
    (walked_each p [] w w2 w2 a (Some []) here (walked_sure {A = List A} w2 []))
walked_each_more {A} (q ∷ ps) p w w1 w2 as' a first second =
    let mid = passed_by w (q (env_of w)) in
    let known = (each ps (env_of mid)).known in
    let one : Walked q w mid (q (env_of w)).known = record { after_is = refl; known_is = refl } in
    let rest : Walked (each ps) mid w1 known =
    record {
      after_is = split_after w w1 q (each ps) (listed (q (env_of w)).known (each ps (behind (q (env_of w)) (env_of w))).known)
          first.after_is;
      known_is = refl;
    } in
    let all = walked_each_more ps p mid w1 w2 known a rest second in
    as_known (each (q ∷ ps ++ p ∷ [])) w w2 (listed (q (env_of w)).known (with_known known a)) (with_known as' a)
    (more_known (q (env_of w)).known known a ∙ ap (λ k. with_known k a) (split_known w q (each ps) as' first.known_is))
    (walked_each q (ps ++ p ∷ []) w mid w2 (q (env_of w)).known (with_known known a) one all)

-- the construct of the next element of a list
pub walked_next : {X A : Type 0} (f : X → Judged A) (xs : List X) (i : ℕ) (d : X) (w w1 w2 : Walk) (as' : Option (List A)) (a : Option A) →
    i < length xs → Walked (each (map f (take i xs))) w w1 as' → Walked (f (get_or xs i d)) w1 w2 a →
    Walked (each (map f (take (i + 1) xs))) w w2 (with_known as' a)
walked_next f xs i d w w1 w2 as' a below first second =
    let same = ap (map f) (take_more xs i d below) ∙ map-append f (take i xs) (get_or xs i d ∷ []) in
    subst (λ ps. Walked (each ps) w w2 (with_known as' a)) (sym same)
    (walked_each_more (map f (take i xs)) (f (get_or xs i d)) w w1 w2 as' a first second)
