-- How a parser with a limit on depth stands to one with a greater limit: they agree, or the first says that it is too deep.
use Rattle.std.specs.Prelude.{◌≡◌, ℕ, zero, suc, ◌+◌, ◌⊎◌, Bool, true, false, List, [], ◌∷◌, length, if◌then◌else◌, refl}
use Rattle.std.proofs.Common.{sym, subst, arith, inl, inr}
use Rattle.c_parse_base.specs.declared.fault.Fault.TheVariants.{Unexpected, TooDeep}
use Rattle.c_parse_base.specs.Reading.Answer.{Answer, Read, Stuck, Parser, and_then, thens, makes, either, turns_by, repeats_by, chain_by}
use Rattle.c_parse_base.specs.Reading.Answer.{chain, sees, follows, optional}

-- the answers are one, or the first is that it is too deep
pub data Agrees {T A : Type 0} : Answer T A → Answer T A → Type 0 where
  same : {o : Answer T A} → Agrees o o
  deep : {ts : List T} {o : Answer T A} → Agrees (Stuck TooDeep ts) o

-- likewise on all tokens
pub record Grows {T A : Type 0} (p q : Parser T A) : Type 0 where
  pub at : (ts : List T) → Agrees (p ts) (q ts)

pub grows_same : {T A : Type 0} (p : Parser T A) → Grows p p
grows_same p = record { at = λ ts. same }

agrees_apply : {T A B : Type 0} (o : Answer T A) (f g : A → Parser T B) → ((a : A) (us : List T) → Agrees (f a us) (g a us)) →
    Agrees (and_then o f) (and_then o g)
agrees_apply (Read a us) f g h = h a us
agrees_apply (Stuck e us) f g h = same

pub agrees_then : {T A B : Type 0} (o o' : Answer T A) (f g : A → Parser T B) → Agrees o o' →
    ((a : A) (us : List T) → Agrees (f a us) (g a us)) →
    Agrees (and_then o f) (and_then o' g)
agrees_then o o' f g (same {o = x}) h = agrees_apply x f g h
agrees_then o o' f g deep h = deep

pub grows_then : {T A B : Type 0} {p p' : Parser T A} {q q' : A → Parser T B} → Grows p p' → ((a : A) → Grows (q a) (q' a)) →
    Grows (thens p q) (thens p' q')
grows_then {p} {p'} {q} {q'} hp hq = record {
  at = λ ts.
      agrees_then (p ts) (p' ts) (λ a us. and_then (q a us) (λ b vs. Read (a, b) vs))
      (λ a us. and_then (q' a us) (λ b vs. Read (a, b) vs)) (hp.at ts)
      (λ a us. agrees_then (q a us) (q' a us) (λ b vs. Read (a, b) vs) (λ b vs. Read (a, b) vs) ((hq a).at us) (λ b vs. same));
}

pub grows_made : {T A B : Type 0} (f : A → B) {p p' : Parser T A} → Grows p p' → Grows (makes f p) (makes f p')
grows_made f {p} {p'} hp = record {
  at = λ ts. agrees_then (p ts) (p' ts) (λ a us. Read (f a) us) (λ a us. Read (f a) us) (hp.at ts)
      (λ a us. same);
}

module _ {T A : Type 0} (test : T → Bool) (room room' : Bool) {p p' q q' : Parser T A}
    (more : room ≡ true → room' ≡ true) (hp : room ≡ true → Grows p p') (hq : Grows q q') where
  either_room : (x : T) (ts : List T) (r : Bool) → room ≡ r →
      Agrees (if r then p (x ∷ ts) else Stuck TooDeep (x ∷ ts)) (if room' then p' (x ∷ ts) else Stuck TooDeep (x ∷ ts))
  either_room x ts true r = subst (λ b. Agrees (p (x ∷ ts)) (if b then p' (x ∷ ts) else Stuck TooDeep (x ∷ ts))) (sym (more r))
      ((hp r).at (x ∷ ts))
  either_room x ts false r = deep

  either_test : (x : T) (ts : List T) (b : Bool) →
      Agrees (if b then (if room then p (x ∷ ts) else Stuck TooDeep (x ∷ ts)) else q (x ∷ ts))
      (if b then (if room' then p' (x ∷ ts) else Stuck TooDeep (x ∷ ts)) else q' (x ∷ ts))
  either_test x ts true = either_room x ts room refl
  either_test x ts false = hq.at (x ∷ ts)

  either_agrees : (ts : List T) → Agrees (either test room p q ts) (either test room' p' q' ts)
  either_agrees [] = hq.at []
  either_agrees (x ∷ ts) = either_test x ts (test x)

  pub grows_either : Grows (either test room p q) (either test room' p' q')
  grows_either = record { at = either_agrees }

module _ {T A : Type 0} (test : A → T → Bool) (room room' : A → Bool) {step step' : A → Parser T A}
    (more : (a : A) → room a ≡ true → room' a ≡ true) (hs : (a : A) → room a ≡ true → Grows (step a) (step' a)) where
  abbrev Turn : ℕ → Type 0
  Turn n = (a : A) (ts : List T) → Agrees (turns_by test room step n a ts) (turns_by test room' step' n a ts)

  turn_room : (n : ℕ) → Turn n → (a : A) (x : T) (ts : List T) (r : Bool) → room a ≡ r →
      Agrees (if r then and_then (step a (x ∷ ts)) (turns_by test room step n) else Stuck TooDeep (x ∷ ts))
      (if room' a then and_then (step' a (x ∷ ts)) (turns_by test room' step' n) else Stuck TooDeep (x ∷ ts))
  turn_room n ih a x ts true r =
      subst (λ b. Agrees (and_then (step a (x ∷ ts)) (turns_by test room step n))
      (if b then and_then (step' a (x ∷ ts)) (turns_by test room' step' n) else Stuck TooDeep (x ∷ ts)))
      (sym (more a r)) (agrees_then (step a (x ∷ ts)) (step' a (x ∷ ts)) (turns_by test room step n) (turns_by test room' step' n)
      ((hs a r).at (x ∷ ts)) ih)
  turn_room n ih a x ts false r = deep

  turn_test : (n : ℕ) → Turn n → (a : A) (x : T) (ts : List T) (b : Bool) →
      Agrees (if b then (if room a then and_then (step a (x ∷ ts)) (turns_by test room step n) else Stuck TooDeep (x ∷ ts))
      else Read a (x ∷ ts))
      (if b then (if room' a then and_then (step' a (x ∷ ts)) (turns_by test room' step' n) else Stuck TooDeep (x ∷ ts))
      else Read a (x ∷ ts))
  turn_test n ih a x ts true = turn_room n ih a x ts (room a) refl
  turn_test n ih a x ts false = same

  grows_turns : (n : ℕ) → Turn n
  unfolding turns_by
  grows_turns zero a ts = same
  grows_turns (suc n) a [] = same
  grows_turns (suc n) a (x ∷ ts) = turn_test n (grows_turns n) a x ts (test a x)

  pub grows_chain_by : {p p' : Parser T A} → Grows p p' → Grows (chain_by test room p step) (chain_by test room' p' step')
  grows_chain_by {p} {p'} hp = record {
    at = λ ts.
        agrees_then (p ts) (p' ts) (repeats_by test room step) (repeats_by test room' step') (hp.at ts)
        (λ a us. grows_turns (length us) a us);
  }

-- the same, where the test does not hang on what was read
module _ {T A : Type 0} (test : T → Bool) (room room' : A → Bool) {step step' : A → Parser T A}
    (more : (a : A) → room a ≡ true → room' a ≡ true) (hs : (a : A) → room a ≡ true → Grows (step a) (step' a)) where
  pub grows_chain : {p p' : Parser T A} → Grows p p' → Grows (chain test room p step) (chain test room' p' step')
  grows_chain hp = grows_chain_by (λ _. test) room room' more hs hp

pub agrees_on : {T A : Type 0} (o o' o'' : Answer T A) → Agrees o o' → Agrees o' o'' → Agrees o o''
agrees_on o o' o'' (same {o = x}) h = h
agrees_on o o' o'' deep h = deep

-- two answers that agree are one, or the first is that it is too deep
pub agrees_is : {T A : Type 0} (o o' : Answer T A) → Agrees o o' → (o ≡ o') ⊎ ((ts : List T) × (o ≡ Stuck TooDeep ts))
agrees_is o o' (same {o = x}) = inl refl
agrees_is o o' (deep {ts = ts}) = inr (ts, refl)

-- by one level at a time to any greater limit
pub grows_by : {T A : Type 0} (p : ℕ → Parser T A) → ((d : ℕ) → Grows (p d) (p (suc d))) → (d n e : ℕ) → e ≡ n + d → Grows (p d) (p e)
grows_by p h d zero e is = let same_limit : d ≡ e = omega arith in subst (λ e. Grows (p d) (p e)) same_limit (grows_same (p d))
grows_by p h d (suc n) e is =
    let before : Grows (p d) (p (n + d)) = grows_by p h d n (n + d) refl in
    let above : suc (n + d) ≡ e = omega arith in
    subst (λ e. Grows (p d) (p e)) above
    (record { at = λ ts. agrees_on (p d ts) (p (n + d) ts) (p (suc (n + d)) ts) (before.at ts) ((h (n + d)).at ts) })

module _ {T A : Type 0} (test : T → Bool) (allowed room room' : A → Bool) {q q' : A → Parser T A}
    (more : (a : A) → room a ≡ true → room' a ≡ true) (hq : (a : A) → room a ≡ true → Grows (q a) (q' a)) where
  follows_room : (a : A) (ts : List T) (r : Bool) → room a ≡ r →
      Agrees (if r then q a ts else Stuck TooDeep ts) (if room' a then q' a ts else Stuck TooDeep ts)
  follows_room a ts true r = subst (λ b. Agrees (q a ts) (if b then q' a ts else Stuck TooDeep ts)) (sym (more a r)) ((hq a r).at ts)
  follows_room a ts false r = deep

  follows_allowed : (a : A) (ts : List T) (b : Bool) → Agrees
      (if b then (if room a then q a ts else Stuck TooDeep ts) else Stuck Unexpected ts)
      (if b then (if room' a then q' a ts else Stuck TooDeep ts) else Stuck Unexpected ts)
  follows_allowed a ts true = follows_room a ts (room a) refl
  follows_allowed a ts false = same

  follows_test : (a : A) (ts : List T) (b : Bool) →
      Agrees (if b then (if allowed a then (if room a then q a ts else Stuck TooDeep ts) else Stuck Unexpected ts) else Read a ts)
      (if b then (if allowed a then (if room' a then q' a ts else Stuck TooDeep ts) else Stuck Unexpected ts) else Read a ts)
  follows_test a ts true = follows_allowed a ts (allowed a)
  follows_test a ts false = same

  pub grows_optional : {p p' : Parser T A} → Grows p p' → Grows (optional test allowed room p q) (optional test allowed room' p' q')
  grows_optional {p} {p'} hp = record {
    at = λ ts.
        agrees_then (p ts) (p' ts) (follows test allowed room q) (follows test allowed room' q') (hp.at ts)
        (λ a us. follows_test a us (sees test us));
  }
