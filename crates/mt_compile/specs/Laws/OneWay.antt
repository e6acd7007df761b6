-- Work that gives one thing, or has one refusal at one place, and never both; and stages of such work in turn.
use Rattle.std.proofs.Common.{◌≡◌, ◌∙◌, ℕ, refl, sym, ap, subst}

pub record OneWay {B R : Type 0} (Gives : B → Type 0) (Refuses : R → ℕ → Type 0) : Type 0 where
  pub gives_one : (b c : B) → Gives b → Gives c → b ≡ c
  pub refuses_one : (r s : R) (p q : ℕ) → Refuses r p → Refuses s q → (r ≡ s) × (p ≡ q)
  pub never_both : (b : B) (r : R) (p : ℕ) → Gives b → Refuses r p → ⊥

-- a second stage goes on from what the first one gives
pub record GoesOn {B C : Type 0} (Gives : B → Type 0) (Next : B → C → Type 0) (c : C) : Type 0 where
  pub between : B
  pub first : Gives between
  pub second : Next between c

-- one of the two refuses, the second from what the first one gives
pub data Stops {B R : Type 0} (Gives : B → Type 0) (Refuses : R → ℕ → Type 0) (NextRefuses : B → R → ℕ → Type 0) (r : R)
    (p : ℕ) : Type 0 where
  at_first : Refuses r p → Stops Gives Refuses NextRefuses r p
  behind : (between : B) → Gives between → NextRefuses between r p → Stops Gives Refuses NextRefuses r p

module _ {B C R : Type 0} (Gives : B → Type 0) (Refuses : R → ℕ → Type 0) (Next : B → C → Type 0) (NextRefuses : B → R → ℕ → Type 0)
    (first : OneWay Gives Refuses) (second : (b : B) → OneWay (Next b) (NextRefuses b)) where
  one_result : (c d : C) → GoesOn Gives Next c → GoesOn Gives Next d → c ≡ d
  one_result c d x y =
      (second x.between).gives_one c d x.second (subst (λ b. Next b d) (sym (first.gives_one x.between y.between x.first y.first)) y.second)

  one_stop : (r s : R) (p q : ℕ) → Stops Gives Refuses NextRefuses r p → Stops Gives Refuses NextRefuses s q → (r ≡ s) × (p ≡ q)
  one_stop r s p q (at_first x) (at_first y) = first.refuses_one r s p q x y
  one_stop r s p q (at_first x) (behind b gives y) = absurd (first.never_both b r p gives x)
  one_stop r s p q (behind b gives x) (at_first y) = absurd (first.never_both b s q gives y)
  one_stop r s p q (behind b gives x) (behind c also y) =
      (second b).refuses_one r s p q x (subst (λ e. NextRefuses e s q) (sym (first.gives_one b c gives also)) y)

  never_stops : (c : C) (r : R) (p : ℕ) → GoesOn Gives Next c → Stops Gives Refuses NextRefuses r p → ⊥
  never_stops c r p x (at_first y) = first.never_both x.between r p x.first y
  never_stops c r p x (behind b gives y) =
      (second x.between).never_both c r p x.second (subst (λ e. NextRefuses e r p) (sym (first.gives_one x.between b x.first gives)) y)

  -- Two stages in turn go one way.
  pub in_turn : OneWay (GoesOn Gives Next) (Stops Gives Refuses NextRefuses)
  in_turn = record { gives_one = one_result; refuses_one = one_stop; never_both = never_stops }

-- ---- one stage

-- a check refuses for one reason, at one place
pub record Fails {R : Type 0} (Bad : Type 0) (reason : R) (place : ℕ) (r : R) (p : ℕ) : Type 0 where
  pub bad : Bad
  pub reason_is : r ≡ reason
  pub place_is : p ≡ place

-- A check passes or fails, and not both.
pub check : {R : Type 0} (Good Bad : Type 0) (reason : R) (place : ℕ) → (Good → Bad → ⊥) →
    OneWay {B = Unit {0}} (λ _. Good) (Fails Bad reason place)
check Good Bad reason place never = record {
  gives_one = λ b c x y. refl;
  refuses_one = λ r s p q x y. (x.reason_is ∙ sym y.reason_is, x.place_is ∙ sym y.place_is);
  never_both = λ b r p good fails. never good fails.bad;
}

-- a refusal that is told in other words
pub record ToldBy {R S : Type 0} (tells : R → S) (Refuses : R → ℕ → Type 0) (s : S) (p : ℕ) : Type 0 where
  pub reason : R
  pub refuses : Refuses reason p
  pub is : s ≡ tells reason

-- Work whose refusals are told in other words goes one way.
pub told_by : {B R S : Type 0} {Gives : B → Type 0} {Refuses : R → ℕ → Type 0} (tells : R → S) → OneWay Gives Refuses →
    OneWay Gives (ToldBy tells Refuses)
told_by tells way = record {
  gives_one = way.gives_one;
  refuses_one = λ r s p q x y.
      let one = way.refuses_one x.reason y.reason p q x.refuses y.refuses in
      (x.is ∙ ap tells one.0 ∙ sym y.is, one.1);
  never_both = λ b r p gives told. way.never_both b told.reason p gives told.refuses;
}

-- ---- what leads to a way

-- What leads to what a way gives, and what leads to its refusals, go one way too.
pub led_by : {B R : Type 0} {Gives Leads : B → Type 0} {Refuses Stopped : R → ℕ → Type 0} → OneWay Gives Refuses →
    ((b : B) → Leads b → Gives b) → ((r : R) (p : ℕ) → Stopped r p → Refuses r p) → OneWay Leads Stopped
led_by way gives refuses = record {
  gives_one = λ b c x y. way.gives_one b c (gives b x) (gives c y);
  refuses_one = λ r s p q x y. way.refuses_one r s p q (refuses r p x) (refuses s q y);
  never_both = λ b r p x y. way.never_both b r p (gives b x) (refuses r p y);
}
