-- How turns go on from any place: what the invariant of a loop needs.
use Rattle.std.specs.Prelude.{◌≡◌, suc, ◌-◌, ◌<◌, Bool, true, false, List, [], ◌∷◌, ◌++◌, length}
use Rattle.std.proofs.Common.{◌∙◌, ap, subst, arith, length-append}
use Rattle.c_parse_base.specs.declared.fault.Fault.TheVariants.{TooDeep}
use Rattle.c_parse_base.specs.Reading.Answer.{Read, Stuck, Parser, and_then, sees, turns_by, repeats_by, turns, repeats}
use Rattle.c_parse_base.specs.Reading.Good.{Language, Reads, Tells, Good}
use Rattle.c_parse_base.specs.declared.fault.Stop.{Stop}
use Rattle.c_parse_base.specs.Reading.Answers.{Answers, error}
use Rattle.c_parse_base.specs.Laws.AnswerLaws.{answers_by, answers_stop}
use Rattle.c_parse_base.specs.Laws.ChainLaws.{MayTurn, repeats_stop, repeats_deep, repeats_turn, repeats_end, repeats_read}

-- what is read is a word
pub reads_at : {T A : Type 0} {p : Parser T A} {L : Language T A} {F : A → Type 0} {first : T → Bool} {goes_on : A → T → Bool}
    (g : Good p L F first goes_on)
    (ts us : List T) (a : A) → p ts ≡ Read a us → Reads p L F ts a us
reads_at {p = p} {L = L} {F = F} g ts us a e = subst (λ o. Tells p L F ts o) e (g.tells ts)

-- a parser takes a token at least
pub takes_some : {T A : Type 0} {p : Parser T A} {L : Language T A} {F : A → Type 0} {first : T → Bool} {goes_on : A → T → Bool}
    (g : Good p L F first goes_on)
    (ts us : List T) (a : A) → p ts ≡ Read a us → length us < length ts
takes_some g ts us a e =
    let r = reads_at g ts us a e in
    let s = g.starts a r.taken r.whole in
    omega (arith, ap length r.parts, ap (λ w. length (w ++ us)) s.parts, length-append s.tail us, length-append r.taken us)

-- what is read fits
pub fits_at : {T A : Type 0} {p : Parser T A} {L : Language T A} {F : A → Type 0} {first : T → Bool} {goes_on : A → T → Bool}
    (g : Good p L F first goes_on)
    (ts us : List T) (a : A) → p ts ≡ Read a us → F a
fits_at g ts us a e = (reads_at g ts us a e).fits

module _ {T A : Type 0} (test : A → T → Bool) (room : A → Bool) (step : A → Parser T A) where
  -- no turn begins at the next token, or nothing is left
  pub by_stop : (a : A) (ts : List T) → sees (test a) ts ≡ false → repeats_by test room step a ts ≡ Read a ts
  by_stop a [] e = repeats_end test room step a
  by_stop a (x ∷ ts) e = repeats_stop test room step a x ts e

  -- a turn begins, and there is no room for it
  pub by_deep : (a : A) (ts : List T) → sees (test a) ts ≡ true → room a ≡ false → repeats_by test room step a ts ≡ Stuck TooDeep ts
  by_deep a [] e r = cc
  by_deep a (x ∷ ts) e r = repeats_deep test room step a x ts e r

  -- a turn is made
  pub by_turn : (a : A) (ts : List T) → sees (test a) ts ≡ true → room a ≡ true →
      repeats_by test room step a ts ≡ and_then (step a ts) (turns_by test room step (length ts - 1))
  by_turn a [] e r = cc
  by_turn a (x ∷ ts) e r =
      let same : length ts ≡ suc (length ts) - 1 = omega arith in
      repeats_turn test room step a x ts e r ∙ ap (λ n. and_then (step a (x ∷ ts)) (turns_by test room step n)) same

  -- a turn that was made leaves the turns that are left
  module _ {F : A → Type 0} {more : A → T → Bool} (S : A → Language T A)
      (gs : (a : A) → MayTurn F room a → Good (step a) (S a) F (test a) more) where
    pub by_read : (a b : A) (ts us : List T) → MayTurn F room a → sees (test a) ts ≡ true → step a ts ≡ Read b us →
        repeats_by test room step a ts ≡ repeats_by test room step b us
    by_read a b [] us may e h = cc
    by_read a b (x ∷ ts) us may e h =
        let short : length us < length (x ∷ ts) = takes_some (gs a may) (x ∷ ts) us b h in
        repeats_read test room step S gs a b x ts us may e h (fits_at (gs a may) (x ∷ ts) us b h) (omega arith)

-- the same, where the test does not hang on what was read
module _ {T A : Type 0} (test : T → Bool) (room : A → Bool) (step : A → Parser T A) where
  pub turns_stop : (a : A) (ts : List T) → sees test ts ≡ false → repeats test room step a ts ≡ Read a ts
  turns_stop = by_stop (λ _. test) room step

  pub turns_deep : (a : A) (ts : List T) → sees test ts ≡ true → room a ≡ false → repeats test room step a ts ≡ Stuck TooDeep ts
  turns_deep = by_deep (λ _. test) room step

  pub turns_turn : (a : A) (ts : List T) → sees test ts ≡ true → room a ≡ true →
      repeats test room step a ts ≡ and_then (step a ts) (turns test room step (length ts - 1))
  turns_turn = by_turn (λ _. test) room step

  module _ {F : A → Type 0} {more : A → T → Bool} (S : A → Language T A)
      (gs : (a : A) → MayTurn F room a → Good (step a) (S a) F test more) where
    pub turns_read : (a b : A) (ts us : List T) → MayTurn F room a → sees test ts ≡ true → step a ts ≡ Read b us →
        repeats test room step a ts ≡ repeats test room step b us
    turns_read = by_read (λ _. test) room step S gs

-- ---- a loop as a value

-- with which tokens a turn begins behind a value, where there is room for it, and what it reads
pub record Loop (T A : Type 0) : Type 0 where
  pub test : A → T → Bool
  pub room : A → Bool
  pub step : A → Parser T A

-- the turns that are left, behind what was read so far
unfoldable pub left : {T A : Type 0} → Loop T A → A → Parser T A
left l = repeats_by l.test l.room l.step

module _ {T A : Type 0} (l : Loop T A) (a : A) (ts : List T) where
  pub loop_end : sees (l.test a) ts ≡ false → left l a ts ≡ Read a ts
  unfolding left
  loop_end = by_stop l.test l.room l.step a ts

  pub loop_deep : sees (l.test a) ts ≡ true → l.room a ≡ false → left l a ts ≡ Stuck TooDeep ts
  unfolding left
  loop_deep = by_deep l.test l.room l.step a ts

  -- a turn that stops stops the loop
  pub loop_stops : sees (l.test a) ts ≡ true → l.room a ≡ true → {e : Stop} {us : List T} → Answers (l.step a ts) (error {A = A} e) us →
      Answers (left l a ts) (error {A = A} e) us
  unfolding left
  loop_stops seen room h = answers_by (by_turn l.test l.room l.step a ts seen room) (answers_stop _ h)

  -- a turn that is made takes a token, and leaves the turns behind its value
  module _ {F : A → Type 0} {more : A → T → Bool} {S : A → Language T A}
      (gs : (a : A) → MayTurn F l.room a → Good (l.step a) (S a) F (l.test a) more) (may : MayTurn F l.room a)
      (b : A) (us : List T) (made : l.step a ts ≡ Read b us) where
    pub loop_takes : length us < length ts
    loop_takes = takes_some (gs a may) ts us b made

    pub loop_read : sees (l.test a) ts ≡ true → left l a ts ≡ left l b us
    unfolding left
    loop_read seen = by_read l.test l.room l.step S gs a b ts us may seen made
