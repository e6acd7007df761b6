-- What the code of a parser ensures: it answers as the parser does, if memory is not wanting.
use Rattle.std.specs.Prelude.{◌≡◌, Bool, true, false, if◌then◌else◌, List, Result, Ok, Err, IsErrAnd, refl}
use Rattle.std.proofs.Common.{sym, ◌∙◌, ap, subst}
use Rattle.c_parse_base.specs.declared.fault.Fault.TheVariants.{TooDeep}
use Rattle.c_parse_base.specs.declared.fault.Stop.{Stop}
use Rattle.c_parse_base.specs.declared.fault.Stop.TheVariants as stop
use Rattle.c_parse_base.specs.Reading.Answer.{Answer, Read, Stuck, Parser, and_then, thens, makes, either, sees}
use Rattle.c_parse_base.specs.Reading.Answers.{AnswersAs, Answers, error}

stop_as : {T A B : Type 0} (o : Answer T A) (f : A → Parser T B) (e : Stop) (left : List T) →
    AnswersAs o (error {A = A} e) left → AnswersAs (and_then o f) (error {A = B} e) left
stop_as o f (stop.Fault e) left h = ap (λ o. and_then o f) h
stop_as o f stop.NoMemory left h = tt

next_as : {T A B : Type 0} (o : Answer T A) (f : A → Parser T B) (a : A) (mid : List T) (r : Result B Stop) (left : List T) →
    o ≡ Read a mid → AnswersAs (f a mid) r left → AnswersAs (and_then o f) r left
next_as o f a mid (Ok b) left e h = ap (λ o. and_then o f) e ∙ h
next_as o f a mid (Err (stop.Fault g)) left e h = ap (λ o. and_then o f) e ∙ h
next_as o f a mid (Err stop.NoMemory) left e h = tt

-- a part that stops stops the whole
pub answers_stop : {T A B : Type 0} {o : Answer T A} (f : A → Parser T B) {e : Stop} {left : List T} →
    Answers o (error {A = A} e) left → Answers (and_then o f) (error {A = B} e) left
answers_stop {o = o} f {e = e} {left = left} h = record { is = stop_as o f e left h.is }

-- behind a part that was read
pub answers_next : {T A B : Type 0} {o : Answer T A} (f : A → Parser T B) {a : A} {mid : List T} {r : Result B Stop} {left : List T} →
    Answers o (Ok a) mid → Answers (f a mid) r left → Answers (and_then o f) r left
answers_next {o = o} f {a = a} {mid = mid} {r = r} {left = left} e h = record { is = next_as o f a mid r left e.is h.is }

-- the same answer, written another way
pub answers_by : {T A : Type 0} {o p : Answer T A} {r : Result A Stop} {left : List T} → o ≡ p → Answers p r left → Answers o r left
answers_by {r = r} {left = left} e h = subst (λ o. Answers o r left) (sym e) h

-- a stop that is passed on
pub answers_on : {T A : Type 0} {o : Answer T A} (r : Result A Stop) {e : Stop} {left : List T} → IsErrAnd r (λ x. x ≡ e) →
    Answers o (error {A = A} e) left → Answers o r left
answers_on {T = T} {A = A} {o = o} (Err x) {e = e} {left = left} h k =
    let same : x ≡ e = h in subst (λ (x : Stop). Answers {T = T} {A = A} o (error x) left) (sym same) k
answers_on (Ok a) h k = elim h [ ]

-- likewise, from the same tokens
pub passed : {T A : Type 0} (p : Parser T A) {ts us : List T} {r : Result A Stop} {left : List T} → us ≡ ts → Answers (p us) r left →
    Answers (p ts) r left
passed p {r = r} {left = left} e h = subst (λ ts. Answers (p ts) r left) e h

-- what was read and made into a value
pub answers_made : {T A : Type 0} {o : Answer T A} {a b : A} {left : List T} → b ≡ a → Answers o (Ok a) left → Answers o (Ok b) left
answers_made {o = o} {left = left} e h = subst (λ a. Answers o (Ok a) left) (sym e) h

-- what is behind a part that was read
pub answers_behind : {T A B : Type 0} (p : Parser T A) (q : A → Parser T B) {ts mid left : List T} {a : A} (r : Result B Stop) →
    Answers (p ts) (Ok a) mid → Answers (q a mid) r left → Answers (makes (λ (c : A × B). c.1) (thens p q) ts) r left
answers_behind p q (Ok b) h k = answers_next _ (answers_next _ h (answers_next _ k (record { is = refl }))) (record { is = refl })
answers_behind p q (Err e) h k = answers_stop _ (answers_next _ h (answers_stop _ k))

module _ {T A : Type 0} (test : T → Bool) (room : Bool) (p q : Parser T A) where
  pub either_one : (ts : List T) → sees test ts ≡ true → room ≡ true → either test room p q ts ≡ p ts
  either_one ts e r = ap (λ b. if b then (if room then p ts else Stuck TooDeep ts) else q ts) e
      ∙ ap (λ b. if b then p ts else Stuck TooDeep ts) r

  pub either_deep : (ts : List T) → sees test ts ≡ true → room ≡ false → either test room p q ts ≡ Stuck TooDeep ts
  either_deep ts e r = ap (λ b. if b then (if room then p ts else Stuck TooDeep ts) else q ts) e
      ∙ ap (λ b. if b then p ts else Stuck TooDeep ts) r

  pub either_other : (ts : List T) → sees test ts ≡ false → either test room p q ts ≡ q ts
  either_other ts e = ap (λ b. if b then (if room then p ts else Stuck TooDeep ts) else q ts) e
