-- What a parser answers, and the parsers that others are made of. A parser is a function of the tokens that are left.
use Rattle.std.specs.Prelude.{ℕ, zero, suc, Bool, false, if◌then◌else◌, List, [], ◌∷◌, length, Option, Some, None}
use Rattle.c_parse_base.specs.declared.fault.Fault.{Fault}
use Rattle.c_parse_base.specs.declared.fault.Fault.TheVariants.{Unexpected, TooDeep}

-- what was read and the tokens left behind it, or a fault and the tokens from the faulty one on
pub data Answer (T A : Type 0) : Type 0 where
  Read : A → List T → Answer T A
  Stuck : Fault → List T → Answer T A

abbrev pub Parser : Type 0 → Type 0 → Type 0
Parser T A = List T → Answer T A

-- the second parser reads what the first one left
abbrev pub and_then : {T A B : Type 0} → Answer T A → (A → Parser T B) → Answer T B
and_then (Read a ts) q = q a ts
and_then (Stuck f ts) q = Stuck f ts

-- the value of the next token
abbrev pub word_or : {T A : Type 0} → Option A → T → Parser T A
word_or None x ts = Stuck Unexpected (x ∷ ts)
word_or (Some a) x ts = Read a ts

-- one token that has a value
abbrev pub word : {T A : Type 0} → (T → Option A) → Parser T A
word pick [] = Stuck Unexpected []
word pick (x ∷ ts) = word_or (pick x) x ts

-- first the one, then the other
abbrev pub thens : {T A B : Type 0} → Parser T A → (A → Parser T B) → Parser T (A × B)
thens p q = λ ts. and_then (p ts) (λ a us. and_then (q a us) (λ b vs. Read (a, b) vs))

-- what was read, made into another value
abbrev pub makes : {T A B : Type 0} → (A → B) → Parser T A → Parser T B
makes f p = λ ts. and_then (p ts) (λ a us. Read (f a) us)

-- whether there is a next token that passes the test
abbrev pub sees : {T : Type 0} → (T → Bool) → List T → Bool
sees test [] = false
sees test (x ∷ ts) = test x

-- the first parser where the next token is one of its own, if there is room for it, and else the second
abbrev pub either : {T A : Type 0} → (T → Bool) → Bool → Parser T A → Parser T A → Parser T A
either test room p q ts = if sees test ts then (if room then p ts else Stuck TooDeep ts) else q ts

-- at most so many turns, each of which begins with a token that passes the test, which may hang on what was read so far
unfoldable pub turns_by : {T A : Type 0} → (A → T → Bool) → (A → Bool) → (A → Parser T A) → ℕ → A → Parser T A
turns_by test room step zero a ts = Read a ts
turns_by test room step (suc n) a ts =
    if sees (test a) ts then (if room a then and_then (step a ts) (turns_by test room step n) else Stuck TooDeep ts) else Read a ts

-- a turn for each token that begins one, if there is room behind what was read so far. A turn takes a token, so that as many turns as
-- tokens are enough.
abbrev pub repeats_by : {T A : Type 0} → (A → T → Bool) → (A → Bool) → (A → Parser T A) → A → Parser T A
repeats_by test room step a ts = turns_by test room step (length ts) a ts

-- the one, and then turns of the other
abbrev pub chain_by : {T A : Type 0} → (A → T → Bool) → (A → Bool) → Parser T A → (A → Parser T A) → Parser T A
chain_by test room p step = λ ts. and_then (p ts) (repeats_by test room step)

-- the same, where the test does not hang on what was read
abbrev pub turns : {T A : Type 0} → (T → Bool) → (A → Bool) → (A → Parser T A) → ℕ → A → Parser T A
turns test = turns_by (λ _. test)

abbrev pub repeats : {T A : Type 0} → (T → Bool) → (A → Bool) → (A → Parser T A) → A → Parser T A
repeats test = repeats_by (λ _. test)

abbrev pub chain : {T A : Type 0} → (T → Bool) → (A → Bool) → Parser T A → (A → Parser T A) → Parser T A
chain test = chain_by (λ _. test)

-- what may follow, if a token that begins it comes next: where that is allowed behind what was read, and there is room
abbrev pub follows : {T A : Type 0} → (T → Bool) → (A → Bool) → (A → Bool) → (A → Parser T A) → A → Parser T A
follows test allowed room q a ts =
    if sees test ts then (if allowed a then (if room a then q a ts else Stuck TooDeep ts) else Stuck Unexpected ts) else Read a ts

-- the one, and perhaps the other behind it
abbrev pub optional : {T A : Type 0} → (T → Bool) → (A → Bool) → (A → Bool) → Parser T A → (A → Parser T A) → Parser T A
optional test allowed room p q = λ ts. and_then (p ts) (follows test allowed room q)
