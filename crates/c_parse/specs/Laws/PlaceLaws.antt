-- The first token that cannot be right is one, the first that is too deep is one, and no tokens have both.
use Rattle.std.proofs.Common.{◌≡◌, ◌<◌, ℕ, ◌+◌, List, [], ◌∷◌, ◌++◌, length, length-append, inl, inr, refl, sym, ap, ◌∙◌, subst, arith}
use Rattle.std.proofs.lemmas.Bool.{cases_lt}
use Rattle.std.proofs.lemmas.List.{append_assoc}
use Rattle.c_ast.specs.declared.token.Token.{Token}
use Rattle.c_grammar.specs.Spells.{Spells}
use Rattle.c_parse.specs.Parsed.{BeginsWithin, NoneGoesOn, FirstUnexpected, FirstTooDeep}

-- a longer front of a list begins with the shorter one and what follows it
pub record Longer (a b c : List Token) : Type 0 where
  pub next : Token
  pub more : List Token
  pub tail : List Token
  pub front : c ≡ (a ++ next ∷ []) ++ more
  pub behind : b ≡ next ∷ tail

tail_same : {x y : Token} {xs ys : List Token} → x ∷ xs ≡ y ∷ ys → xs ≡ ys
tail_same e = cc

head_same : {x y : Token} {xs ys : List Token} → x ∷ xs ≡ y ∷ ys → x ≡ y
head_same e = cc

pub longer : (a b c d : List Token) → a ++ b ≡ c ++ d → length a < length c → Longer a b c
longer [] b [] d e less = absurd (omega (arith, less))
longer [] b (x ∷ c) d e less = record { next = x; more = c; tail = c ++ d; front = refl; behind = e }
longer (y ∷ a) b [] d e less = absurd (omega (arith, less))
longer (y ∷ a) b (x ∷ c) d e less =
    let l = longer a b c d (tail_same e) (omega (arith, less)) in
    record {
      next = l.next;
      more = l.more;
      tail = l.tail;
      front = ap (λ z. z ∷ c) (sym (head_same e)) ∙ ap (λ w. y ∷ w) l.front;
      behind = l.behind;
    }

-- the tokens before this place begin a program within the limit
pub record Reached (levels : ℕ) (tokens : List Token) (place : ℕ) : Type 0 where
  pub taken : List Token
  pub rest : List Token
  pub parts : tokens ≡ taken ++ rest
  pub at : length taken ≡ place
  pub begins : BeginsWithin levels taken

-- those before the first that cannot be right begin one, and those before the first that is too deep
pub reached_unexpected : {levels place : ℕ} {tokens : List Token} → FirstUnexpected levels tokens place → Reached levels tokens place
reached_unexpected f = record { taken = f.taken; rest = f.rest; parts = f.parts; at = f.at; begins = f.begins }

pub reached_too_deep : {levels place : ℕ} {tokens : List Token} → FirstTooDeep levels tokens place → Reached levels tokens place
reached_too_deep f = record { taken = f.taken; rest = f.next ∷ f.rest; parts = f.parts; at = f.at; begins = f.begins }

-- with the token that is too deep some program begins, of more levels
pub reached_behind : {levels place : ℕ} {tokens : List Token} (f : FirstTooDeep levels tokens place) →
    Reached f.goes_on.depth tokens (1 + place)
reached_behind f = record {
  taken = f.taken ++ f.next ∷ [];
  rest = f.rest;
  parts = f.parts ∙ sym (append_assoc f.taken (f.next ∷ []) f.rest);
  at = omega (arith, length-append f.taken (f.next ∷ []), f.at);
  begins = record {
    more = f.goes_on.more;
    program = f.goes_on.program;
    depth = f.goes_on.depth;
    spells = f.goes_on.spells;
    within = omega arith;
  };
}

-- the words of what begins with a longer front
longer_words : {levels : ℕ} {a b c : List Token} (l : Longer a b c) (begins : BeginsWithin levels c) →
    Spells ((a ++ l.next ∷ []) ++ (l.more ++ begins.more)) begins.program begins.depth
longer_words {a = a} l begins =
    subst (λ w. Spells w begins.program begins.depth) (ap (λ w. w ++ begins.more) l.front
    ∙ append_assoc (a ++ l.next ∷ []) l.more begins.more) begins.spells

-- no program begins with more tokens than those before the first that cannot be right
pub unexpected_later : {levels other place later : ℕ} {tokens : List Token} → FirstUnexpected levels tokens place →
    Reached other tokens later → place < later → ⊥
unexpected_later f r less =
    let l = longer f.taken f.rest r.taken r.rest (sym f.parts ∙ r.parts) (omega (arith, f.at, r.at, less)) in
    (subst (λ rest. NoneGoesOn f.taken rest) l.behind f.breaks)
    (record { more = l.more ++ r.begins.more; program = r.begins.program; depth = r.begins.depth; spells = longer_words l r.begins })

-- none within the limit begins with more tokens than those before the first that is too deep
pub too_deep_later : {levels place later : ℕ} {tokens : List Token} → FirstTooDeep levels tokens place → Reached levels tokens later →
    place < later → ⊥
too_deep_later {levels} f r less =
    let l = longer f.taken (f.next ∷ f.rest) r.taken r.rest (sym f.parts ∙ r.parts) (omega (arith, f.at, r.at, less)) in
    let deep : levels < r.begins.depth = f.deep (l.more ++ r.begins.more) r.begins.program r.begins.depth
    (subst (λ next. Spells ((f.taken ++ next ∷ []) ++ (l.more ++ r.begins.more)) r.begins.program r.begins.depth)
    (sym (head_same l.behind)) (longer_words l r.begins)) in
    omega (arith, deep, r.begins.within)

same_place : (p q : ℕ) → (p < q → ⊥) → (q < p → ⊥) → p ≡ q
same_place p q less more = elim (cases_lt p q) [
  | inl is ↦ absurd (less is)
  | inr not ↦ elim (cases_lt q p) [ inl is ↦ absurd (more is) | inr other ↦ omega (arith, not, other) ]
]

-- the first token that cannot be right is one
pub one_unexpected : {levels place later : ℕ} {tokens : List Token} → FirstUnexpected levels tokens place →
    FirstUnexpected levels tokens later → place ≡ later
one_unexpected {place = place} {later = later} f g =
    same_place place later (λ less. unexpected_later f (reached_unexpected g) less) (λ less. unexpected_later g (reached_unexpected f) less)

-- and so is the first that is too deep
pub one_too_deep : {levels place later : ℕ} {tokens : List Token} → FirstTooDeep levels tokens place → FirstTooDeep levels tokens later →
    place ≡ later
one_too_deep {place = place} {later = later} f g =
    same_place place later (λ less. too_deep_later f (reached_too_deep g) less) (λ less. too_deep_later g (reached_too_deep f) less)

-- the first token that cannot be right is not behind the first that is too deep, nor before it, nor it
pub never_both : {levels place later : ℕ} {tokens : List Token} → FirstUnexpected levels tokens place → FirstTooDeep levels tokens later → ⊥
never_both {place = place} {later = later} f g = elim (cases_lt later place) [
  | inl less ↦ too_deep_later g (reached_unexpected f) less
  | inr not ↦ unexpected_later f (reached_behind g) (omega (arith, not))
]
