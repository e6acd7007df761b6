-- How words are read by the code: by a look at the next token, and then a step over it.
use Rattle.std.specs.Prelude.{◌≡◌, ℕ, true, false, if◌then◌else◌, List, [], ◌∷◌, Option, Some, None, is_some, refl}
use Rattle.std.proofs.Common.{◌∙◌, ap}
use Rattle.c_ast.specs.Seen.{Seen as Token}
use Rattle.c_ast.specs.declared.keyword.Keyword.{Keyword}
use Rattle.c_ast.specs.declared.punctuator.Punctuator.{Punctuator}
use Rattle.c_grammar.specs.Words.{keyword, punctuator}
use Rattle.c_parse_base.specs.declared.fault.Fault.TheVariants.{Unexpected}
use Rattle.c_parse_base.specs.Reading.Answer.{Read, Stuck, word, word_or, sees}
use Rattle.c_parse_base.specs.Reading.Answers.{next_of, rest_of, next_value}
use Rattle.c_parse_base.specs.Reading.Words.{is, pick_word, place_of, any, punct, key}

seen : (w : ℕ) (ts : List Token) → sees (is w) ts ≡ true → word (pick_word w) ts ≡ word (λ t. Some (place_of t)) ts
seen w [] e = refl
seen w (x ∷ ts) e = ap (λ b. word_or (if b then Some (place_of x) else None) x ts) e

unseen : (w : ℕ) (ts : List Token) → sees (is w) ts ≡ false → word (pick_word w) ts ≡ Stuck Unexpected ts
unseen w [] e = refl
unseen w (x ∷ ts) e = ap (λ b. word_or (if b then Some (place_of x) else None) x ts) e

pub punct_seen : (p : Punctuator) (ts : List Token) → sees (is (punctuator p)) ts ≡ true → punct p ts ≡ any ts
unfolding punct any
punct_seen p = seen (punctuator p)

pub punct_unseen : (p : Punctuator) (ts : List Token) → sees (is (punctuator p)) ts ≡ false → punct p ts ≡ Stuck Unexpected ts
unfolding punct
punct_unseen p = unseen (punctuator p)

pub key_seen : (k : Keyword) (ts : List Token) → sees (is (keyword k)) ts ≡ true → key k ts ≡ any ts
unfolding key any
key_seen k = seen (keyword k)

pub key_unseen : (k : Keyword) (ts : List Token) → sees (is (keyword k)) ts ≡ false → key k ts ≡ Stuck Unexpected ts
unfolding key
key_unseen k = unseen (keyword k)

-- nothing is left
pub word_end : {A : Type 0} (pick : Token → Option A) (ts : List Token) → next_of ts ≡ None → word pick ts ≡ Stuck Unexpected ts
word_end pick [] e = refl
word_end pick (x ∷ ts) e = cc

-- the next token has no value
pub word_other : {A : Type 0} (pick : Token → Option A) (ts : List Token) (x : Token) → next_of ts ≡ Some x → pick x ≡ None →
    word pick ts ≡ Stuck Unexpected ts
word_other pick [] x e h = cc
word_other pick (y ∷ ts) x e h = let same : y ≡ x = cc in ap (λ o. word_or o y ts) (ap pick same ∙ h)

-- the next token has a value, and is passed
pub word_passed : {A : Type 0} (pick : Token → Option A) (ts : List Token) (x : Token) (a : A) → next_of ts ≡ Some x → pick x ≡ Some a →
    word pick ts ≡ Read a (rest_of ts)
word_passed pick [] x a e h = cc
word_passed pick (y ∷ ts) x a e h = let same : y ≡ x = cc in ap (λ o. word_or o y ts) (ap pick same ∙ h)

-- a token is seen where it has a value
pub sees_value : {A : Type 0} (pick : Token → Option A) (ts : List Token) → sees (λ t. is_some (pick t)) ts ≡ is_some (next_value pick ts)
sees_value pick [] = refl
sees_value pick (x ∷ ts) = refl

-- the next token has a value, and is passed
pub value_passed : {A : Type 0} (pick : Token → Option A) (ts : List Token) (a : A) → next_value pick ts ≡ Some a →
    word pick ts ≡ Read a (rest_of ts)
value_passed pick [] a h = cc
value_passed pick (y ∷ ts) a h = ap (λ o. word_or o y ts) h
