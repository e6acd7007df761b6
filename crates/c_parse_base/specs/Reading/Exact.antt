-- What a whole list of tokens gives, and that a parser of the language gives it.
use Rattle.std.specs.Prelude.{◌≡◌, ℕ, ◌≤◌, ◌<◌, ◌-◌, List, [], ◌∷◌, ◌++◌, length}
use Rattle.c_parse_base.specs.declared.fault.Fault.TheVariants.{Unexpected, TooDeep}
use Rattle.c_parse_base.specs.Reading.Answer.{Answer, Read, Stuck, Parser, and_then}
use Rattle.c_parse_base.specs.Reading.Good.{Language, Begins}

-- nothing may be left
abbrev pub finish : {T A : Type 0} → A → Parser T A
finish a [] = Read a []
finish a (x ∷ ts) = Stuck Unexpected (x ∷ ts)

-- all tokens are read
abbrev pub ended : {T A : Type 0} → Parser T A → Parser T A
ended p ts = and_then (p ts) finish

-- the tokens before a place begin a word within the limit
pub record Within {T A : Type 0} (L : Language T A) (height : A → ℕ) (limit : ℕ) (ts taken rest : List T) : Type 0 where
  pub parts : ts ≡ taken ++ rest
  pub value : A
  pub more : List T
  pub whole : L value (taken ++ more)
  pub low : height value ≤ limit

-- no word begins with the tokens up to and including the next one, or, at the end, the tokens are no word
abbrev pub Breaks : {T A : Type 0} → Language T A → List T → List T → Type 0
Breaks {A} L taken [] = (a : A) → ¬ L a taken
Breaks L taken (x ∷ ts) = ¬ Begins L (taken ++ x ∷ [])

-- the place of the first token that cannot be right, or of the end
pub record FirstWrong {T A : Type 0} (L : Language T A) (height : A → ℕ) (limit : ℕ) (ts : List T) (place : ℕ) : Type 0 where
  pub taken : List T
  pub rest : List T
  pub before : Within L height limit ts taken rest
  pub at : length taken ≡ place
  pub breaks : Breaks L taken rest

-- the place of the first token with which some word begins, and each that does is deeper than the limit
pub record FirstDeep {T A : Type 0} (L : Language T A) (height : A → ℕ) (limit : ℕ) (ts : List T) (place : ℕ) : Type 0 where
  pub taken : List T
  pub token : T
  pub rest : List T
  pub before : Within L height limit ts taken (token ∷ rest)
  pub at : length taken ≡ place
  pub begins : Begins L (taken ++ token ∷ [])
  pub deep : (a : A) (more : List T) → L a ((taken ++ token ∷ []) ++ more) → limit < height a

-- how many tokens were taken where these are left
abbrev pub place_in : {T : Type 0} → List T → List T → ℕ
place_in ts rest = length ts - length rest

-- what an answer on a whole list says
abbrev pub Exact : {T A : Type 0} → Language T A → (A → ℕ) → ℕ → List T → Answer T A → Type 0
Exact L height limit ts (Read a rest) = (rest ≡ []) × L a ts × (height a ≤ limit)
Exact L height limit ts (Stuck Unexpected rest) = FirstWrong L height limit ts (place_in ts rest)
Exact L height limit ts (Stuck TooDeep rest) = FirstDeep L height limit ts (place_in ts rest)
