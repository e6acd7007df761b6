-- When a parser reads a language, with the exact places of its faults.
use Rattle.std.specs.Prelude.{◌≡◌, Bool, true, false, List, [], ◌∷◌, ◌++◌}
use Rattle.c_parse_base.specs.declared.fault.Fault.{Fault}
use Rattle.c_parse_base.specs.declared.fault.Fault.TheVariants.{Unexpected, TooDeep}
use Rattle.c_parse_base.specs.Reading.Answer.{Answer, Read, Stuck, Parser}

-- a language: which tokens spell which value
abbrev pub Language : Type 0 → Type 0 → Type 1
Language T A = A → List T → Type 0

-- some word of the language begins with these tokens
pub record Begins {T A : Type 0} (L : Language T A) (taken : List T) : Type 0 where
  pub value : A
  pub more : List T
  pub whole : L value (taken ++ more)

-- some word of the language whose value fits begins with these tokens
pub record BeginsFitting {T A : Type 0} (L : Language T A) (Fits : A → Type 0) (taken : List T) : Type 0 where
  pub value : A
  pub more : List T
  pub whole : L value (taken ++ more)
  pub fits : Fits value

-- nothing is left, or the next token is none of these
abbrev pub Stops : {T : Type 0} → (T → Bool) → List T → Type 0
Stops goes_on [] = Unit {0}
Stops goes_on (x ∷ ts) = goes_on x ≡ false

-- the answer after these tokens hangs on the next one alone
abbrev pub Local : {T A : Type 0} → Parser T A → List T → List T → Parser T A → Type 0
Local p taken [] answer = Unit {0}
Local {T} p taken (x ∷ ts) answer = (other : List T) → p (taken ++ x ∷ other) ≡ answer (x ∷ other)

-- what was read is a word whose value fits
pub record Reads {T A : Type 0} (p : Parser T A) (L : Language T A) (Fits : A → Type 0) (ts : List T) (value : A)
    (rest : List T) : Type 0 where
  pub taken : List T
  pub parts : ts ≡ taken ++ rest
  pub whole : L value taken
  pub fits : Fits value
  pub at_next : Local p taken rest (Read value)

-- at the end a word is unfinished, and a token is too deep only where some word begins so
abbrev pub Blames : {T A : Type 0} → Language T A → Fault → List T → List T → Type 0
Blames L f taken [] = f ≡ Unexpected
Blames L f taken (x ∷ ts) = f ≡ TooDeep → Begins L (taken ++ x ∷ [])

-- what was taken before the fault begins a word that fits
pub record IsStuck {T A : Type 0} (p : Parser T A) (L : Language T A) (Fits : A → Type 0) (ts : List T) (f : Fault)
    (rest : List T) : Type 0 where
  pub taken : List T
  pub parts : ts ≡ taken ++ rest
  pub begun : BeginsFitting L Fits taken
  pub at_next : Local p taken rest (Stuck f)
  pub blames : Blames L f taken rest

-- what an answer tells
abbrev pub Tells : {T A : Type 0} → Parser T A → Language T A → (A → Type 0) → List T → Answer T A → Type 0
Tells p L Fits ts (Read value rest) = Reads p L Fits ts value rest
Tells p L Fits ts (Stuck f rest) = IsStuck p L Fits ts f rest

-- a word is not empty, and begins with one of these tokens
pub record StartsIn {T : Type 0} (first : T → Bool) (w : List T) : Type 0 where
  pub head : T
  pub tail : List T
  pub parts : w ≡ head ∷ tail
  pub is_first : first head ≡ true

-- Every word whose value fits is read where it is followed by a token that does not go on, and each answer tells what it has to.
pub record Good {T A : Type 0} (p : Parser T A) (L : Language T A) (Fits : A → Type 0) (first : T → Bool)
    (goes_on : A → T → Bool) : Type 0 where
  pub some : BeginsFitting L Fits []
  pub starts : (a : A) (w : List T) → L a w → StartsIn first w
  pub complete : (a : A) (w rest : List T) → L a w → Fits a → Stops (goes_on a) rest → p (w ++ rest) ≡ Read a rest
  pub tells : (ts : List T) → Tells p L Fits ts (p ts)
