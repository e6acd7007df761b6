-- The languages that others are made of.
use Rattle.std.specs.Prelude.{◌≡◌, List, [], ◌∷◌, ◌++◌, Option, Some, ◌⊎◌, Bool, false}
use Rattle.c_parse_base.specs.Reading.Good.{Language, StartsIn}

-- one token that has a value
pub data Word {T A : Type 0} (pick : T → Option A) : A → List T → Type 0 where
  word_of : {x : T} {a : A} → pick x ≡ Some a → Word pick a (x ∷ [])

-- a word of the one language, and behind it a word of the other, which may hang on the first value
pub data Then {T A B : Type 0} (L : Language T A) (M : A → Language T B) : A × B → List T → Type 0 where
  join : {a : A} {b : B} {u v : List T} → L a u → M a b v → Then L M (a, b) (u ++ v)

-- the words of the one language or of the other
abbrev pub Either : {T A : Type 0} → Language T A → Language T A → Language T A
Either L M a w = L a w ⊎ M a w

-- a word, and behind it any number of further ones, each of which makes a new value of the one before
pub data Chain {T A : Type 0} (L : Language T A) (S : A → Language T A) : A → List T → Type 0 where
  once : {a : A} {w : List T} → L a w → Chain L S a w
  again : {a b : A} {w u : List T} → Chain L S a w → S a b u → Chain L S b (w ++ u)

-- a word, and perhaps another behind it, which makes a new value of the first one
pub data Perhaps {T A : Type 0} (L : Language T A) (S : A → Language T A) : A → List T → Type 0 where
  alone : {a : A} {w : List T} → L a w → Perhaps L S a w
  followed : {a b : A} {w u : List T} → L a w → S a b u → Perhaps L S b (w ++ u)

-- nothing goes on behind a word of one token
abbrev pub nothing : {T A : Type 0} → A → T → Bool
nothing a x = false

-- every value fits
abbrev pub Always : {A : Type 0} → A → Type 0
Always a = Unit {0}

-- the same words, for other values
pub record Made {T A B : Type 0} (f : A → B) (L : Language T A) (b : B) (w : List T) : Type 0 where
  pub source : A
  pub is : f source ≡ b
  pub word : L source w
