-- The files of a job, read in turn: each is handed on, and something is made of its bytes or they are refused, before the next
-- one is read (this project's own).
use Rattle.std.specs.Prelude.{◌≡◌, ℕ, suc, min, List, [], ◌∷◌, map}
use Rattle.std.specs.Borrow.{Bor}
use Rattle.mt_answers.specs.Read.{CauseOfNoBytes}
use Rattle.mt_answers.specs.Seen.{FilesSeen, MayHold}
use Rattle.mt_answers.specs.declared.ended.Why.{Why}

-- a file's number, from 0, as 32 bits tell it: one that they do not hold is told as their last number
abbrev pub file_number : ℕ → ℕ
file_number n = min n 4294967295

-- What a command makes of a file's bytes, and for what reasons it refuses those of the file with a number.
pub record Step (B : Type 0) : Type 1 where
  pub Makes : List ℕ → B → Type 0
  pub Refuses : ℕ → List ℕ → Why → Type 0

-- the files, in order, hold these bytes, where they are told
abbrev pub Hold : FilesSeen → List (List ℕ) → List (List ℕ) → Type 0
Hold seen [] [] = Unit {0}
Hold seen (file ∷ files) (bytes ∷ rest) = MayHold seen file bytes × Hold seen files rest
Hold seen _ _ = ⊥

-- ---- each file has given something

-- this was made of the bytes of the file
pub record IsMadeOf {B : Type 0} (step : Step B) (seen : FilesSeen) (file : List ℕ) (made : B) : Type 0 where
  pub bytes : List ℕ
  pub holds : MayHold seen file bytes
  pub makes : step.Makes bytes made

-- these were made of the files, in order
abbrev pub AreMadeOf : {B : Type 0} → Step B → FilesSeen → List (List ℕ) → List B → Type 0
AreMadeOf step seen [] [] = Unit {0}
AreMadeOf step seen (file ∷ files) (made ∷ rest) = IsMadeOf step seen file made × AreMadeOf step seen files rest
AreMadeOf step seen _ _ = ⊥

-- ---- or one has given nothing

-- The file with this number gave nothing, for this reason: it was not read, or its bytes were refused.
pub data StopsAt {B : Type 0} (step : Step B) (number : ℕ) (file : List ℕ) (before after : FilesSeen) (why : Why) : Type 0 where
  unread : CauseOfNoBytes number file before after why → StopsAt step number file before after why
  refused : (bytes : List ℕ) → MayHold before file bytes → step.Refuses number bytes why → StopsAt step number file before after why

-- One of the files gave nothing, for this reason, and each file in front of it gave something. The first of them has the number n.
pub data Stops {B : Type 0} (step : Step B) (before after : FilesSeen) : ℕ → List (List ℕ) → Why → Type 0 where
  here : {n : ℕ} {file : List ℕ} {files : List (List ℕ)} {why : Why} → StopsAt step (file_number n) file before after why →
      Stops step before after n (file ∷ files) why
  later : {n : ℕ} {file : List ℕ} {files : List (List ℕ)} {why : Why} (made : B) → IsMadeOf step before file made →
      Stops step before after (suc n) files why → Stops step before after n (file ∷ files) why

-- ---- as the program holds them

-- the names behind references
abbrev pub names_of : List (Bor (List ℕ)) → List (List ℕ)
names_of = map (λ name. name.now)

-- the same step, of what the program holds in the place of what is made
abbrev pub viewed : {A B : Type 0} → (A → B) → Step B → Step A
viewed view step = record { Makes = λ bytes held. step.Makes bytes (view held); Refuses = step.Refuses }
