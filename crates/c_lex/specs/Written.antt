-- How one byte is written between quotes (C11 6.4.4.4 and 6.4.5, without wide and prefixed literals).
use Rattle.std.specs.Prelude.{◌≡◌, ◌≢◌, ℕ, IsTrue, ◌<◌, ◌≤◌, List, [], ◌∷◌, length, take, drop, Some}
use Rattle.c_lex.specs.Digits.{are_digits, number_of}
use Rattle.c_lex.specs.Escape.{simple_escape, is_plain}

-- These bytes write this value between quotes of this kind, whatever its size.
pub data Writes (quote value : ℕ) (bytes : List ℕ) : Type 0 where
  -- a byte that stands for itself
  plain : bytes ≡ value ∷ [] → value ≢ quote → value ≢ 92 → IsTrue (is_plain quote value) → Writes quote value bytes
  -- a backslash, and a letter or a mark
  simple : {b : ℕ} → bytes ≡ 92 ∷ b ∷ [] → simple_escape b ≡ Some value → Writes quote value bytes
  -- a backslash, and one to three octal digits
  octal : {digits : List ℕ} → bytes ≡ 92 ∷ digits → IsTrue (are_digits 8 digits) → 1 ≤ length digits → length digits ≤ 3 →
      value ≡ number_of 8 digits → Writes quote value bytes
  -- a backslash, `x`, and one hexadecimal digit or more
  hexadecimal : {digits : List ℕ} → bytes ≡ 92 ∷ 120 ∷ digits → IsTrue (are_digits 16 digits) → 1 ≤ length digits →
      value ≡ number_of 16 digits → Writes quote value bytes

-- The first bytes write this value, and no more bytes from there on write one: an escape has as many digits as follow.
pub record WrittenAt (quote : ℕ) (rest : List ℕ) (value bytes : ℕ) : Type 0 where
  pub within : bytes ≤ length rest
  pub writes : Writes quote value (take bytes rest)
  pub longest : (more other : ℕ) → bytes < more → more ≤ length rest → ¬ Writes quote other (take more rest)

-- nothing that stands for a byte is written at the front
abbrev pub IsUnwritten : ℕ → List ℕ → Type 0
IsUnwritten quote rest = (bytes value : ℕ) → bytes ≤ length rest → ¬ Writes quote value (take bytes rest)

-- a quote, one byte as it is written, and a quote (C11 6.4.4.4)
pub record IsCharacter (value : ℕ) (bytes : List ℕ) : Type 0 where
  pub rest : List ℕ
  pub count : ℕ
  pub opens : bytes ≡ 39 ∷ rest
  pub written : WrittenAt 39 rest value count
  pub small : value ≤ 255
  pub closes : drop count rest ≡ 39 ∷ []

-- from behind the opening quote of a string on: bytes as they are written, in turn, and the closing quote
pub data ClosesAfter : List ℕ → List ℕ → Type 0 where
  close : {rest : List ℕ} → rest ≡ 34 ∷ [] → ClosesAfter [] rest
  more : {rest values : List ℕ} (value count : ℕ) → WrittenAt 34 rest value count → value ≤ 255 → ClosesAfter values (drop count rest) →
      ClosesAfter (value ∷ values) rest

-- a quote, bytes as they are written, and a quote (C11 6.4.5)
pub record IsText (values bytes : List ℕ) : Type 0 where
  pub rest : List ℕ
  pub opens : bytes ≡ 34 ∷ rest
  pub closes : ClosesAfter values rest
