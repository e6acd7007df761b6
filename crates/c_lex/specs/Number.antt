-- The number at the front of a text, as a preprocessing number (C11 6.4.8), and how far it may be an integer constant.
use Rattle.std.specs.Prelude.{ℕ, Bool, IsTrue, false, ◌<◌, ◌≤◌, ◌&&◌, List, [], ◌∷◌, ◌++◌, length, take}
use Rattle.std.specs.List.{list_all}
use Rattle.std.specs.Char.{is_ascii_digit}
use Rattle.c_lex.specs.Bytes.{is_numeral_byte}
use Rattle.c_lex.specs.Constant.{IsInteger}

-- a digit, then digits, letters, `_` and `.`: one without signs or a leading period
abbrev pub is_preprocessing_number : List ℕ → Bool
is_preprocessing_number [] = false
is_preprocessing_number (b ∷ rest) = is_ascii_digit b && list_all is_numeral_byte rest

-- the first bytes are one, and no more bytes from there on are
pub record NumberAt (rest : List ℕ) (bytes : ℕ) : Type 0 where
  pub within : bytes ≤ length rest
  pub number : IsTrue (is_preprocessing_number (take bytes rest))
  pub longest : (more : ℕ) → bytes < more → more ≤ length rest → ¬ IsTrue (is_preprocessing_number (take more rest))

-- some integer constant begins with these bytes
pub record BeginsInteger (bytes : List ℕ) : Type 0 where
  pub more : List ℕ
  pub integer : IsInteger (bytes ++ more)

-- some integer constant begins with so many of these bytes, and none with more of them
pub record FitsTo (bytes : List ℕ) (place : ℕ) : Type 0 where
  pub within : place ≤ length bytes
  pub begins : BeginsInteger (take place bytes)
  pub longest : (more : ℕ) → place < more → more ≤ length bytes → ¬ BeginsInteger (take more bytes)
