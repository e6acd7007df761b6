-- A file as a list of places and the bytes that stand there, with zeros between.
use Rattle.std.specs.Prelude.{◌≡◌, ℕ, ◌+◌, ◌<◌, ◌≤◌, ◌⊎◌, List, [], ◌∷◌, length, slice_index}
use Rattle.elf_base.specs.Field.{StandsAt, number, bytes_of}

-- bytes and the place where they stand
pub record Piece : Type 0 where
  pub place : ℕ
  pub bytes : List ℕ

abbrev pub piece : ℕ → List ℕ → Piece
piece place bytes = record { place = place; bytes = bytes }

-- each piece stands at its place
abbrev pub AllStand : List ℕ → List Piece → Type 0
AllStand file [] = Unit {0}
AllStand file (p ∷ ps) = StandsAt file p.place p.bytes × AllStand file ps

-- a place that no piece covers
abbrev pub IsGap : ℕ → List Piece → Type 0
IsGap i [] = Unit {0}
IsGap i (p ∷ ps) = ((i < p.place) ⊎ (p.place + length p.bytes ≤ i)) × IsGap i ps

-- a file of so many bytes in which the pieces stand at their places, and zeros between them
pub record IsLaidOut (ps : List Piece) (size : ℕ) (file : List ℕ) : Type 0 where
  pub len : length file ≡ size
  pub stand : AllStand file ps
  pub gaps : (i : ℕ) → IsGap i ps → slice_index file i ≡ 0

-- the bytes of an instruction
abbrev pub word_bytes : ℕ → List ℕ
word_bytes w = bytes_of (number 4 w ∷ [])
