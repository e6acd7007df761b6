-- The fields of a word.
use Rattle.std.specs.Prelude.{ℕ, ◌+◌, ◌-◌, ◌*◌, ◌/◌, ◌%◌, ◌^◌, ◌<◌, List, [], ◌∷◌}

-- A field with what it holds: its lowest bit, its number of bits, and its value.
pub record Field : Type 0 where
  pub low : ℕ
  pub width : ℕ
  pub value : ℕ

-- A field by its lowest bit, its number of bits and its value.
abbrev pub at : ℕ → ℕ → ℕ → Field
at low width value = record { low = low; width = width; value = value }

-- What the fields hold.
abbrev pub values : List Field → List ℕ
values [] = []
values (f ∷ fs) = f.value ∷ values fs

-- Each field is within its width.
abbrev pub AllFit : List Field → Type 0
AllFit [] = Unit {0}
AllFit (f ∷ fs) = (f.value < 2 ^ f.width) × AllFit fs

-- The fields at their places, in a word that is otherwise zero.
abbrev pub placed : List Field → ℕ
placed [] = 0
placed (f ∷ fs) = f.value * 2 ^ f.low + placed fs

-- The number that stands in a word's bits from `low` on, `width` of them.
abbrev pub bits : ℕ → ℕ → ℕ → ℕ
bits word low width = word / 2 ^ low % 2 ^ width

-- The same fields with what a word holds there.
abbrev pub fields_of : ℕ → List Field → List Field
fields_of word [] = []
fields_of word (f ∷ fs) = at f.low f.width (bits word f.low f.width) ∷ fields_of word fs

-- Ones in the bits below `top` where no field stands. The fields stand from the highest down.
abbrev pub bits_beside : ℕ → List Field → ℕ
bits_beside top [] = 2 ^ top - 1
bits_beside top (f ∷ fs) = (2 ^ (top - (f.width + f.low)) - 1) * 2 ^ (f.width + f.low) + bits_beside f.low fs
