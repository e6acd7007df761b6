-- What a record of a file is: its fields, one after the other and without gaps (ELF64).
use Rattle.std.specs.Prelude.{◌≡◌, ℕ, ℤ, ◌+◌, ◌<◌, ◌^◌, List, [], ◌∷◌, ◌++◌, length, take, drop, FitsSigned}
use Rattle.std.specs.Int.{w64, cast_unsigned}
use Rattle.byteorder.specs.Endian.{little_bytes}

-- a field: its width in bytes, and the number or the bytes that it holds; a signed number has 8 bytes
pub data Field : Type 0 where
  number : ℕ → ℕ → Field
  signed : ℤ → Field
  raw : ℕ → List ℕ → Field

-- how many bytes a field has
abbrev pub width_of : Field → ℕ
width_of (number width n) = width
width_of (signed z) = 8
width_of (raw width bytes) = width

-- the bytes of a field: a number's lowest byte first, two's complement where it is signed
unfoldable pub field_bytes : Field → List ℕ
field_bytes (number width n) = little_bytes width n
field_bytes (signed z) = little_bytes 8 (cast_unsigned w64 z)
field_bytes (raw width bytes) = bytes

-- the bytes of a record, by its fields
abbrev pub bytes_of : List Field → List ℕ
bytes_of [] = []
bytes_of (f ∷ fs) = field_bytes f ++ bytes_of fs

-- how many bytes a record has
abbrev pub total_width : List Field → ℕ
total_width [] = 0
total_width (f ∷ fs) = width_of f + total_width fs

-- what a field holds fits its width
abbrev pub FieldFits : Field → Type 0
FieldFits (number width n) = n < 256 ^ width
FieldFits (signed z) = FitsSigned w64 z
FieldFits (raw width bytes) = length bytes ≡ width

-- what each field of a record holds fits its width
abbrev pub FieldsFit : List Field → Type 0
FieldsFit [] = Unit {0}
FieldsFit (f ∷ fs) = FieldFits f × FieldsFit fs

-- these bytes stand in a file from a place on
abbrev pub StandsAt : List ℕ → ℕ → List ℕ → Type 0
StandsAt file at bytes = take (length bytes) (drop at file) ≡ bytes
