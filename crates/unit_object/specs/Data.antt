-- The bytes of a file's texts and objects before the program begins (ISO C11 5.1.2, 6.4.5, 6.7.9), each in whole granules.
use Rattle.std.specs.Prelude.{ℕ, ◌+◌, ◌-◌, List, [], ◌∷◌, ◌++◌, length, take, drop, replicate, flat_map}
use Rattle.byteorder.specs.Endian.{little_bytes}
use Rattle.mt_base.specs.Granules.{round16}
use Rattle.c_type_base.specs.declared.typed.GlobalInfo.{GlobalInfo}
use Rattle.c_type_base.specs.declared.typed.InitPiece.{InitPiece}
use Rattle.c_type_base.specs.declared.typed.InitValue.{InitValue}
use Rattle.c_type_base.specs.declared.typed.InitValue.TheVariants as initial
use Rattle.c_type_base.specs.declared.typed.StructInfo.{StructInfo}
use Rattle.c_type_base.specs.Sizes.{size}

-- ---- texts

-- with zeros behind, up to the next granule
abbrev pub padded : List ℕ → List ℕ
padded bytes = bytes ++ replicate (round16 (length bytes) - length bytes) 0

abbrev pub text_bytes : List (List ℕ) → List ℕ
text_bytes texts = flat_map padded texts

-- ---- objects

-- so many bytes of a section belong to an object
abbrev pub room : List StructInfo → GlobalInfo → ℕ
room structs g = round16 (size structs g.ty)

abbrev pub rooms : List StructInfo → List GlobalInfo → ℕ
rooms structs [] = 0
rooms structs (g ∷ gs) = room structs g + rooms structs gs

-- a pointer to something is put there when its address is known
abbrev pub value_bytes : InitValue → List ℕ
value_bytes (initial.Number n bytes) = little_bytes bytes n
value_bytes (initial.Address t offset) = replicate 8 0

-- these bytes, and at a place of them others
abbrev pub with_bytes : ℕ → List ℕ → List ℕ → List ℕ
with_bytes at new bytes = take at bytes ++ new ++ drop (at + length new) bytes

abbrev pub with_pieces : List InitPiece → List ℕ → List ℕ
with_pieces [] bytes = bytes
with_pieces (p ∷ ps) bytes = with_pieces ps (with_bytes p.offset (value_bytes p.value) bytes)

-- what has no initial is zero
abbrev pub object_bytes : List StructInfo → GlobalInfo → List ℕ
object_bytes structs g = with_pieces g.init (replicate (room structs g) 0)

abbrev pub all_bytes : List StructInfo → List GlobalInfo → List ℕ
all_bytes structs gs = flat_map (object_bytes structs) gs
