-- The code of a translation unit.
use Rattle.std.specs.Prelude.{◌≡◌, ℕ, suc, pos, ◌+◌, ◌-◌, ◌*◌, List, [], ◌∷◌, ◌++◌, length, flat_map, Option, Some, None}
use Rattle.c_type_base.specs.declared.typed.StructInfo.{StructInfo}
use Rattle.c_type_base.specs.declared.typed.TFunction.{TFunction}
use Rattle.c_type_base.specs.declared.typed.Typed.{Typed}
use Rattle.a64_code.specs.Row.{Row}
use Rattle.gen_unit.specs.declared.parts.CodeReloc.{CodeReloc}
use Rattle.gen_unit.specs.declared.parts.Place.{Place}
use Rattle.gen_unit.specs.declared.parts.UnitCode.{UnitCode}
use Rattle.gen_unit.specs.Functions.{function_words}
use Rattle.gen_unit.specs.Words.{Word, Wanted}

-- ---- places

-- a function stands from one place in words to another
abbrev pub place_of : ℕ → ℕ → TFunction → Place
place_of from to f = record { name = f.name; local = f.local; start = 4 * from; bytes = 4 * (to - from) }

-- the functions stand one behind the other, from a place in words on
abbrev pub places_from : List StructInfo → ℕ → List TFunction → List Place
places_from structs at [] = []
places_from structs at (f ∷ fs) = let words = length (function_words structs f) in
    record { name = f.name; local = f.local; start = 4 * at; bytes = 4 * words } ∷ places_from structs (at + words) fs

-- ---- words

abbrev pub all_words : List StructInfo → List TFunction → List Word
all_words structs fs = flat_map (function_words structs) fs

-- each number is the word of an instruction
abbrev pub AreWords : List ℕ → List Word → Type 0
AreWords [] [] = Unit {0}
AreWords (n ∷ ns) (w ∷ ws) = Row n w.instr × AreWords ns ws
AreWords _ _ = ⊥

-- the words that wait, from a place in words on
abbrev pub reloc_of : ℕ → Option Wanted → List CodeReloc
reloc_of at None = []
reloc_of at (Some w) = record { offset = 4 * at; kind = w.kind; target = w.target; addend = pos 0 } ∷ []

abbrev pub relocs_from : ℕ → List Word → List CodeReloc
relocs_from at [] = []
relocs_from at (w ∷ ws) = reloc_of at w.wants ++ relocs_from (suc at) ws

-- the code of a unit
pub record IsCodeOf (typed : Typed) (code : UnitCode) : Type 0 where
  pub words : AreWords code.words.items (all_words typed.structs typed.functions)
  pub functions : code.functions.items ≡ places_from typed.structs 0 typed.functions
  pub relocs : code.relocs.items ≡ relocs_from 0 (all_words typed.structs typed.functions)
