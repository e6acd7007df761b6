-- Laying pieces out one after the other, with zeros before each.
use Rattle.std.specs.Prelude.{ℕ, ◌-◌, List, [], ◌∷◌, ◌++◌, length, replicate}
use Rattle.elf_base.specs.Layout.{Piece}

-- zeros up to a place
unfoldable pub pad : ℕ → List ℕ → List ℕ
pad place out = out ++ replicate (place - length out) 0

-- one piece more
unfoldable pub put : Piece → List ℕ → List ℕ
put p out = pad p.place out ++ p.bytes

abbrev pub put_all : List Piece → List ℕ → List ℕ
put_all [] out = out
put_all (p ∷ ps) out = put_all ps (put p out)
