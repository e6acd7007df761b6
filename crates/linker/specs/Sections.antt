-- Where the sections of one kind lie: in the order of the objects, each at the next multiple of a unit, with zeros between (this
-- project's own).
use Rattle.std.specs.Prelude.{ℕ, ◌+◌, ◌-◌, ◌*◌, ◌/◌, List, [], ◌∷◌, length, map}
use Rattle.elf_base.specs.Layout.{Piece, piece}
use Rattle.elf_obj.specs.Object.{Object}

-- the least multiple of a unit that is at least n
abbrev pub round_up : ℕ → ℕ → ℕ
round_up unit n = (n + (unit - 1)) / unit * unit

-- where sections of these lengths begin, the first one at the next multiple of the unit from a place on
abbrev pub starts : ℕ → ℕ → List ℕ → List ℕ
starts unit at [] = []
starts unit at (n ∷ ns) = round_up unit at ∷ starts unit (round_up unit at + n) ns

-- where the last of them ends; the place itself where there is none
abbrev pub ends : ℕ → ℕ → List ℕ → ℕ
ends unit at [] = at
ends unit at (n ∷ ns) = ends unit (round_up unit at + n) ns

-- sections with these contents, likewise
abbrev pub laid : ℕ → ℕ → List (List ℕ) → List Piece
laid unit at [] = []
laid unit at (c ∷ cs) = piece (round_up unit at) c ∷ laid unit (round_up unit at + length c) cs

-- how many words each object has, and how many bytes of each kind of data
abbrev pub word_counts : List Object → List ℕ
word_counts objects = map (λ o. length o.words) objects

abbrev pub rodata_sizes : List Object → List ℕ
rodata_sizes objects = map (λ o. length o.rodata) objects

abbrev pub init_sizes : List Object → List ℕ
init_sizes objects = map (λ o. length o.init_bytes) objects

abbrev pub zero_sizes : List Object → List ℕ
zero_sizes objects = map (λ o. o.zero_bytes) objects

-- a list in which each element has been replaced, by its number, counted from a number
abbrev pub each_from : {A B : Type 0} → ℕ → (ℕ → A → B) → List A → List B
each_from k f [] = []
each_from k f (x ∷ xs) = f k x ∷ each_from (k + 1) f xs
